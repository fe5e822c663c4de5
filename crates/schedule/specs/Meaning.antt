-- What the code's refusals and answers mean in the paper's terms.
--
--   refusal_number f   the number of a refusal: 13, 14, 15, or one of document 01's
--   full_reading r     what `read` answers: the number of records, or the refusal's number and the place, and nothing else
--   record_from r      a record
--   found r            what `record_at` answers: a record, or the refusal's number and nothing else
--   held_from x        what holds: a record, or none yet
--   asked r            what `holds` answers: the number read and what holds, or the refusal's number
--   read_in r          the number of records that `holds` says it read: 0 with a refusal
--   source_from x      one of two files
--   part_from q        what `part_over` answers: a part of one of them
use Rattle.std.specs.Prelude.{ℕ, Option, Some, None, Result, Ok, Err}
use Rattle.format.specs.Words.{Outcome, accepted, refused}
use Rattle.values.specs.Meaning as values
use Rattle.card.specs.Records.{Record as FileRecord}
use Rattle.card.specs.Reading.{FullReading as FileReading, records, refused_at}
use Rattle.card.specs.Question.{Held as FileHeld, none_yet, holds, Asked as FileAsked}
use Rattle.card.specs.Over.{Source as FileSource, plan, manual, Part as FilePart}
use Rattle.schedule.specs.declared.Refusal.{Refusal}
use Rattle.schedule.specs.declared.Refusal.TheVariants as R
use Rattle.schedule.specs.declared.Fault.{Fault}
use Rattle.schedule.specs.declared.Record.{Record}
use Rattle.schedule.specs.declared.Held.{Held}
use Rattle.schedule.specs.declared.parts.Source.{Source}
use Rattle.schedule.specs.declared.parts.Source.TheVariants as S
use Rattle.schedule.specs.declared.parts.Part.{Part}

abbrev pub refusal_number : Refusal → ℕ
refusal_number (R.Base f) = values.refusal_number f
refusal_number R.Header = 13
refusal_number R.Record = 14
refusal_number R.Order = 15

abbrev pub full_reading : Result ℕ Fault → FileReading
full_reading (Ok n) = records n
full_reading (Err f) = refused_at f.place (refusal_number f.refusal)

abbrev pub record_from : Record → FileRecord
record_from r =
    record {
      place = r.place;
      start = r.start;
      size = r.length;
      channel = r.channel;
      correction = r.correction;
      instant = r.instant.micros;
    }

abbrev pub found : Result Record Refusal → Outcome FileRecord
found (Ok r) = accepted (record_from r)
found (Err f) = refused (refusal_number f)

abbrev pub held_from : Option Record → FileHeld
held_from None = none_yet
held_from (Some r) = holds (record_from r)

abbrev pub asked : Result Held Refusal → Outcome FileAsked
asked (Ok h) = accepted (record { read = h.read; held = held_from h.latest })
asked (Err f) = refused (refusal_number f)

abbrev pub read_in : Result Held Refusal → ℕ
read_in (Ok h) = h.read
read_in (Err f) = 0

abbrev pub source_from : Source → FileSource
source_from S.Plan = plan
source_from S.Manual = manual

abbrev pub part_from : Part → FilePart
part_from q = record { source = source_from q.source; start = q.start; size = q.length }
