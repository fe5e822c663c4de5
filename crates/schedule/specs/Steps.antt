-- What the code of this crate works with, between its modules: the header's numbers, a record's fields, a step, a walk over the whole file.
--
--   HeaderRead s r     what the header's reader answers: the file with what its header says, or that this is bad
--   fields_in s i      the fields of record i
--   right x e n last   the fields x are right behind a stamp that ended at e, with n stamp octets: else refusal 14
--   instant_in o       the instant of what was read
--   timed r            what reading a record's stamp answers
--   before_from b      what came before, in the paper's terms
--   taken i t          record i, in the paper's terms
--   stepped i r        what a step answers about record i
--   shown t p a        what is shown of a record at the place p, in a file whose stamp octets start at a
--   GoodAlone s i      record i is good by itself
--   ending i w         what a run from record i on comes to: the number read, or a fault, its place and number
--   Passed s t i       record i is good, and not later than t
--   Stands s t i e     where a run from record i on ended, up to the first record later than t
--   Runs s t i b r     what such a run answers
--   Walks s t r        what one from the front of a file with a right header answers
--   EndsBy s e         what is known of the records passed, whatever the run was for
--   last_place s c n   the place of the last record of the channel c among the first n, from one
--   FoundLast s c n r  r is that place, or none
--   held_at s p        what holds, by its place
--   Latest s c n r     r is that record, or none
--   HeldIn s t c r     r is what the question answers, whatever the count
use Rattle.std.specs.Prelude.{ℕ, zero, suc, ◌+◌, ◌-◌, ◌≤◌, ◌<◌, ◌≡◌, Bool, true, false, List, ℤ, negsuc, nat_abs, leb, eqb, length, Option, Some, None, Result, Ok, Err}
use Rattle.std.specs.Int.Signed.{le_z}
use Rattle.format.specs.Words.{pick, both, Outcome, accepted, refused}
use Rattle.format.specs.Values.{Answer}
use Rattle.moments.specs.Instant.{instant_of}
use Rattle.values.specs.Meaning as values
use Rattle.card.specs.Header.{twelve, header_good, count_of}
use Rattle.card.specs.Records.{start_at, length_at, channel_at, correction_at, instant_at, Record as FileRecord, record_at}
use Rattle.card.specs.Step.{at, Before as FileBefore, channel_good, greatest_correction, placed, step}
use Rattle.card.specs.Reading.{Walked, fault, walk, walk_file}
use Rattle.card.specs.Reading as card
use Rattle.card.specs.Question.{Held, none_yet, holds, Asked, later, held_in_file, question}
use Rattle.schedule.specs.declared.Record.{Record}
use Rattle.schedule.specs.declared.Refusal.{Refusal}
use Rattle.schedule.specs.declared.Fault.{Fault}
use Rattle.values.specs.declared.refusal.Refusal.{Refusal as StampRefusal}
use Rattle.schedule.specs.declared.header.Card.{Card}
use Rattle.schedule.specs.declared.fields.Fields.{Fields}
use Rattle.schedule.specs.declared.walk.Before.{Before}
use Rattle.schedule.specs.declared.walk.Taken.{Taken}
use Rattle.schedule.specs.declared.walk.Ended.{Ended}
use Rattle.schedule.specs.Meaning.{refusal_number, held_from}

-- ---- the header

abbrev pub HeaderRead : List ℕ → Option Card → Type 0
HeaderRead s (Some c) = c.file.now ≡ s
HeaderRead s None = header_good twelve s ≡ false

-- ---- a record

abbrev pub fields_in : List ℕ → ℕ → Fields
fields_in s i =
    record {
      start = start_at twelve s i;
      length = length_at twelve s i;
      channel = channel_at twelve s i;
      correction = correction_at twelve s i;
    }

unfoldable pub right : Fields → ℕ → ℕ → Bool → Bool
right x ended octets last =
    both (channel_good x.channel)
    (both (leb (nat_abs x.correction) greatest_correction)
    (placed x.start (x.start + x.length) ended octets last))

abbrev pub instant_in : Outcome Answer → Outcome ℤ
instant_in (accepted a) = accepted (instant_of a.value)
instant_in (refused n) = refused n

abbrev pub timed : Result ℤ StampRefusal → Outcome ℤ
timed (Ok i) = accepted i
timed (Err f) = refused (values.refusal_number f)

-- ---- from record to record

abbrev pub before_from : Before → FileBefore
before_from b = record { ended = b.ended; last = at b.last }

abbrev pub taken : ℕ → Taken → FileRecord
taken i t =
    record {
      place = suc i;
      start = t.fields.start;
      size = t.fields.length;
      channel = t.fields.channel;
      correction = t.fields.correction;
      instant = t.instant;
    }

abbrev pub stepped : ℕ → Result Taken Refusal → Outcome FileRecord
stepped i (Ok t) = accepted (taken i t)
stepped i (Err f) = refused (refusal_number f)

-- ---- the whole file

abbrev pub shown : Taken → ℕ → ℕ → Record
shown t p a =
    record {
      place = p;
      start = a + t.fields.start;
      length = t.fields.length;
      channel = t.fields.channel;
      correction = t.fields.correction;
      instant = record { micros = t.instant };
    }

-- ---- a run of records, and a walk from the front

-- what came before record i, where it is read by itself: a stamp that ended where its own starts, and no instant, for which the code has the least number
abbrev pub alone : List ℕ → ℕ → FileBefore
alone s i = record { ended = start_at twelve s i; last = at (negsuc 9223372036854775807) }

abbrev pub GoodAlone : List ℕ → ℕ → Type 0
GoodAlone s i = step twelve s i (alone s i) ≡ accepted (record_at twelve s i)

pub data Ending : Type 0 where
  ended : ℕ → Ending
  faulty : ℕ → ℕ → Ending

-- from record i on
abbrev pub ending : ℕ → Walked → Ending
ending i (card.taken rs) = ended (i + length rs)
ending i (fault q n) = faulty q n

-- record i was passed by a run up to t
pub record Passed (s : List ℕ) (t : ℤ) (i : ℕ) : Type 0 where
  pub good : GoodAlone s i
  pub soon : le_z (instant_at twelve s i) t ≡ true

-- at most one record was read and not passed, and it is later
pub record Stands (s : List ℕ) (t : ℤ) (i : ℕ) (e : Ended) : Type 0 where
  pub few : e.read ≤ count_of s
  pub least : e.passed ≤ e.read
  pub most : e.read ≤ suc e.passed
  pub each : (j : ℕ) → i ≤ j → j < e.passed → Passed s t j
  pub late : e.passed < e.read → le_z (instant_at twelve s e.passed) t ≡ false
  pub last : (j : ℕ) → i ≤ j → e.passed ≡ suc j → e.last ≡ instant_at twelve s j
  pub instant : (j : ℕ) → i ≤ j → e.read ≡ suc j → e.instant ≡ instant_at twelve s j

abbrev pub Runs : List ℕ → ℤ → ℕ → FileBefore → Result Ended Fault → Type 0
Runs s t i b (Ok e) = Stands s t i e × (ending i (walk twelve s (later t) i (count_of s - i) b) ≡ ended e.read)
Runs s t i b (Err f) = ending i (walk twelve s (later t) i (count_of s - i) b) ≡ faulty f.place (refusal_number f.refusal)

abbrev pub Walks : List ℕ → ℤ → Result Ended Fault → Type 0
Walks s t (Ok e) = Stands s t 0 e × (ending 0 (walk_file twelve s (later t)) ≡ ended e.read)
Walks s t (Err f) = ending 0 (walk_file twelve s (later t)) ≡ faulty f.place (refusal_number f.refusal)

-- what is shown needs, of any run from the front
pub record EndsBy (s : List ℕ) (e : Ended) : Type 0 where
  pub few : e.passed ≤ count_of s
  pub each : (j : ℕ) → j < e.passed → GoodAlone s j
  pub last : (j : ℕ) → e.passed ≡ suc j → e.last ≡ instant_at twelve s j

-- ---- the last of a channel

unfoldable pub last_place : List ℕ → ℕ → ℕ → ℕ
last_place s c zero = 0
last_place s c (suc i) = pick (eqb (channel_at twelve s i) c) (suc i) (last_place s c i)

abbrev pub FoundLast : List ℕ → ℕ → ℕ → Option ℕ → Type 0
FoundLast s c n None = last_place s c n ≡ 0
FoundLast s c n (Some p) = (0 < p) × (last_place s c n ≡ p)

-- by its place from one, of which 0 is none
abbrev pub held_at : List ℕ → ℕ → Held
held_at s zero = none_yet
held_at s (suc i) = holds (record_at twelve s i)

-- as it stands in the file
abbrev pub Latest : List ℕ → ℕ → ℕ → Option Record → Type 0
Latest s c n r = held_from r ≡ held_in_file twelve s (held_at s (last_place s c n))

abbrev pub held_asked : ℕ → Result (Option Record) Refusal → Outcome Asked
held_asked n (Ok r) = accepted (record { read = n; held = held_from r })
held_asked n (Err f) = refused (refusal_number f)

abbrev pub HeldIn : List ℕ → ℤ → ℕ → Result (Option Record) Refusal → Type 0
HeldIn s t c r = (k : ℕ) × (held_asked k r ≡ question twelve s t c)
