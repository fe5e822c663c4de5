-- No two different answers meet the promise that a public call's contract cites (specs/Calls). What an answer means can be undone. Assumes nothing.
use mathlib.Core.Path.{◌≡◌, refl, sym, ap, ap₂, ◌∙◌}
use mathlib.Core.List.{List}
use Prim.Native.Nat.{ℕ}
use lib.Dec.{eqb}
use denote.Ref.{Bor}
use Rattle.format.specs.Words.{pick, Outcome, accepted, refused}
use Rattle.format.specs.Promises.{OneAnswer}
use Rattle.format.proofs.Promises.{equal_one, meaning_one}
use Rattle.values.specs.declared.refusal.Refusal.TheVariants as B
use Rattle.values.proofs.OneAnswer as values
use Rattle.instants.specs.declared.Instant.{Instant}
use Rattle.card.specs.Records.{Record as FileRecord}
use Rattle.card.specs.Reading.{FullReading as FileReading, records, refused_at}
use Rattle.card.specs.Header.{twelve}
use Rattle.card.specs.Question.{Held as FileHeld, none_yet, holds, Asked as FileAsked, question}
use Rattle.card.specs.Over.{Source as FileSource, plan, manual, Part as FilePart}
use Rattle.schedule.specs.declared.Refusal.{Refusal}
use Rattle.schedule.specs.declared.Refusal.TheVariants as R
use Rattle.std.specs.Prelude.{Option, Some, None, Result, Ok, Err}
use Rattle.values.specs.declared.refusal.Refusal.{Refusal as StampRefusal}
use Rattle.schedule.specs.declared.Fault.{Fault}
use Rattle.schedule.specs.declared.Record.{Record}
use Rattle.schedule.specs.declared.Held.{Held}
use Rattle.schedule.specs.declared.parts.Source.{Source}
use Rattle.schedule.specs.declared.parts.Source.TheVariants as S
use Rattle.schedule.specs.declared.parts.Part.{Part}
use Rattle.schedule.specs.Meaning.{refusal_number, full_reading, found, held_from, asked, source_from, part_from}
use Rattle.schedule.specs.Calls.{RefusalNumber, RefusalOfStamp, RefusalOfFault, ReadsFile, FindsRecord, AsksFile, ChoosesPart, HandsBack}

refusal_of : ℕ → Refusal
refusal_of n = pick (eqb n 13) R.Header (pick (eqb n 14) R.Record (pick (eqb n 15) R.Order (R.Base (values.refusal_of n))))

refusal_back : (f : Refusal) → refusal_of (refusal_number f) ≡ f
unfolding refusal_of
refusal_back (R.Base B.Digits) = ap R.Base (values.refusal_back B.Digits)
refusal_back (R.Base B.Value) = ap R.Base (values.refusal_back B.Value)
refusal_back (R.Base B.NoCompact) = ap R.Base (values.refusal_back B.NoCompact)
refusal_back (R.Base B.Buffer) = ap R.Base (values.refusal_back B.Buffer)
refusal_back (R.Base B.Length) = ap R.Base (values.refusal_back B.Length)
refusal_back (R.Base B.Octet) = ap R.Base (values.refusal_back B.Octet)
refusal_back (R.Base B.Redundant) = ap R.Base (values.refusal_back B.Redundant)
refusal_back (R.Base B.Range) = ap R.Base (values.refusal_back B.Range)
refusal_back R.Header = refl
refusal_back R.Record = refl
refusal_back R.Order = refl

reading_of : FileReading → Result ℕ Fault
reading_of (records n) = Ok n
reading_of (refused_at p m) = Err (record { refusal = refusal_of m; place = p })

reading_back : (r : Result ℕ Fault) → reading_of (full_reading r) ≡ r
unfolding reading_of
reading_back (Ok n) = refl
reading_back (Err f) = ap (λ (x : Refusal). Err (record { refusal = x; place = f.place })) (refusal_back f.refusal)

record_of : FileRecord → Record
record_of r =
    record { place = r.place; start = r.start; length = r.size; channel = r.channel; correction = r.correction; instant = record { micros = r.instant } }

found_of : Outcome FileRecord → Result Record Refusal
found_of (accepted r) = Ok (record_of r)
found_of (refused n) = Err (refusal_of n)

found_back : (r : Result Record Refusal) → found_of (found r) ≡ r
unfolding found_of record_of
found_back (Ok r) = refl
found_back (Err f) = ap Err (refusal_back f)

held_of : FileHeld → Option Record
held_of none_yet = None
held_of (holds r) = Some (record_of r)

held_back : (x : Option Record) → held_of (held_from x) ≡ x
unfolding held_of record_of
held_back None = refl
held_back (Some r) = refl

asked_of : Outcome FileAsked → Result Held Refusal
asked_of (accepted a) = Ok (record { read = a.read; latest = held_of a.held })
asked_of (refused m) = Err (refusal_of m)

asked_back : (r : Result Held Refusal) → asked_of (asked r) ≡ r
unfolding asked_of
asked_back (Ok h) = ap (λ (x : Option Record). Ok (record { read = h.read; latest = x })) (held_back h.latest)
asked_back (Err f) = ap Err (refusal_back f)

source_of : FileSource → Source
source_of plan = S.Plan
source_of manual = S.Manual

source_back : (x : Source) → source_of (source_from x) ≡ x
unfolding source_of
source_back S.Plan = refl
source_back S.Manual = refl

part_of : FilePart → Part
part_of q = record { source = source_of q.source; start = q.start; length = q.size }

part_back : (q : Part) → part_of (part_from q) ≡ q
unfolding part_of
part_back q = ap (λ (x : Source). record { source = x; start = q.start; length = q.length }) (source_back q.source)

pub one_number : (f : Refusal) → OneAnswer (RefusalNumber f)
one_number f = equal_one _

pub one_of_stamp : (f : StampRefusal) → OneAnswer (RefusalOfStamp f)
one_of_stamp f = equal_one _

pub one_of_fault : (f : Fault) → OneAnswer (RefusalOfFault f)
one_of_fault f = equal_one _

pub one_read : (s : List ℕ) → OneAnswer (ReadsFile s)
one_read s = meaning_one full_reading reading_of reading_back _

pub one_record_at : (s : List ℕ) (p : ℕ) → OneAnswer (FindsRecord s p)
one_record_at s p = meaning_one found found_of found_back _

pub one_holds : (s : List ℕ) (i : Instant) (c : ℕ) → OneAnswer (AsksFile s i c)
one_holds s i c a b p q = meaning_one asked asked_of asked_back (question twelve s i.micros c) a b p.answer q.answer

pub one_part_over : (p m : List ℕ) (i : Instant) (c : ℕ) → OneAnswer (ChoosesPart p m i c)
one_part_over p m i c = meaning_one part_from part_of part_back _

-- as `OnePart` in claims/specs/OneAnswer.antt has it
pub one_over : (p m : Bor (List ℕ)) (i : Instant) (c : ℕ) (r r' : Bor (List ℕ)) → HandsBack p m i c r → HandsBack p m i c r'
    → (r.now ≡ r'.now) × (r.ref_ptr ≡ r'.ref_ptr)
one_over p m i c r r' h k =
    (h.octets ∙ sym k.octets, ap₂ (λ (a b : ℕ). (a, b)) (h.memory ∙ sym k.memory) (h.place ∙ sym k.place))
