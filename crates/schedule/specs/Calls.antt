-- What each public call promises, whatever it is given: the legend. A contract cites the name, and so does the theorem of one answer
-- (proofs/OneAnswer). `card/specs/Reading.antt`, and `Question.antt` and `Over.antt` there, say what each comes to.
--
--   RefusalNumber f r     `u32::from(refusal)`: 2, 5 to 8, or 13 to 15
--   RefusalOfStamp f r    `Refusal::from(refusal)`, of one of document 01's: itself
--   RefusalOfFault f r    `Refusal::from(fault)`: the refusal without its place
--   ReadsFile s r         `read`: the number of records, or the first refusal and its place
--   FindsRecord s p r     `record_at`: the record at the place p, from one; the file's refusal; or 2
--   AsksFile s i c r      `holds`: what holds on the channel c at the instant i, with the number of records read; 2, or the refusal of the header or a record read
--   ChoosesPart p m i c r `part_over`: the part of the plan p or of the manual schedule m that the channel c and the instant i give, in numbers
--   PartOf s a n r        r is n octets of the lent file s from a on: these octets, in the memory of s, at their place there
--   HandsBack p m i c r   `over`: r is that part, of the one of the lent files p and m that it is a part of
use Rattle.std.specs.Prelude.{ℕ, ◌+◌, ◌≡◌, List, length, take, drop, Result}
use Rattle.std.specs.Borrow.{Bor}
use Rattle.instants.specs.declared.Instant.{Instant}
use Rattle.card.specs.Header.{twelve}
use Rattle.card.specs.Reading as card
use Rattle.card.specs.Question.{question, records_read}
use Rattle.card.specs.Over.{of_two, handed_back}
use Rattle.values.specs.declared.refusal.Refusal.{Refusal as StampRefusal}
use Rattle.schedule.specs.declared.Refusal.{Refusal}
use Rattle.schedule.specs.declared.Refusal.TheVariants as R
use Rattle.schedule.specs.declared.Fault.{Fault}
use Rattle.schedule.specs.declared.Record.{Record}
use Rattle.schedule.specs.declared.Held.{Held}
use Rattle.schedule.specs.declared.parts.Part.{Part}
use Rattle.schedule.specs.Meaning.{refusal_number, full_reading, found, asked, read_in, part_from}

-- the number of a refusal
abbrev pub RefusalNumber : Refusal → ℕ → Type 0
RefusalNumber f r = r ≡ refusal_number f

-- a record's stamp is refused with it
abbrev pub RefusalOfStamp : StampRefusal → Refusal → Type 0
RefusalOfStamp f r = r ≡ R.Base f

-- without its place
abbrev pub RefusalOfFault : Fault → Refusal → Type 0
RefusalOfFault f r = r ≡ f.refusal

-- full reading
abbrev pub ReadsFile : List ℕ → Result ℕ Fault → Type 0
ReadsFile s r = full_reading r ≡ card.full_reading twelve s

-- the record at a place
abbrev pub FindsRecord : List ℕ → ℕ → Result Record Refusal → Type 0
FindsRecord s p r = found r ≡ card.record_asked twelve s p

-- which correction holds; "a refusal carries 0"
pub record AsksFile (s : List ℕ) (i : Instant) (c : ℕ) (r : Result Held Refusal) : Type 0 where
  pub answer : asked r ≡ question twelve s i.micros c
  pub count : read_in r ≡ records_read (question twelve s i.micros c)

-- manual over plan, in numbers
abbrev pub ChoosesPart : List ℕ → List ℕ → Instant → ℕ → Part → Type 0
ChoosesPart p m i c r = part_from r ≡ handed_back twelve p m i.micros c

-- "as a part of whichever of the two lent files it stands in": which file is told by the memory that the part is in and its place there, not by its octets alone
pub record PartOf (s : Bor (List ℕ)) (a n : ℕ) (r : Bor (List ℕ)) : Type 0 where
  pub count : length r.now ≡ n
  pub octets : r.now ≡ take n (drop a s.now)
  pub memory : r.ref_ptr.0 ≡ s.ref_ptr.0
  pub place : r.ref_ptr.1 ≡ s.ref_ptr.1 + a

abbrev pub HandsBack : Bor (List ℕ) → Bor (List ℕ) → Instant → ℕ → Bor (List ℕ) → Type 0
HandsBack p m i c r =
    let q = handed_back twelve p.now m.now i.micros c in
    PartOf (of_two q.source p m) q.start q.size r
