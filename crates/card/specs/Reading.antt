-- Reading a schedule file from the front. (02, request 4.) "Header first, then each record in turn."
--
--   Walked                   what reading comes to: the records read, or a fault: the place of the record, from one (0: the header), and the refusal
--   walk f s stop i n b      reading from record i on, n records to go, after b: up to the first record for which `stop` holds, which is read too
--   walk_file f s stop       the same from the front, with the header's test
--   never                    the test that no record meets: then all records are read
--   FullReading              what full reading answers: `records n`, the number of records, or `refused_at p m`, refused with m at the place p
--   full_reading f s         full reading
--   record_asked f s place   the record at a place, from one, of an accepted file, with its stamp's start within the file
use Rattle.std.specs.Prelude.{ℕ, zero, suc, ◌-◌, Bool, true, false, List, [], ◌∷◌, leb, length}
use Rattle.format.specs.Words.{both, Outcome, accepted, refused, unless}
use Rattle.card.specs.Header.{RecordForm, count_of, header_good}
use Rattle.card.specs.Records.{Record, record_at, in_file}
use Rattle.card.specs.Step.{Before, at_front, after, step}

pub data Walked : Type 0 where
  taken : List Record → Walked
  fault : ℕ → ℕ → Walked

-- one more record in front of those read; a fault stays what it is
abbrev pub joined : Record → Walked → Walked
joined r (taken rs) = taken (r ∷ rs)
joined r (fault p n) = fault p n

abbrev pub end_or_on : Bool → Record → (Record → Walked) → Walked
end_or_on true r next = taken (r ∷ [])
end_or_on false r next = joined r (next r)

-- what a step leads to: a fault at its place, an end, or the records that follow
abbrev pub go_on : (Record → Bool) → ℕ → Outcome Record → (Record → Walked) → Walked
go_on stop place (refused n) next = fault place n
go_on stop place (accepted r) next = end_or_on (stop r) r next

unfoldable pub walk : RecordForm → List ℕ → (Record → Bool) → ℕ → ℕ → Before → Walked
walk f s stop i zero b = taken []
walk f s stop i (suc n) b = go_on stop (suc i) (step f s i b) (λ r. walk f s stop (suc i) n (after r))

unfoldable pub walk_file : RecordForm → List ℕ → (Record → Bool) → Walked
walk_file f s stop = elim (header_good f s) [ true ↦ walk f s stop 0 (count_of s) at_front | false ↦ fault 0 13 ]

abbrev pub never : Record → Bool
never r = false

pub data FullReading : Type 0 where
  records : ℕ → FullReading
  refused_at : ℕ → ℕ → FullReading

abbrev pub numbered : Walked → FullReading
numbered (taken rs) = records (length rs)
numbered (fault p n) = refused_at p n

-- "full reading answers their number"
unfoldable pub full_reading : RecordForm → List ℕ → FullReading
full_reading f s = numbered (walk_file f s never)

abbrev pub record_of : RecordForm → List ℕ → ℕ → FullReading → Outcome Record
record_of f s place (records n) = unless (both (leb 1 place) (leb place n)) 2 (accepted (in_file f s (record_at f s (place - 1))))
record_of f s place (refused_at p n) = refused n

-- the file's own refusals, then 2 for a place that the file hasn't
unfoldable pub record_asked : RecordForm → List ℕ → ℕ → Outcome Record
record_asked f s place = record_of f s place (full_reading f s)
