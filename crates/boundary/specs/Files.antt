-- The C boundary of schedule files, and what its four calls promise. (02, requests 4, 5 and 6; the numbers are the header's.)
--
--   full_number w                the number that full reading answers: 0, or the refusal's
--   full_count w                 the number of records, and 0 after a refusal
--   full_place w                 the place of the refused record, from one; 0 for the header, and where nothing is refused
--   record_numbers r             a record as five numbers: channel, correction, instant, start of its stamp, length of its stamp
--   in_words o                   start and length of a record that was found are numbers of 63 bits
--   HandsRecord o lent r left    what is handed over of a record that was asked for, in five numbers (`HandsOver`)
--   ReadForC s r records fault   the promise of `stamp_schedule_read`, which answers r and leaves the two numbers so
--   RecordForC s p lent r left   the promise of `stamp_schedule_record`
--   held_numbers r               a record that holds as five numbers: place, start of its stamp, length of its stamp, instant, correction
--   held_or_zeros h              what holds, as five numbers: each 0 where none does yet; `asked_numbers a` of an answer
--   held_in_words h              `in_words`, of a record that holds; `asked_in_words o` of an answer
--   HandsAsked o lent r left     what is handed over of a question, in five numbers
--   HoldsForC s t c lent r count left   the promise of `stamp_schedule_holds`, which answers r and leaves the number of records read and the five numbers so
--   source_number x              one of two files as a number: 0 is the plan, 1 the manual schedule
--   part_numbers q               where a part starts in its file, and how many octets it has
--   OverForC p m t c r left      the promise of `stamp_schedule_over`, which answers r, and leaves two numbers whatever was lent
use Rattle.std.specs.Prelude.{ℕ, ◌<◌, ◌^◌, ◌≡◌, List, [], ◌∷◌, ℤ, pos}
use Rattle.format.specs.Words.{Outcome, accepted, refused}
use Rattle.card.specs.Header.{twelve}
use Rattle.card.specs.Records.{Record}
use Rattle.card.specs.Reading.{FullReading, records, refused_at, full_reading, record_asked}
use Rattle.card.specs.Question.{Held, none_yet, holds, Asked, question, records_read}
use Rattle.card.specs.Over.{Source, plan, manual, Part, handed_back}
use Rattle.boundary.specs.Utc.{HandsOver}

abbrev pub full_number : FullReading → ℕ
full_number (records n) = 0
full_number (refused_at p m) = m

abbrev pub full_count : FullReading → ℕ
full_count (records n) = n
full_count (refused_at p m) = 0

abbrev pub full_place : FullReading → ℕ
full_place (records n) = 0
full_place (refused_at p m) = p

unfoldable pub record_numbers : Record → List ℤ
record_numbers r = pos r.channel ∷ r.correction ∷ r.instant ∷ pos r.start ∷ pos r.size ∷ []

abbrev pub in_words : Outcome Record → Type 0
in_words (accepted r) = (r.start < 2 ^ 63) × (r.size < 2 ^ 63)
in_words (refused n) = Unit {0}

abbrev pub HandsRecord : Outcome Record → List ℤ → ℕ → List ℤ → Type 0
HandsRecord o lent r left = HandsOver Record (List ℤ) record_numbers o lent r left

pub record ReadForC (s : List ℕ) (r count place : ℕ) : Type 0 where
  pub number : r ≡ full_number (full_reading twelve s)
  pub records : count ≡ full_count (full_reading twelve s)
  pub fault : place ≡ full_place (full_reading twelve s)

abbrev pub RecordForC : List ℕ → ℕ → List ℤ → ℕ → List ℤ → Type 0
RecordForC s p lent r left = HandsRecord (record_asked twelve s p) lent r left

-- ---- which correction holds

unfoldable pub held_numbers : Record → List ℤ
held_numbers r = pos r.place ∷ pos r.start ∷ pos r.size ∷ r.instant ∷ r.correction ∷ []

abbrev pub held_or_zeros : Held → List ℤ
held_or_zeros none_yet = pos 0 ∷ pos 0 ∷ pos 0 ∷ pos 0 ∷ pos 0 ∷ []
held_or_zeros (holds r) = held_numbers r

abbrev pub asked_numbers : Asked → List ℤ
asked_numbers a = held_or_zeros a.held

abbrev pub held_in_words : Held → Type 0
held_in_words none_yet = Unit {0}
held_in_words (holds r) = in_words (accepted r)

abbrev pub asked_in_words : Outcome Asked → Type 0
asked_in_words (accepted a) = held_in_words a.held
asked_in_words (refused n) = Unit {0}

abbrev pub HandsAsked : Outcome Asked → List ℤ → ℕ → List ℤ → Type 0
HandsAsked o lent r left = HandsOver Asked (List ℤ) asked_numbers o lent r left

pub record HoldsForC (s : List ℕ) (t : ℤ) (c : ℕ) (lent : List ℤ) (r count : ℕ) (left : List ℤ) : Type 0 where
  pub answer : HandsAsked (question twelve s t c) lent r left
  pub read : count ≡ records_read (question twelve s t c)

-- ---- manual over plan

abbrev pub source_number : Source → ℕ
source_number plan = 0
source_number manual = 1

abbrev pub part_numbers : Part → List ℕ
part_numbers q = q.start ∷ q.size ∷ []

pub record OverForC (p m : List ℕ) (t : ℤ) (c r : ℕ) (left : List ℕ) : Type 0 where
  pub source : r ≡ source_number (handed_back twelve p m t c).source
  pub part : left ≡ part_numbers (handed_back twelve p m t c)
