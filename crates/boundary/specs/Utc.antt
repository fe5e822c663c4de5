-- The C boundary of instants: numbers in, numbers out, and what its five calls promise. (02, request 2; the numbers are the header's.)
--
--   stamp_numbers v              a stamp as five numbers: year, month, day, microseconds, offset
--   after put o lent             what is there after a call: `put` of what it came to, or as lent after a refusal
--   in_day o                     a stamp that a call came to has a time of the day
--   HandsOver                    what is handed over of an outcome o: the number answered (r), and what is left where something was lent
--   HandsNumber o lent r left    the same of a number
--   HandsStamp o lent r left     the same of a stamp, in five numbers
--   InstantForC, AddForC, DifferenceForC, AtForC, RestateForC   the promises of `stamp_instant`, `stamp_add`, `stamp_difference`, `stamp_at`, `stamp_restate`
use Rattle.std.specs.Prelude.{ℕ, ◌≤◌, ◌≡◌, List, [], ◌∷◌, ℤ, pos}
use Rattle.format.specs.Words.{Outcome, accepted, refused}
use Rattle.format.specs.Values.{Value, end_of_day}
use Rattle.format.specs.Promises.{number_of}
use Rattle.moments.specs.Calls.{instant, add, difference, at, restate}

unfoldable pub stamp_numbers : Value → List ℤ
stamp_numbers v = pos v.date.year ∷ pos v.date.month ∷ pos v.date.day ∷ pos v.micros ∷ v.offset ∷ []

abbrev pub after : {A B : Type 0} → (A → B) → Outcome A → B → B
after put (accepted a) lent = put a
after put (refused n) lent = lent

abbrev pub in_day : Outcome Value → Type 0
in_day (accepted v) = v.micros ≤ end_of_day
in_day (refused n) = Unit {0}

pub record HandsOver (A B : Type 0) (put : A → B) (o : Outcome A) (lent : B) (r : ℕ) (left : B) : Type 0 where
  pub number : r ≡ number_of o
  pub handed : left ≡ after put o lent

abbrev pub HandsNumber : Outcome ℤ → ℤ → ℕ → ℤ → Type 0
HandsNumber o lent r left = HandsOver ℤ ℤ (λ i. i) o lent r left

abbrev pub HandsStamp : Outcome Value → List ℤ → ℕ → List ℤ → Type 0
HandsStamp o lent r left = HandsOver Value (List ℤ) stamp_numbers o lent r left

abbrev pub InstantForC : Value → ℤ → ℕ → ℤ → Type 0
InstantForC v lent r left = HandsNumber (instant v) lent r left

abbrev pub AddForC : ℤ → ℤ → ℤ → ℕ → ℤ → Type 0
AddForC i n lent r left = HandsNumber (add i n) lent r left

abbrev pub DifferenceForC : ℤ → ℤ → ℤ → ℕ → ℤ → Type 0
DifferenceForC a b lent r left = HandsNumber (difference a b) lent r left

abbrev pub AtForC : ℤ → ℤ → List ℤ → ℕ → List ℤ → Type 0
AtForC i o lent r left = HandsStamp (at i o) lent r left

abbrev pub RestateForC : Value → ℤ → List ℤ → ℕ → List ℤ → Type 0
RestateForC v o lent r left = HandsStamp (restate v o) lent r left
