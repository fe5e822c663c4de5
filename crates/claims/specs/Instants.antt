-- What is claimed of UTC instants: each claim stands under its sentence of 02, request 2. How to read a claim stands in `Claims.antt`; the words of
-- numbers, and `accepted`, `refused`, in `format/specs/Words.antt`. The documents' numbers stand here as literals: 86,400,000,000 microseconds a day, 60,000,000
-- a minute; 3,652,058 is the day number of 9999-12-31, and 315,537,897,600,000,000 are the microseconds of 3,652,059 days. What each call comes to is defined in
-- `moments/specs/Calls.antt`:
--
--   instant v                    the instant of a stamp
--   add i n                      an instant and so many microseconds
--   difference a b               a less b
--   at i o                       the stamp of an instant at an offset
--   restate v o                  a stamp restated at another offset
--   is_instant i                 some stamp has the instant i (`TheInstants`)
--   local_of v                   the local reading of v: microseconds from 0001-01-01T00:00 on its own clock
--   in_range DatetimeTz v, offset_in_range o   each part of the stamp is in range; an offset is (`TheLimits`)
--   day_number d                 the days before the date d, from 0001-01-01 on
--   next_start v                 the start of the day after v's, at v's offset
--   reading_at i o               what a clock reads at the instant i that is o minutes ahead of UTC
--   in_the_years x               the local reading x is at least that of 0001-01-01T00:00, and below that of 10000-01-01T00:00
--   IsAt i o w                   w is in range, has the instant i and the offset o, and is not at 24:00
--   lt_z a b, le_z a b           a < b, a ≤ b, of integers; `a -ℤ b` is a less b; `signed_between a b x`: x is from -a to b; `A ⊎ B`: A or B
--
-- Here v and w are any values, and i, a, b, m, n, o, x, y any integers: those of 64 bits among them.
use Rattle.std.specs.Prelude.{ℕ, ◌+◌, ◌*◌, ◌<◌, ◌≤◌, ◌≡◌, ◌↔◌, ◌⊎◌, Bool, true, false, List, [], ◌∷◌, ℤ, pos, nat_abs, neg_ℤ, ◌+ℤ◌, ◌-ℤ◌, ◌*ℤ◌, ltb, Ok}
use Rattle.std.specs.Int.Signed.{lt_z, le_z}
use Rattle.format.specs.Words.{both, Outcome, accepted, refused}
use Rattle.format.specs.Octets.{Octets}
use Rattle.format.specs.Calendar.{day_number}
use Rattle.format.specs.Values.{DatetimeTz, Value, in_range, offset_in_range}
use Rattle.moments.specs.Instant.{local_of, is_instant, next_start}
use Rattle.moments.specs.Calls.{instant, add, difference, at, restate}
use Rattle.moments.specs.Bench.{OfStamps, OfSums, OfRestating}
use Rattle.values.specs.declared.parts.Offset.{Offset}
use Rattle.values.specs.declared.kinds.DatetimeTz.{DatetimeTz as GivenStamp}
use Rattle.values.specs.declared.answers.Answer.{Answer as GivenAnswer}
use Rattle.values.specs.declared.answers.Decoded.TheVariants as D
use Rattle.stamp.specs.Calls.{ReadsDatetimeTz}
use Rattle.instants.specs.declared.Instant.{Instant}
use Rattle.instants.specs.Calls.{InstantOf, InstantAdd, InstantDifference, InstantAt, Restates}
use Rattle.boundary.specs.Utc.{InstantForC, AddForC, DifferenceForC, AtForC, RestateForC}
use Rattle.claims.specs.ReaderRefusals.{signed_between}

-- ---- instants

-- "give each DatetimeTz its instant: microseconds from 0001-01-01T00:00 UTC, signed, as local reading less offset. 24:00 counts as the next day's start", as it
-- is a whole day in the sum. "Refusals: 2, a stamp .. out of range".
abbrev pub EachHasItsInstant : Type 0
EachHasItsInstant =
    (v : Value)
    → (in_range DatetimeTz v ≡ true
    → instant v ≡ accepted (pos (day_number v.date * 86400000000 + v.micros) -ℤ (v.offset *ℤ pos 60000000)))
    × (in_range DatetimeTz v ≡ false → instant v ≡ refused 2)

-- "an instant that no stamp has": the instants are the numbers from -86,340,000,000 to 315,537,983,940,000,000, and these are those that some stamp has.
abbrev pub TheInstants : Type 0
TheInstants =
    (i : ℤ)
    → (is_instant i ≡ signed_between 86340000000 315537983940000000 i)
    × ((is_instant i ≡ true) ↔ ((v : Value) × (instant v ≡ accepted i)))

-- "To compare sites' stamps": at one offset, of two stamps the one with the later local reading has the later instant;
abbrev pub LaterIsLater : Type 0
LaterIsLater =
    (v w : Value) (a b : ℤ) → instant v ≡ accepted a → instant w ≡ accepted b → v.offset ≡ w.offset
    → (local_of v ≡ day_number v.date * 86400000000 + v.micros) × (lt_z a b ≡ ltb (local_of v) (local_of w))

-- so of two sites' stamps the one with the later instant is the later one, once the other is restated at its offset;
abbrev pub SitesCompared : Type 0
SitesCompared =
    (v w u : Value) (a b : ℤ) → instant v ≡ accepted a → instant w ≡ accepted b → restate w v.offset ≡ accepted u
    → lt_z a b ≡ ltb (local_of v) (local_of u)

-- 24:00 and the next day's 00:00 have the same, but for the last day, which has no next;
abbrev pub EndIsNextStart : Type 0
EndIsNextStart =
    (v : Value) → in_range DatetimeTz v ≡ true → v.micros ≡ 86400000000 → day_number v.date < 3652058
    → (instant (next_start v) ≡ instant v) × (day_number (next_start v).date ≡ day_number v.date + 1) × ((next_start v).micros ≡ 0) × ((next_start v).offset ≡ v.offset)

-- otherwise two stamps with the same offset and the same instant are the same stamp.
abbrev pub OneStamp : Type 0
OneStamp =
    (v w : Value) (i : ℤ) → instant v ≡ accepted i → instant w ≡ accepted i → v.offset ≡ w.offset
    → (v ≡ w) ⊎ (((v.micros ≡ 86400000000) × (w ≡ next_start v)) ⊎ ((w.micros ≡ 86400000000) × (v ≡ next_start w)))

-- ---- sums and differences

-- "Add a signed 64-bit number of microseconds to an instant": to what is no instant it is 2, whatever is added; else the sum, and 9 where no stamp has it.
abbrev pub Sums : Type 0
Sums =
    (i n : ℤ)
    → (is_instant i ≡ false → add i n ≡ refused 2)
    × (is_instant i ≡ true → is_instant (i +ℤ n) ≡ false → add i n ≡ refused 9)
    × (is_instant i ≡ true → is_instant (i +ℤ n) ≡ true → add i n ≡ accepted (i +ℤ n))

-- "Adding zero changes nothing",
abbrev pub AddingZero : Type 0
AddingZero = (i : ℤ) → is_instant i ≡ true → add i (pos 0) ≡ accepted i

-- and adding twice is adding the sum, where each step is accepted.
abbrev pub AddingTwice : Type 0
AddingTwice = (i m n x y : ℤ) → add i m ≡ accepted x → add x n ≡ accepted y → add i (m +ℤ n) ≡ accepted y

-- "take the difference of two": a less b, of two instants; else 2. It is never 9, and fits 64 bits: at most 315,538,070,280,000,000 either way.
abbrev pub Differences : Type 0
Differences =
    (a b : ℤ)
    → (both (is_instant a) (is_instant b) ≡ true → difference a b ≡ accepted (a -ℤ b))
    × (both (is_instant a) (is_instant b) ≡ false → difference a b ≡ refused 2)
    × ((n : ℕ) → difference a b ≡ refused n → n ≡ 2)
    × ((x : ℤ) → difference a b ≡ accepted x → nat_abs x ≤ 315538070280000000)

-- "the difference of a and b is the negative of that of b and a",
abbrev pub NegativeDifference : Type 0
NegativeDifference = (a b x : ℤ) → difference a b ≡ accepted x → difference b a ≡ accepted (neg_ℤ x)

-- and adding to a the difference of b and a gives b.
abbrev pub AddingDifference : Type 0
AddingDifference = (a b x : ℤ) → difference b a ≡ accepted x → add a x ≡ accepted b

-- ---- stamps at an offset

abbrev pub reading_at : ℤ → ℤ → ℤ
reading_at i o = i +ℤ (o *ℤ pos 60000000)

abbrev pub in_the_years : ℤ → Bool
in_the_years x = both (le_z (pos 0) x) (lt_z x (pos 315537897600000000))

-- "the result never uses 24:00"
abbrev pub IsAt : ℤ → ℤ → Value → Type 0
IsAt i o w = (in_range DatetimeTz w ≡ true) × (instant w ≡ accepted i) × (w.offset ≡ o) × (w.micros < 86400000000)

-- "restate a stamp at another offset": "2, a stamp, offset .. that is out of range", "then 9, .. a local reading outside years 1 to 9999"; else it is accepted.
abbrev pub RestatedExactly : Type 0
RestatedExactly =
    (v : Value) (o : ℤ)
    → (both (in_range DatetimeTz v) (offset_in_range o) ≡ false → restate v o ≡ refused 2)
    × ((i : ℤ) → instant v ≡ accepted i → offset_in_range o ≡ true
    → (in_the_years (reading_at i o) ≡ false → restate v o ≡ refused 9)
    × (in_the_years (reading_at i o) ≡ true → (w : Value) × (restate v o ≡ accepted w)))

-- The result is in range, has the same instant and the offset asked for, and is not at 24:00; and whatever stamp is so is the result.
abbrev pub TheRestated : Type 0
TheRestated = (v : Value) (i o : ℤ) (w : Value) → instant v ≡ accepted i → (restate v o ≡ accepted w) ↔ IsAt i o w

-- The same of an instant: "2, .. offset or instant handed in that is out of range", then 9; else its stamp at the offset, and no other.
abbrev pub StampsAt : Type 0
StampsAt =
    ((i o : ℤ)
    → (both (is_instant i) (offset_in_range o) ≡ false → at i o ≡ refused 2)
    × (both (is_instant i) (offset_in_range o) ≡ true → in_the_years (reading_at i o) ≡ false → at i o ≡ refused 9)
    × (both (is_instant i) (offset_in_range o) ≡ true → in_the_years (reading_at i o) ≡ true → (w : Value) × (at i o ≡ accepted w)))
    × ((i o : ℤ) (w : Value) → (at i o ≡ accepted w) ↔ IsAt i o w)

-- At its own offset the instant of a stamp is the stamp; of 24:00 the next day's start, and 9 of 9999-12-31T24:00.
abbrev pub AtItsOwnOffset : Type 0
AtItsOwnOffset =
    (v : Value) (i : ℤ) → instant v ≡ accepted i
    → (v.micros < 86400000000 → at i v.offset ≡ accepted v)
    × (v.micros ≡ 86400000000 → day_number v.date < 3652058 → at i v.offset ≡ accepted (next_start v))
    × (v.micros ≡ 86400000000 → day_number v.date ≡ 3652058 → at i v.offset ≡ refused 9)

-- ---- by numbers

-- Each of 2 and 9 is met, by each reason, and 2 where both apply; both limits are met (0001-01-01T00:00+23:59, 9999-12-31T24:00-23:59). The tables stand in `moments/specs/Bench.antt`.
abbrev pub InstantsWorked : Type 0
InstantsWorked = OfStamps × OfSums × OfRestating

-- ---- what our own calls answer, over the promises that they are proved to keep

-- Every stamp that our reader of DatetimeTz accepts has an instant. (`Ok` is an answer that is accepted; `InstantOf` and the others are what the calls promise, in
-- `instants/specs/Calls.antt`.)
abbrev pub ReadStampsHaveInstants : Type 0
ReadStampsHaveInstants =
    (s : List ℕ) (a : GivenAnswer GivenStamp) → Octets s → ReadsDatetimeTz s (Ok (D.DatetimeTz a)) → (i : Instant) × InstantOf a.value (Ok i)

-- What they answer fits together: a stamp restated has the instant that it had; the stamp of an instant has it; the difference of a and b, added to b, gives a.
abbrev pub OwnCallsAgree : Type 0
OwnCallsAgree =
    ((v w : GivenStamp) (o : Offset) (i : Instant) → InstantOf v (Ok i) → Restates v o (Ok w) → InstantOf w (Ok i))
    × ((i : Instant) (o : Offset) (w : GivenStamp) → InstantAt i o (Ok w) → InstantOf w (Ok i))
    × ((a b : Instant) (n : ℤ) → InstantDifference a b (Ok n) → InstantAdd b n (Ok a))

-- What C gets: after a refusal its number, and what was lent stays; else 0, and what the call comes to. A stamp is five numbers.
abbrev pub Gets : {A B : Type 0} → (A → B) → Outcome A → B → ℕ → B → Type 0
Gets put o lent r left = ((m : ℕ) → o ≡ refused m → (r ≡ m) × (left ≡ lent)) × ((a : _) → o ≡ accepted a → (r ≡ 0) × (left ≡ put a))

abbrev pub itself : ℤ → ℤ
itself i = i

abbrev pub five_of : Value → List ℤ
five_of v = pos v.date.year ∷ pos v.date.month ∷ pos v.date.day ∷ pos v.micros ∷ v.offset ∷ []

abbrev pub InstantsToC : Type 0
InstantsToC =
    ((v : Value) (lent : ℤ) (r : ℕ) (left : ℤ) → InstantForC v lent r left → Gets itself (instant v) lent r left)
    × ((i n : ℤ) (lent : ℤ) (r : ℕ) (left : ℤ) → AddForC i n lent r left → Gets itself (add i n) lent r left)
    × ((a b : ℤ) (lent : ℤ) (r : ℕ) (left : ℤ) → DifferenceForC a b lent r left → Gets itself (difference a b) lent r left)
    × ((i o : ℤ) (lent : List ℤ) (r : ℕ) (left : List ℤ) → AtForC i o lent r left → Gets five_of (at i o) lent r left)
    × ((v : Value) (o : ℤ) (lent : List ℤ) (r : ℕ) (left : List ℤ) → RestateForC v o lent r left → Gets five_of (restate v o) lent r left)
