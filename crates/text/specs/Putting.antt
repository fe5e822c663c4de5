-- What the text writers' functions promise one another, in the terms of `format`: the legend.
--
--   date_octets b x        the octets of the date x, none where the kind has no date
--   clock_octets t b d x   the octets of the time x with d fraction digits, none where the kind has no time; `T` before it where it has a date
--   offset_octets z m      the octets of the offset m, none where the kind has no offset
--   year_month_day y m d   `yy-mm-dd`, of the year in its century
--   hour_minute_second s   `hh:mm:ss`, of the seconds of the day
--   fraction_field d       a point and d digits, or nothing for no digits
--   PointDigits f w        the word w is an octet 0, a point and all six digits of f
--   sign_mark m            `+` or `-`, by the sign of m
--   sign_hour_minute m a   the sign of m, then the a minutes as `hh:mm`
--   duo v                  the two digits of v as a word: the tens in the low octet, and 48 not yet added to either
--   Duo v w                w is that word, and small
--   Sum e w                w is the sum e of such words at their places, and so small that the word of a text of zeros can be added
--
-- The first three are `format`'s rows, field by field; together they are a text's image (`proofs/Putting.antt`).
use Rattle.std.specs.Prelude.{◌≡◌, ℕ, ◌+◌, ◌*◌, ◌/◌, ◌%◌, ◌≤◌, Bool, not, List, [], ◌∷◌, ◌++◌, ℤ, ◌==◌, unsigned_abs}
use Rattle.std.specs.Int.Signed.{non_neg}
use Rattle.format.specs.Words.{pick, if_any}
use Rattle.format.specs.Calendar.{Day}
use Rattle.format.specs.Digits.{digits_of}
use Rattle.format.specs.Fields.{Field, after, when, puts}
use Rattle.format.specs.Text.{date_row, clock_row, offset_row, fraction_unit}
use Rattle.octets.specs.Words.{low_octets}

-- ---- the parts of a text

unfoldable pub date_octets : Bool → Day → List ℕ
date_octets b x = puts (date_row b) (if_any b x.year ∷ if_any b x.month ∷ if_any b x.day ∷ [])

unfoldable pub clock_octets : Bool → Bool → ℕ → ℕ → List ℕ
clock_octets t b d x =
    let seconds = x / 1000000 in
    puts (clock_row t b d)
    (if_any t (seconds / 3600) ∷ if_any t (seconds / 60 % 60) ∷ if_any t (seconds % 60) ∷ if_any t (x % 1000000 / fraction_unit d) ∷ [])

unfoldable pub offset_octets : Bool → ℤ → List ℕ
offset_octets z m =
    puts (offset_row z) (if_any z (pick (non_neg m) 0 1) ∷ if_any z (unsigned_abs m / 60) ∷ if_any z (unsigned_abs m % 60) ∷ [])

-- ---- the parts of these that are stored in one go

unfoldable pub year_month_day : ℕ → ℕ → ℕ → List ℕ
year_month_day y m d = digits_of 2 y ++ (45 ∷ (digits_of 2 m ++ (45 ∷ digits_of 2 d)))

unfoldable pub hour_minute_second : ℕ → List ℕ
hour_minute_second s = digits_of 2 (s / 3600) ++ (58 ∷ (digits_of 2 (s / 60 % 60) ++ (58 ∷ digits_of 2 (s % 60))))

abbrev pub fraction_field : ℕ → Field
fraction_field d = when (not (d == 0)) (after 46 d)

abbrev pub sign_mark : ℤ → ℕ
sign_mark m = pick (non_neg m) 43 45

unfoldable pub sign_hour_minute : ℤ → ℕ → List ℕ
sign_hour_minute m a = sign_mark m ∷ (digits_of 2 (a / 60) ++ (58 ∷ digits_of 2 (a % 60)))

-- ---- words

unfoldable pub duo : ℕ → ℕ
duo v = v % 10 * 256 + v / 10

pub record Duo (v w : ℕ) : Type 0 where
  pub word : w ≡ duo v
  pub small : w ≤ 2313

pub record Sum (e w : ℕ) : Type 0 where
  pub word : w ≡ e
  pub small : w ≤ 0x090a000000000000

pub record PointDigits (f w : ℕ) : Type 0 where
  pub front : w % 256 ≡ 0
  pub octets : low_octets 7 (w / 256) ≡ 46 ∷ digits_of 6 f
