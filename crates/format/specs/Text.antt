-- The text form, written: ten fields in a row, of which a kind has some. (01, Text.)
--
--   layout k d           the row for d fraction digits: the date if dated, `T` if dated and timed, the time if timed, the offset if zoned
--   text_length k d      its length
--   fraction_unit d      the unit of the last of d fraction digits, in microseconds
--   text_numbers k d v   the ten numbers of a value: year, month, day; hour, minute, second, fraction; sign, hours, minutes
--   text_image k d v     the octets
--
-- Octets: 43 `+`, 45 `-`, 46 `.`, 58 `:`, 84 `T`.
use Rattle.std.specs.Prelude.{ℕ, ◌-◌, ◌/◌, ◌%◌, ◌^◌, List, [], ◌∷◌, ◌++◌, Bool, not, nat_abs, eqb}
use Rattle.std.specs.Int.Signed.{non_neg}
use Rattle.format.specs.Words.{pick, both, if_any}
use Rattle.format.specs.Values.{Kind, dated, timed, zoned, Value}
use Rattle.format.specs.Fields.{Field, digits, after, sign, when, widths, puts}

-- Date `yyyy-mm-dd`
abbrev pub date_row : Bool → List Field
date_row date = when date (digits 4) ∷ when date (after 45 2) ∷ when date (after 45 2) ∷ []

-- time `hh:mm:ss`, then for digits 1 to 6 a point and that many digits; `T` joins date and time
abbrev pub clock_row : Bool → Bool → ℕ → List Field
clock_row time date d =
    when time (pick date (after 84 2) (digits 2)) ∷ when time (after 58 2) ∷ when time (after 58 2)
    ∷ when (both time (not (eqb d 0))) (after 46 d) ∷ []

-- offset sign `hh:mm`
abbrev pub offset_row : Bool → List Field
offset_row offset = when offset sign ∷ when offset (digits 2) ∷ when offset (after 58 2) ∷ []

unfoldable pub layout : Kind → ℕ → List Field
layout k d = date_row (dated k) ++ (clock_row (timed k) (dated k) d ++ offset_row (zoned k))

-- Lengths: Date 10, DateTz 16; Time 8 or 10 to 15; TimeTz 14 or 16 to 21; Datetime 19 or 21 to 26; DatetimeTz 25 or 27 to 32
-- (`Bench.antt` has them as a table that is computed from this)
unfoldable pub text_length : Kind → ℕ → ℕ
text_length k d = widths (layout k d)

unfoldable pub fraction_unit : ℕ → ℕ
fraction_unit d = 10 ^ (6 - d)

-- Fractions are cut, never rounded up. The offset's size is split into hours and minutes, and its sign is its own: -30 minutes are `-00:30`,
-- and zero is `+00:00`.
unfoldable pub text_numbers : Kind → ℕ → Value → List ℕ
text_numbers k d v =
    let seconds = v.micros / 1000000 in
    let minutes = nat_abs v.offset in
    if_any (dated k) v.date.year ∷ if_any (dated k) v.date.month ∷ if_any (dated k) v.date.day
    ∷ if_any (timed k) (seconds / 3600) ∷ if_any (timed k) (seconds / 60 % 60) ∷ if_any (timed k) (seconds % 60)
    ∷ if_any (timed k) (v.micros % 1000000 / fraction_unit d)
    ∷ if_any (zoned k) (pick (non_neg v.offset) 0 1) ∷ if_any (zoned k) (minutes / 60) ∷ if_any (zoned k) (minutes % 60) ∷ []

unfoldable pub text_image : Kind → ℕ → Value → List ℕ
text_image k d v = puts (layout k d) (text_numbers k d v)
