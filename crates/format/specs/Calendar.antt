-- Dates: the proleptic Gregorian calendar of the years 1 to 9999, by counting. (01, Values and settings: Date.)
--
--   leap y             y is a leap year
--   year_length k      the days of year k + 1
--   year_start i       the days before year i + 1 of a cycle of 400 years, by 01's formula
--   month_length l k   the days of month k + 1, in a leap year (l) or a common one; 0 where there is no such month
--   is_day d           there is such a day
--   day_number d       how many days lie before d, from 0001-01-01 on
--   day_of n           the day with n days before it, for an n up to the last day's number
--   number_asked d     what the calendar answers when asked for a day number, and day_asked n when asked for a day
use Rattle.std.specs.Prelude.{ℕ, ◌+◌, ◌-◌, ◌*◌, ◌/◌, ◌%◌, List, [], ◌∷◌, Bool, not, leb, eqb, get_or}
use Rattle.format.specs.Words.{pick, both, either, Outcome, accepted, unless}
use Rattle.format.specs.Walk.{sum_from, Place, place}

-- a date: any three numbers, so that a wrong one can be handed in and refused
pub record Day : Type 0 where
  pub year : ℕ
  pub month : ℕ
  pub day : ℕ

-- in the place of a date where a kind has none
abbrev pub no_date : Day
no_date = record { year = 0; month = 0; day = 0 }

-- the last year, and the last day's number (01: 9999, and 3,652,058 at 9999-12-31)
abbrev pub last_year : ℕ
last_year = 9999

abbrev pub last_number : ℕ
last_number = 3652058

-- the Gregorian rule: every fourth year, but of the centuries only every fourth
unfoldable pub leap : ℕ → Bool
leap y = either (eqb (y % 400) 0) (both (not (eqb (y % 100) 0)) (eqb (y % 4) 0))

unfoldable pub year_length : ℕ → ℕ
year_length k = pick (leap (k + 1)) 366 365

-- 01: entry i (0 to 399) of the table is 365i + floor(i/4) - floor(i/100); a law says that it is the sum of the year lengths
unfoldable pub year_start : ℕ → ℕ
year_start i = 365 * i + i / 4 - i / 100

abbrev pub month_lengths : Bool → List ℕ
month_lengths l = 31 ∷ pick l 29 28 ∷ 31 ∷ 30 ∷ 31 ∷ 30 ∷ 31 ∷ 31 ∷ 30 ∷ 31 ∷ 30 ∷ 31 ∷ []

unfoldable pub month_length : Bool → ℕ → ℕ
month_length l k = get_or (month_lengths l) k 0

unfoldable pub is_day : Day → Bool
is_day d =
    both (leb 1 d.year) (both (leb d.year last_year)
    (both (leb 1 d.month) (both (leb 1 d.day) (leb d.day (month_length (leap d.year) (d.month - 1))))))

-- 01: 0 at 0001-01-01. The days of the years before it, of the months before it in its year, and before it in its month
unfoldable pub day_number : Day → ℕ
day_number d =
    sum_from year_length 0 (d.year - 1) + sum_from (month_length (leap d.year)) 0 (d.month - 1) + (d.day - 1)

abbrev pub day_at : ℕ → Place → Day
day_at y m = record { year = y + 1; month = m.index + 1; day = m.rest + 1 }

abbrev pub day_in : Place → Day
day_in y = day_at y.index (place (month_length (leap (y.index + 1))) 11 0 y.rest)

-- the years are taken off one after the other, then the months
unfoldable pub day_of : ℕ → Day
day_of n = day_in (place year_length 9998 0 n)

-- 01, Refusal numbers: 2, a value part out of its range, or no such day
unfoldable pub number_asked : Day → Outcome ℕ
number_asked d = unless (is_day d) 2 (accepted (day_number d))

unfoldable pub day_asked : ℕ → Outcome Day
day_asked n = unless (leb n last_number) 2 (accepted (day_of n))
