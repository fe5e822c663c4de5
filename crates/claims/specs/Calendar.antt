-- What is claimed of dates and day numbers. (01, Values and settings: Date.)
use Rattle.std.specs.Prelude.{ℕ, ◌+◌, ◌*◌, ◌<◌, ◌≤◌, ◌≡◌, true, false}
use Rattle.format.specs.Words.{accepted, refused}
use Rattle.format.specs.Walk.{sum_from}
use Rattle.format.specs.Calendar.{Day, year_length, year_start, is_day, day_number, day_of, number_asked, day_asked}

-- Each day has its number, from which it is found again; and each number up to the last, 3,652,058, is a day's.
abbrev pub NumbersAndDates : Type 0
NumbersAndDates =
    ((d : Day) → is_day d ≡ true → (day_number d ≤ 3652058) × (day_of (day_number d) ≡ d))
    × ((n : ℕ) → n ≤ 3652058 → (is_day (day_of n) ≡ true) × (day_number (day_of n) ≡ n))

-- Asked for the number of what is no day, or for the day of a number beyond the last, the calendar refuses with 2; else it answers.
abbrev pub DaysAsked : Type 0
DaysAsked =
    ((d : Day) → (is_day d ≡ false → number_asked d ≡ refused 2) × (is_day d ≡ true → number_asked d ≡ accepted (day_number d)))
    × ((n : ℕ) → (3652058 < n → day_asked n ≡ refused 2) × (n ≤ 3652058 → day_asked n ≡ accepted (day_of n)))

-- The formula of the 400 year starts is the sum of the year lengths: the days before a year are those of the whole cycles before it and the
-- entry of its place in its cycle.
abbrev pub YearStarts : Type 0
YearStarts = (q i : ℕ) → i < 400 → sum_from year_length 0 (q * 400 + i) ≡ q * 146097 + year_start i
