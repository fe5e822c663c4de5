-- What each public call promises, whatever it is given: the legend. A contract cites the name, and so does the theorem of one answer
-- (proofs/OneAnswer).
--
--   DateNew y m d r     `Date::new`: the three numbers, right or wrong
--   DateInRange d r     `Date::in_range`: whether there is such a day in the years 1 to 9999
--   DayNumber d r       `day_number`: the date's day number, or refusal 2
--   DateOf n r          `date_of`: the date of the day number, or refusal 2
--   YearStart y r       `year_start`: the days before the years that y has beyond whole cycles of 400, counted from the start of their cycle
use Rattle.std.specs.Prelude.{ℕ, ◌%◌, ◌≡◌, Bool, Option}
use Rattle.format.specs.Calendar.{year_start, is_day, number_asked, day_asked}
use Rattle.calendar.specs.declared.Date.{Date}
use Rattle.calendar.specs.Meaning.{day_from, number_answered, day_answered}

-- the date of three numbers
abbrev pub DateNew : ℕ → ℕ → ℕ → Date → Type 0
DateNew y m d r = r ≡ record { year = y; month = m; day = d }

-- whether there is such a day
abbrev pub DateInRange : Date → Bool → Type 0
DateInRange d r = r ≡ is_day (day_from d)

-- a date's day number, where there is such a day
abbrev pub DayNumber : Date → Option ℕ → Type 0
DayNumber d r = number_answered r ≡ number_asked (day_from d)

-- the date of a day number, where there is one
abbrev pub DateOf : ℕ → Option Date → Type 0
DateOf n r = day_answered r ≡ day_asked n

-- the days before the years of the last cycle
abbrev pub YearStart : ℕ → ℕ → Type 0
YearStart y r = r ≡ year_start (y % 400)
