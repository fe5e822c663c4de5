-- What the private functions promise one another: the legend.
--
-- Inside, years are counted from March, so that the leap day is the last of its year. Year 0 from March began on 0000-03-01, and year k has as many days
-- as the calendar's year k + 1: so `sum_from year_length 0 k` is both the days before year k from March and those before the calendar's year k + 1.
--
--   to_january        the days from 1 March to the 1 January after it
--   march_year y m    in which year from March month m of year y lies; months are numbered from 1
--   march_days m      the days of the year from March before month m
--   day_count e       what lies before a day, years and days, in days
use Rattle.std.specs.Prelude.{ℕ, ◌+◌, ◌-◌, false, ltb}
use Rattle.format.specs.Words.{pick}
use Rattle.format.specs.Walk.{sum_from}
use Rattle.format.specs.Calendar.{year_length, month_length}
use Rattle.calendar.specs.declared.years.Elapsed.{Elapsed}

abbrev pub to_january : ℕ
to_january = 306

unfoldable pub march_year : ℕ → ℕ → ℕ
march_year y m = pick (ltb m 3) (y - 1) y

-- only the length of February depends on the year, and here it comes last
unfoldable pub march_days : ℕ → ℕ
march_days m = pick (ltb m 3) (to_january + sum_from (month_length false) 0 (m - 1)) (sum_from (month_length false) 2 (m - 3))

abbrev pub day_count : Elapsed → ℕ
day_count e = sum_from year_length 0 e.years + e.days
