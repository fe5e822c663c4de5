-- The calendar's calls as C functions: what they promise.
--
--   number_or o          the day number that was asked for; -1 where there is no such day
--   yyyymmdd d           a day as one number, its digits in turn: 20200508 for 2020-05-08
--   date_or o            the day that was asked for, as `yyyymmdd`; 0 where there is no such number
--   NumberForC y m d r   `measured_day_number`: the day number of the date, or -1
--   DateForC n r         `measured_date_of`: the date of the day number, or 0
use Rattle.std.specs.Prelude.{ℕ, ◌+◌, ◌*◌, ◌≡◌, ℤ, pos, negsuc}
use Rattle.format.specs.Words.{Outcome, accepted, refused}
use Rattle.format.specs.Calendar.{Day, number_asked, day_asked}

abbrev pub number_or : Outcome ℕ → ℤ
number_or (accepted n) = pos n
number_or (refused n) = negsuc 0

unfoldable pub yyyymmdd : Day → ℕ
yyyymmdd d = d.year * 10000 + d.month * 100 + d.day

abbrev pub date_or : Outcome Day → ℕ
date_or (accepted d) = yyyymmdd d
date_or (refused n) = 0

abbrev pub NumberForC : ℕ → ℕ → ℕ → ℤ → Type 0
NumberForC y m d r = r ≡ number_or (number_asked (record { year = y; month = m; day = d }))

abbrev pub DateForC : ℕ → ℕ → Type 0
DateForC n r = r ≡ date_or (day_asked n)
