-- A local reading, a date and a time of day, as one number: so many units since 0001-01-01T00:00. 24:00 is the next day's 00:00 in it.
--
--   join unit day rest   day whole days, and so much of the next one; a day has `unit` units
--   day_part unit n      the whole days in n
--   rest_part unit n     what is over, below one day
use Rattle.std.specs.Prelude.{ℕ, ◌+◌, ◌*◌, ◌/◌, ◌%◌}

-- 01, Compact, has 86,400,000 × days + milliseconds of the day, its days from 2020-01-01: `number` in `Compact.antt` takes the difference
abbrev pub join : ℕ → ℕ → ℕ → ℕ
join unit day rest = day * unit + rest

abbrev pub day_part : ℕ → ℕ → ℕ
day_part unit n = n / unit

abbrev pub rest_part : ℕ → ℕ → ℕ
rest_part unit n = n % unit
