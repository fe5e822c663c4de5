-- What the code's public types stand for, in the terms of `format`: the legend.
--
--   day_from d           the code's date, as a `Day`: the same three numbers, right or wrong
--   number_answered r    what `day_number` answers: a number, or refusal 2, no such day
--   day_answered r       what `date_of` answers: a date, or refusal 2, no such number
use Rattle.std.specs.Prelude.{ℕ, Option, Some, None}
use Rattle.format.specs.Words.{Outcome, accepted, refused}
use Rattle.format.specs.Calendar.{Day}
use Rattle.calendar.specs.declared.Date.{Date}

abbrev pub day_from : Date → Day
day_from d = record { year = d.year; month = d.month; day = d.day }

abbrev pub number_answered : Option ℕ → Outcome ℕ
number_answered (Some n) = accepted n
number_answered None = refused 2

abbrev pub day_answered : Option Date → Outcome Day
day_answered (Some d) = accepted (day_from d)
day_answered None = refused 2
