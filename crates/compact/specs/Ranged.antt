-- The day number of a value in range, as the binary writers ask for it: one look at the calendar tests the date too.
--
--   day_where_ranged k v   what `day_in_range` answers: the day number, 0 where the kind has no date, or refusal 2
use Rattle.std.specs.Prelude.{ℕ}
use Rattle.format.specs.Words.{if_any, Outcome, accepted, unless}
use Rattle.format.specs.Calendar.{day_number}
use Rattle.format.specs.Values.{Kind, dated, Value, in_range}

unfoldable pub day_where_ranged : Kind → Value → Outcome ℕ
day_where_ranged k v = unless (in_range k v) 2 (accepted (if_any (dated k) (day_number v.date)))
