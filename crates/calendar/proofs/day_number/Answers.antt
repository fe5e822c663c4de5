-- `calendar::day_number` meets its contract: its one test is that of `number_asked`. Assumes nothing.
use mathlib.Core.Path.{◌≡◌, sym, ◌∙◌}
use mathlib.Core.Bool.{true}
use Rattle.format.specs.Calendar.{is_day, number_asked}
use Rattle.calendar.specs.Meaning.{day_from}
use Rattle.calendar.proofs.day_number.Goals as goal
use Rattle.calendar.proofs.day_number.Goals.{Then-in_range}

is_day_lem : (c : Then-in_range) → is_day (day_from c.before.before.args.date) ≡ true
is_day_lem c = sym c.before.in_range.ensures ∙ c.if-in_range.true

pub number_of-requires : goal.number_of-requires
number_of-requires c = is_day_lem (goal.at.number_of-requires c).Then-in_range

pub returns-then-in_range : goal.returns-then-in_range
unfolding number_asked
returns-then-in_range c = rw (is_day_lem (goal.at.returns-then-in_range c).Then-in_range, c.number_of.ensures)

pub returns : goal.returns
unfolding number_asked
returns c = rw (sym c.in_range.ensures ∙ c.if-in_range.false)
