-- `calendar::years::days_before` meets its contract: the formula, and a day for every fourth century. Assumes nothing.
use native.Mathlib.Omega.{arith}
use Rattle.format.specs.Calendar.{year_start}
use Rattle.calendar.proofs.March.{by_formula}
use Rattle.calendar.proofs.years.days_before.Goals as goal

pub overflow_add-result : goal.overflow_add-result
unfolding year_start
overflow_add-result c = omega (arith, c.start.ensures, c.hundredth.ensures)

pub returns : goal.returns
returns c = rw (c.start.ensures, c.hundredth.ensures) (by_formula _)
