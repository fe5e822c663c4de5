-- `calendar::years::start` meets its contract: it is 01's formula. Assumes nothing.
use native.Mathlib.Omega.{arith}
use Rattle.format.specs.Calendar.{year_start}
use Rattle.calendar.proofs.years.start.Goals as goal

pub returns : goal.returns
unfolding year_start
returns c = omega (arith, c.hundredth.ensures)
