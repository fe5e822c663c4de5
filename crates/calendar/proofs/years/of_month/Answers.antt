-- `calendar::years::of_month` meets its contract: its test is that of `march_year`. Assumes nothing.
use borrow.Author.Tests.{lt-ltb, le-ltb}
use Rattle.calendar.specs.Steps.{march_year}
use Rattle.calendar.proofs.years.of_month.Goals as goal

pub returns-then-month-lt3 : goal.returns-then-month-lt3
unfolding march_year
returns-then-month-lt3 c = rw (lt-ltb _ _ c.if-month-lt3.true)

pub returns : goal.returns
unfolding march_year
returns c = rw (le-ltb _ _ c.if-month-lt3.false)
