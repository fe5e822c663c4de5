-- `calendar::months::days_before` meets its contract: the line, computed for each month. Assumes nothing.
use borrow.Author.Tests.{lt-ltb, le-ltb}
use Rattle.calendar.proofs.Formulas.{month_start}
use Rattle.calendar.proofs.months.days_before.Goals as goal

pub returns-then-month-lt3 : goal.returns-then-month-lt3
returns-then-month-lt3 c = rw (lt-ltb c.args.month 3 c.if-month-lt3.true) at (month_start c.args.month c.requires.0 c.requires.1)

pub returns : goal.returns
returns c = rw (le-ltb c.args.month 3 c.if-month-lt3.false) at (month_start c.args.month c.requires.0 c.requires.1)
