-- `calendar::months::february` meets its contract: a number for each answer of its test. Assumes nothing.
use mathlib.Core.Path.{sym, ap}
use mathlib.Core.Bool.{Bool}
use Rattle.format.specs.Words.{pick}
use Rattle.calendar.proofs.months.february.Goals as goal

pub returns-then-leap : goal.returns-then-leap
returns-then-leap c = sym (ap (λ (l : Bool). pick l 29 28) c.if-leap.true)

pub returns : goal.returns
returns c = sym (ap (λ (l : Bool). pick l 29 28) c.if-leap.false)
