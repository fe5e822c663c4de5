-- `calendar::is_leap` meets its contract: the leap rule, with the centuries first. Assumes nothing.
use mathlib.Core.Path.{sym}
use Rattle.format.proofs.Years.{leap_century, leap_other}
use Rattle.calendar.proofs.is_leap.Goals as goal

pub returns-then-year-eq0 : goal.returns-then-year-eq0
returns-then-year-eq0 c = sym (leap_century _ c.if-year-eq0.true)

pub returns : goal.returns
returns c = sym (leap_other _ c.if-year-eq0.false)
