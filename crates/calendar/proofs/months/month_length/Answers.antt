-- `calendar::months::month_length` meets its contract: the formula. Assumes nothing.
use borrow.Author.Tests.{eq-eqb, ne_eqb}
use Rattle.calendar.proofs.Formulas.{month_length_lem}
use Rattle.calendar.proofs.months.month_length.Goals as goal

pub returns-then-month-eq2 : goal.returns-then-month-eq2
returns-then-month-eq2 c =
    let s = c in
    let a = s.args in
    rw c.february.ensures (rw (eq-eqb a.month 2 c.if-month-eq2.true) at (month_length_lem a.leap a.month s.requires.0 s.requires.1))

pub returns : goal.returns
returns c =
    let s = c in
    let a = s.args in
    rw (ne_eqb a.month 2 c.if-month-eq2.false) at (month_length_lem a.leap a.month s.requires.0 s.requires.1)
