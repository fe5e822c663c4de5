-- `calendar::date_after` meets its contract: the month and its day by the line, in the year that has the day number. Assumes nothing.
use mathlib.Core.Path.{◌≡◌}
use Prim.Native.Nat.{◌+◌, ◌-◌, ◌≤◌}
use native.Mathlib.Omega.{arith}
use Rattle.format.proofs.Years.{years}
use Rattle.calendar.specs.Steps.{to_january, day_count}
use Rattle.calendar.proofs.March.{short_year}
use Rattle.calendar.proofs.Formulas.{late_date, early_date}
use Rattle.calendar.proofs.date_after.Goals as goal
use Rattle.calendar.proofs.date_after.Goals.{Start}

few : (c : Start) → c.args.past.days ≤ 365
few c = omega (arith, short_year c.args.past.years, c.requires.0)

total : (c : Start) → day_count c.args.past ≡ day_count c.args.past - to_january + to_january
total c = omega (arith, c.requires.1)

pub overflow_mul-line : goal.overflow_mul-line
overflow_mul-line c = omega (arith, few (goal.at.overflow_mul-line c).Start)

pub overflow_add-line : goal.overflow_add-line
overflow_add-line c = omega (arith, few (goal.at.overflow_add-line c).Start)

pub returns-then-days-lt-TO_JANUARY : goal.returns-then-days-lt-TO_JANUARY
returns-then-days-lt-TO_JANUARY c = late_date _ _ _ (total (goal.at.returns-then-days-lt-TO_JANUARY c).Start) (omega (arith, c.requires.2)) c.requires.0 c.if-days-lt-TO_JANUARY.true

pub overflow_add-result : goal.overflow_add-result
overflow_add-result c = omega (arith, years c.args.past.years, c.requires.2)

pub returns : goal.returns
returns c = early_date _ _ _ (total (goal.at.returns c).Start) (omega (arith, c.requires.2)) c.requires.0 c.if-days-lt-TO_JANUARY.false
