-- `calendar::number_of` meets its contract: the day number by the year from March, and what `is_day` tells of the parts. Assumes nothing.
use mathlib.Core.Path.{◌≡◌}
use Prim.Native.Nat.{◌+◌}
use native.Mathlib.Omega.{arith}
use Rattle.format.specs.Calendar.{day_number}
use Rattle.format.proofs.Dates.{parts, number_small}
use Rattle.calendar.specs.Meaning.{day_from}
use Rattle.calendar.specs.Steps.{to_january}
use Rattle.calendar.proofs.March.{year_high}
use Rattle.calendar.proofs.Formulas.{by_march}
use Rattle.calendar.proofs.number_of.Goals as goal
use Rattle.calendar.proofs.number_of.Goals.{After-days_before-2}

sum : (c : After-days_before-2)
    → c.before.days_before.result + c.days_before-2.result + c.before.before.before.args.date.day ≡ day_number (day_from c.before.before.before.args.date) + (to_january + 1)
sum c =
    rw (c.before.days_before.ensures, c.days_before-2.ensures, c.before.before.of_month.ensures)
    (by_march (day_from c.before.before.before.args.date) (parts _ c.before.before.before.requires))

pub of_month-requires : goal.of_month-requires
of_month-requires c = (parts _ c.requires).year_low

pub days_before-requires : goal.days_before-requires
days_before-requires c = rw c.of_month.ensures (year_high _ _ (parts _ c.requires).year_high)

pub days_before-requires-2 : goal.days_before-requires-2
days_before-requires-2 c = let p = parts _ c.requires in (p.month_low, p.month_high)

pub overflow_add-result : goal.overflow_add-result
overflow_add-result c = omega (arith, sum (goal.at.overflow_add-result c).After-days_before-2, number_small _ c.requires)

pub overflow_add-result-2 : goal.overflow_add-result-2
overflow_add-result-2 c = omega (arith, sum (goal.at.overflow_add-result-2 c).After-days_before-2, number_small _ c.requires)

pub overflow_sub-result : goal.overflow_sub-result
overflow_sub-result c = omega (arith, sum (goal.at.overflow_sub-result c).After-days_before-2)

pub returns : goal.returns
returns c = omega (arith, sum (goal.at.returns c).After-days_before-2)
