-- `fraction_unit` meets its contract: the power, computed for each number of digits. Assumes nothing.
use Rattle.std.proofs.Common.{le_antisymm, arith}
use Rattle.format.specs.Text.{fraction_unit}
use Rattle.text.proofs.PartLaws.{past}
use Rattle.text.proofs.fraction.fraction_unit.Goals as goal

pub returns-in-0 : goal.returns-in-0
unfolding fraction_unit
returns-in-0 c = rw c.in-0.is

pub returns-in-1 : goal.returns-in-1
unfolding fraction_unit
returns-in-1 c = rw c.in-1.is

pub returns-in-2 : goal.returns-in-2
unfolding fraction_unit
returns-in-2 c = rw c.in-2.is

pub returns-in-3 : goal.returns-in-3
unfolding fraction_unit
returns-in-3 c = rw c.in-3.is

pub returns-in-4 : goal.returns-in-4
unfolding fraction_unit
returns-in-4 c = rw c.in-4.is

pub returns-in-5 : goal.returns-in-5
unfolding fraction_unit
returns-in-5 c = rw c.in-5.is

pub returns-in_default : goal.returns-in_default
unfolding fraction_unit
returns-in_default c =
    let o = c.in_default.in_default-own.rest in
    let h = past _ 5 (past _ 4 (past _ 3 (past _ 2 (past _ 1 (past _ 0 (omega arith) o.0.0.0.0.0.1) o.0.0.0.0.1) o.0.0.0.1) o.0.0.1) o.0.1) o.1 in
    rw (le_antisymm c.args.digits.few h)
