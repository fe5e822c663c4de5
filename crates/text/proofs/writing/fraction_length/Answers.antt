-- `fraction_length` meets its contract: nothing for no digits, else the point and the digits. Assumes nothing.
use Rattle.std.proofs.Common.{arith}
use Rattle.text.proofs.PartLaws.{part_width}
use Rattle.format.specs.Fields.{width}
use Rattle.text.proofs.writing.fraction_length.Goals as goal

pub returns-then-digits-eq0 : goal.returns-then-digits-eq0
unfolding width
returns-then-digits-eq0 c = rw c.if-digits-eq0.true

pub returns-else-digits-eq0 : goal.returns-else-digits-eq0
returns-else-digits-eq0 c = omega (arith, part_width c.args.digits.number c.if-digits-eq0.false)
