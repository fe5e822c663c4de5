-- `is_clean` meets its contract: the two tests, in the definition's order. Assumes nothing.
use Rattle.std.proofs.Common.{eq-eqb, ne_eqb}
use Rattle.text.specs.Pairs.{clean}
use Rattle.text.proofs.pairs.is_clean.Goals as goal

pub returns-then-x-mask-eq0 : goal.returns-then-x-mask-eq0
unfolding clean
returns-then-x-mask-eq0 c = rw (eq-eqb _ 0 c.if-x-mask-eq0.true)

pub returns-else-x-mask-eq0 : goal.returns-else-x-mask-eq0
unfolding clean
returns-else-x-mask-eq0 c = rw (ne_eqb _ 0 c.if-x-mask-eq0.false)
