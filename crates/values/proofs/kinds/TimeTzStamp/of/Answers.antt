-- `TimeTz::of` keeps the parts that the kind has. Assumes nothing.
use Rattle.format.specs.Keeping.{own}
use Rattle.values.proofs.kinds.TimeTzStamp.of.Goals as goal

pub returns : goal.returns
unfolding own
returns c = cc
