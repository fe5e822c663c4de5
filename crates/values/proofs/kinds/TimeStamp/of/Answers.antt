-- `Time::of` keeps the parts that the kind has. Assumes nothing.
use Rattle.format.specs.Keeping.{own}
use Rattle.values.proofs.kinds.TimeStamp.of.Goals as goal

pub returns : goal.returns
unfolding own
returns c = cc
