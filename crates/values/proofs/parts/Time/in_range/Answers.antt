-- `Time::in_range` meets its contract: the constant is the paper's. Assumes nothing.
use mathlib.Core.Path.{refl}
use Rattle.format.specs.Values.{time_in_range}
use Rattle.values.proofs.parts.Time.in_range.Goals as goal

pub returns : goal.returns
unfolding time_in_range
returns c = refl
