-- `Value::in_range` meets its contract: the date's test, and then the others'. Assumes nothing.
use Rattle.std.proofs.Common.{rules}
use Rattle.format.specs.Values.{in_range}
use Rattle.values.proofs.kinds.Value.in_range.Goals as goal

pub returns-then-in_range : goal.returns-then-in_range
unfolding in_range
returns-then-in_range c = search rules

pub returns-else-in_range : goal.returns-else-in_range
unfolding in_range
returns-else-in_range c = search rules
