-- `take_five` meets its contract: four octets, and one behind them. Assumes nothing.
use Rattle.std.proofs.Common.{◌+◌, arith}
use Rattle.octets.proofs.Joining.{four_small, five_loads}
use Rattle.octets.proofs.low.take_five.Goals as goal

pub overflow_mul-result : goal.overflow_mul-result
overflow_mul-result c = omega (arith, c.type_inv.s (c.args.at + 4))

pub overflow_add-result : goal.overflow_add-result
overflow_add-result c = omega (arith, four_small _ _ _ c.take_low.ensures, c.type_inv.s (c.args.at + 4))

pub returns : goal.returns
returns c = five_loads _ _ _ c.take_low.ensures
