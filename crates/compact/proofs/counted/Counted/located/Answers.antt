-- `Counted::located` meets its contract: of a DatetimeTz the count is the local reading in milliseconds. Assumes nothing.
use native.Mathlib.Omega.{arith}
use Rattle.compact.proofs.LocalReadings.{small, located_at, in_days}
use Rattle.compact.proofs.counted.Counted.located.Goals as goal

pub overflow_mul-result : goal.overflow_mul-result
overflow_mul-result c = record { fits = omega (arith, small _ (in_days _ _ c.requires c.args.self.has_day)) }

pub returns : goal.returns
returns c = located_at _ _ (in_days _ _ c.requires c.args.self.has_day)
