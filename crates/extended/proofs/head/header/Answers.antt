-- `header` meets its contract: four bits and twelve fit 16. Assumes nothing.
use native.Mathlib.Omega.{arith}
use Rattle.values.specs.Meaning.{kind_from}
use Rattle.format.proofs.Extended.{head_small}
use Rattle.extended.proofs.Twelve.{any_bits_lt}
use Rattle.extended.proofs.head.header.Goals as goal

pub overflow_mul-result : goal.overflow_mul-result
overflow_mul-result c = rw c.head_bits.ensures (record { fits = omega (arith, head_small (kind_from c.args.kind)) })

pub overflow_add-result : goal.overflow_add-result
overflow_add-result c =
    rw (c.head_bits.ensures, c.twelve_bits.ensures)
    (record { fits = omega (arith, head_small (kind_from c.args.kind), any_bits_lt (kind_from c.args.kind) c.args.offset.minutes) })
