-- `thousandths` meets its contract: the word's test tells of its four octets. Assumes nothing.
use Rattle.std.proofs.Common.{arith}
use Rattle.text.proofs.PairLaws.{part_refused, part_read}
use Rattle.text.proofs.pairs.thousandths.Goals as goal

pub numbers_in-requires : goal.numbers_in-requires
numbers_in-requires c = λ e. omega (arith, (part_read _ _ _ c.take_low-word.ensures e).small)

pub returns-in_err-pairs : goal.returns-in_err-pairs
returns-in_err-pairs c = rw c.from_residual.ensures (part_refused _ _ _ c.take_low-word.ensures c.in_err-pairs.ensures)

pub overflow_cast-last : goal.overflow_cast-last
overflow_cast-last c = omega (arith, (part_read _ _ _ c.take_low-word.ensures c.in_ok-pairs.ensures.0).last)

pub overflow_mul-result-2 : goal.overflow_mul-result-2
overflow_mul-result-2 c = omega (arith, (part_read _ _ _ c.take_low-word.ensures c.in_ok-pairs.ensures.0).last)

pub overflow_add-result : goal.overflow_add-result
overflow_add-result c =
    let r = part_read _ _ _ c.take_low-word.ensures c.in_ok-pairs.ensures.0 in
    omega (arith, r.last, r.low, c.in_ok-pairs.ensures.1)

pub returns : goal.returns
returns c = rw c.in_ok-pairs.ensures.1 (part_read _ _ _ c.take_low-word.ensures c.in_ok-pairs.ensures.0).read
