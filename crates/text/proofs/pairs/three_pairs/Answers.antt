-- `three_pairs` meets its contract: the word's test tells of its eight octets. Assumes nothing.
use Rattle.std.proofs.Common.{arith}
use Rattle.text.proofs.PairLaws.{three_refused, three_read}
use Rattle.text.proofs.pairs.three_pairs.Goals as goal

pub numbers_in-requires : goal.numbers_in-requires
numbers_in-requires c = λ e. omega (arith, (three_read _ _ _ c.args.mark (omega arith) c.take_low.ensures e).small)

pub returns-in_err-pairs : goal.returns-in_err-pairs
returns-in_err-pairs c = rw c.from_residual.ensures (three_refused _ _ _ c.args.mark (omega arith) c.take_low.ensures c.in_err-pairs.ensures)

pub returns : goal.returns
returns c = rw c.in_ok-pairs.ensures.1 (three_read _ _ _ c.args.mark (omega arith) c.take_low.ensures c.in_ok-pairs.ensures.0).read
