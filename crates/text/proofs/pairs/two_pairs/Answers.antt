-- `two_pairs` meets its contract: the word's test tells of its five octets. Assumes nothing.
use Rattle.std.proofs.Common.{arith}
use Rattle.text.proofs.PairLaws.{two_refused, two_read}
use Rattle.text.proofs.pairs.two_pairs.Goals as goal

pub numbers_in-requires : goal.numbers_in-requires
numbers_in-requires c = λ e. omega (arith, (two_read _ _ _ c.take_five-word.ensures e).small)

pub returns-in_err-pairs : goal.returns-in_err-pairs
returns-in_err-pairs c = rw c.from_residual.ensures (two_refused _ _ _ c.take_five-word.ensures c.in_err-pairs.ensures)

pub returns : goal.returns
returns c = rw c.in_ok-pairs.ensures.1 (two_read _ _ _ c.take_five-word.ensures c.in_ok-pairs.ensures.0).read
