-- `point_digits` meets its contract: the word law, once each part is two digits. Assumes nothing.
use Rattle.std.proofs.Common.{arith}
use Rattle.text.proofs.PuttingWords.{point_word}
use Rattle.text.proofs.writing.point_digits.Goals as goal

pub returns : goal.returns
returns c = rw c.fraction_digits.ensures.word (point_word c.args.micros _ _ _ (omega arith) (omega arith) (omega arith) c.requires)
