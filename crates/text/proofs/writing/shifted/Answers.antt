-- `shifted` meets its contract: the law of a word that is stored further on. Assumes nothing.
use Rattle.std.proofs.Common.{arith}
use Rattle.text.proofs.Shifting.{shifted_word, shifted_fits}
use Rattle.text.proofs.writing.shifted.Goals as goal

pub overflow_add-result : goal.overflow_add-result
overflow_add-result c =
    let f = shifted_fits c.args.first c.args.second (omega (arith, c.ranges.first)) c.requires.1 c.args.octets c.requires.0 in
    omega (arith, f)

pub returns : goal.returns
returns c = shifted_word c.args.first c.args.second (omega (arith, c.ranges.first)) c.requires.1 c.args.octets c.requires.0
