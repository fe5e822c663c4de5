-- `two_digits` meets its contract: the law of two digits. Assumes nothing.
use Rattle.text.proofs.Lanes.{two_digits}
use Rattle.text.proofs.words.two_digits.Goals as goal

pub returns : goal.returns
returns c = two_digits c.args.v c.requires
