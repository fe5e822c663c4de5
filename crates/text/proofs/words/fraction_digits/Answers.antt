-- `fraction_digits` meets its contract: the tens come out of the product, and with them the ones. Assumes nothing.
use Rattle.std.proofs.Common.{refl, arith}
use Rattle.text.proofs.Lanes.{fraction_tens, fraction_digits}
use Rattle.text.proofs.words.fraction_digits.Goals as goal

pub digits_in-requires : goal.digits_in-requires
digits_in-requires c = (omega (arith, c.requires), omega (arith, c.requires, fraction_tens c.args.a c.args.b c.args.c c.requires))

pub returns : goal.returns
returns c = rw c.digits_in.ensures (fraction_digits c.args.a c.args.b c.args.c c.requires _ _ refl (fraction_tens c.args.a c.args.b c.args.c c.requires))
