-- `offset_digits` meets its contract: the tens come out of the product, and with them the ones. Assumes nothing.
use Rattle.std.proofs.Common.{refl, arith}
use Rattle.text.proofs.Lanes.{offset_tens, offset_digits}
use Rattle.text.proofs.words.offset_digits.Goals as goal

pub digits_in-requires : goal.digits_in-requires
digits_in-requires c = (omega (arith, c.requires), omega (arith, c.requires, offset_tens c.args.a c.args.b c.requires))

pub returns : goal.returns
returns c = rw c.digits_in.ensures (offset_digits c.args.a c.args.b c.requires _ _ refl (offset_tens c.args.a c.args.b c.requires))
