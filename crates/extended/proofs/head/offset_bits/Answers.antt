-- `offset_bits` meets its contract: the low twelve bits are the remainder. Assumes nothing.
use mathlib.Core.Path.{ap}
use lib.IntN.{nat_abs}
use borrow.Author.Rules.{rules, sfits_of}
use Rattle.extended.proofs.Twelve.{low_twelve}
use Rattle.extended.proofs.head.offset_bits.Goals as goal

pub returns : goal.returns
returns c = ap nat_abs (low_twelve c.args.offset.minutes (sfits_of (search rules)))
