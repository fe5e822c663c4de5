-- `offset_of` meets its contract: twelve bits with half their range added and taken off again. Assumes nothing.
use Rattle.extended.proofs.Twelve.{offset_again}
use Rattle.extended.proofs.head.offset_of.Goals as goal

pub returns : goal.returns
returns c = rw c.new.ensures (offset_again c.args.bits c.requires)
