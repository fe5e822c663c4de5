-- `day_in` meets its contract: the first three of eight octets. Assumes nothing.
use Rattle.extended.proofs.Places.{octets, day_above}
use Rattle.extended.proofs.readers.day_in.Goals as goal

pub returns : goal.returns
returns c = rw c.take8.ensures (day_above _ (octets _ c.type_inv.s))
