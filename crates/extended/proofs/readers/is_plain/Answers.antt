-- `is_plain` meets its contract: the two octets as one number. Assumes nothing.
use Rattle.extended.proofs.Places.{octets, plain_octets}
use Rattle.extended.proofs.readers.is_plain.Goals as goal

pub returns : goal.returns
returns c = plain_octets _ (octets _ c.type_inv.s) c.requires.1
