-- `zoned_offset` meets its contract: the header of two octets. Assumes nothing.
use Rattle.extended.proofs.Places.{octets, header_is}
use Rattle.extended.proofs.readers.zoned_offset.Goals as goal

pub returns : goal.returns
returns c = rw (← header_is _ (octets _ c.type_inv.s)) c.offset_of.ensures
