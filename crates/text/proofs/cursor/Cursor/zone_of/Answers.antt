-- `zone_of` meets its contract: fields that a kind lacks take no octets. Assumes nothing.
use Rattle.std.proofs.Common.{arith}
use Rattle.text.proofs.Wholes.{absent_read}
use Rattle.text.proofs.cursor.Cursor.zone_of.Goals as goal

pub returns : goal.returns
returns g c = rw (← c.kind.ensures, ← c.if-zoned.ensures) (absent_read 3 _ _, omega arith)
