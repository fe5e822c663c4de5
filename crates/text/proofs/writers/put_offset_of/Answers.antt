-- `put_offset_of` meets its contract: a part that a kind lacks takes no octets. Assumes nothing.
use Rattle.text.proofs.TextWriters.{no_offset}
use Rattle.text.proofs.writers.put_offset_of.Goals as goal

pub returns-else-zoned : goal.returns-else-zoned
returns-else-zoned g c = rw (← c.kind.ensures, ← c.if-zoned.ensures) (no_offset _ _ _)
