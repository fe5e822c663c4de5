-- `put_date_of` meets its contract: a part that a kind lacks takes no octets. Assumes nothing.
use Rattle.text.proofs.TextWriters.{no_date_lem}
use Rattle.text.proofs.writers.put_date_of.Goals as goal

pub returns-else-dated : goal.returns-else-dated
returns-else-dated g c = rw (← c.kind.ensures, ← c.if-dated.ensures) (no_date_lem _ _)
