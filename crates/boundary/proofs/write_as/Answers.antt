-- `write_as` meets its contract: what the writer of the kind leaves; it looks at the kind's own parts only. Assumes nothing.
use Rattle.boundary.proofs.Numbered.{left_owned}
use Rattle.boundary.proofs.write_as.Goals as goal

pub returns : goal.returns
returns g c = left_owned _ _ _ _ _ _ _ (rw c.of.ensures at c.write.ensures)
