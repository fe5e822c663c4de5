-- `is_shortest` meets its contract: what one octet fewer holds is a bit of the number's word. Assumes nothing.
use Rattle.compact.proofs.Shortest.{halved}
use Rattle.compact.proofs.frequent_lengths.is_shortest.Goals as goal

pub is_beyond-requires : goal.is_beyond-requires
is_beyond-requires g c = rw (halved g.row.N c.requires.0 c.requires.1)
