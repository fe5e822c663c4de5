-- `stamp_by_parts` meets its contract: each part in its place. Assumes nothing.
use mir.Facts.{to_z-of_z}
use Rattle.boundary.proofs.utc.stamp_by_parts.Goals as goal

pub returns : goal.returns
returns c = rw (c.new-date.ensures, c.new-time.ensures, c.new-offset.ensures, to_z-of_z c.ranges.offset)
