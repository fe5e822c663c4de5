-- `up_to` meets its contract: it is a run from the first record on. Assumes nothing.
use mir.Syntax.{w64}
use mir.Facts.{to_z-of_z}
use Rattle.schedule.proofs.Endings.{runs_walks}
use Rattle.schedule.proofs.header.Card.up_to.Goals as goal

pub returns : goal.returns
returns c =
    let s = c.args.self.file.now in
    runs_walks s c.args.until c.args.self.in_octets c.args.self.good c.run.result (rw (to_z-of_z {w = w64} {z = c.args.until} c.ranges.until) at c.run.ensures)
