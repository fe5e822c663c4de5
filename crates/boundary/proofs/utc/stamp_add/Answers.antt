-- `stamp_add` meets its contract: what `Instant::add` answers, handed over. Assumes nothing.
use mathlib.Core.Path.{◌≡◌, ◌∙◌}
use mir.Facts.{to_z-of_z}
use Rattle.moments.specs.Calls.{add}
use Rattle.instants.specs.Meaning.{found}
use Rattle.boundary.proofs.utc.stamp_add.Goals as goal
use Rattle.boundary.proofs.utc.stamp_add.Goals.{After-hand_instant}

-- what `Instant::add` was asked for
answered : (c : After-hand_instant) → (let a = c.args in found c.add.result ≡ add a.instant a.micros)
answered c =
    let f = c.ranges in
    c.add.ensures ∙ rw (c.new-start.ensures, to_z-of_z f.instant, to_z-of_z f.micros)

pub returns : goal.returns
returns c = rw (← answered (goal.at.returns c).After-hand_instant) c.hand_instant.ensures
