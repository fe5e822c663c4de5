-- `stamp_at` meets its contract: what `Instant::at` answers, handed over. Assumes nothing.
use mathlib.Core.Path.{◌≡◌, ◌∙◌}
use mir.Facts.{to_z-of_z}
use Rattle.moments.specs.Calls.{at}
use Rattle.instants.specs.Meaning.{stated}
use Rattle.boundary.proofs.InDay.{at_in_day}
use Rattle.boundary.proofs.utc.stamp_at.Goals as goal
use Rattle.boundary.proofs.utc.stamp_at.Goals.{After-hand_stamp}

-- what `Instant::at` was asked for
answered : (c : After-hand_stamp) → (let a = c.args in stated c.at.result ≡ at a.instant a.offset)
answered c =
    let f = c.ranges in
    c.at.ensures
    ∙ rw (c.new-moment.ensures, c.new-offset.ensures, to_z-of_z f.instant, to_z-of_z f.offset)

pub hand_stamp-requires : goal.hand_stamp-requires
hand_stamp-requires c = rw c.at.ensures (at_in_day _ _)

pub returns : goal.returns
returns c = rw (← answered (goal.at.returns c).After-hand_stamp) c.hand_stamp.ensures
