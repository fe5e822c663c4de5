-- `stamp_instant` meets its contract: what `Instant::try_from` answers, handed over. Assumes nothing.
use mathlib.Core.Path.{◌≡◌, ◌∙◌}
use mir.Facts.{to_z-of_z}
use Rattle.moments.specs.Calls.{instant}
use Rattle.instants.specs.Meaning.{found}
use Rattle.boundary.proofs.utc.stamp_instant.Goals as goal
use Rattle.boundary.proofs.utc.stamp_instant.Goals.{After-hand_instant}

-- what `Instant::try_from` was asked for
answered : (c : After-hand_instant)
    → (let a = c.args in
    found c.try_from.result
    ≡ instant (record { date = record { year = a.year; month = a.month; day = a.day }; micros = a.micros; offset = a.offset }))
answered c = c.try_from.ensures ∙ rw (c.stamp_by_parts-stamp.ensures, to_z-of_z c.ranges.offset)

pub returns : goal.returns
returns c = rw (← answered (goal.at.returns c).After-hand_instant) c.hand_instant.ensures
