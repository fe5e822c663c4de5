-- `stamp_restate` meets its contract: what `restate` answers, handed over. Assumes nothing.
use mathlib.Core.Path.{◌≡◌, ◌∙◌}
use mir.Facts.{to_z-of_z}
use Rattle.moments.specs.Calls.{restate}
use Rattle.instants.specs.Meaning.{stated}
use Rattle.boundary.proofs.InDay.{restate_in_day}
use Rattle.boundary.proofs.utc.stamp_restate.Goals as goal
use Rattle.boundary.proofs.utc.stamp_restate.Goals.{After-hand_stamp}

-- what `restate` was asked for
answered : (c : After-hand_stamp)
    → (let a = c.args in
    stated c.restate.result
    ≡ restate (record { date = record { year = a.year; month = a.month; day = a.day }; micros = a.micros; offset = a.offset }) a.to)
answered c =
    let f = c.ranges in
    c.restate.ensures
    ∙ rw (c.stamp_by_parts-stamp.ensures, c.new.ensures, to_z-of_z f.offset, to_z-of_z f.to)

pub hand_stamp-requires : goal.hand_stamp-requires
hand_stamp-requires c = rw c.restate.ensures (restate_in_day _ _)

pub returns : goal.returns
returns c = rw (← answered (goal.at.returns c).After-hand_stamp) c.hand_stamp.ensures
