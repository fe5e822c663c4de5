-- `stamp_parts` meets its contract: each cast keeps its number. Assumes nothing.
use mir.Syntax.{w32}
use mir.Val.{SFits}
use mir.Facts.{to_z-of_z, sfits_widen}
use borrow.Author.Rules.{rules, sfits_of}
use Rattle.boundary.specs.Utc.{stamp_numbers}
use Rattle.boundary.proofs.Parts.{five_kept}
use Rattle.boundary.proofs.utc.stamp_parts.Goals as goal

pub overflow_cast-minutes : goal.overflow_cast-minutes
overflow_cast-minutes c =
    let f : SFits w32 c.args.stamp.offset.minutes = sfits_of (search rules) in
    rw (to_z-of_z f) (sfits_widen tt f)

pub returns : goal.returns
unfolding stamp_numbers
returns c =
    let s = c.args.stamp in
    five_kept s.date.year s.date.month s.date.day s.time.micros s.offset.minutes (search rules) (search rules) (search rules) (search rules) (sfits_of (search rules))
