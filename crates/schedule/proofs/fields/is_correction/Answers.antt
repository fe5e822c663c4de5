-- `is_correction` meets its contract: the size is within the limit where the number is from -limit to limit. Assumes nothing.
use mathlib.Core.Path.{◌≡◌, sym}
use mir.Syntax.{w64}
use mir.Val.{to_z, of_z}
use mir.Facts.{to_z-of_z}
use borrow.Author.Rules.{rules, sfits_of}
use Rattle.schedule.proofs.Ranges.{below_least, from_least}
use Rattle.schedule.proofs.fields.is_correction.Goals as goal

pub returns-then-correction : goal.returns-then-correction
returns-then-correction c =
    let x = c.args.correction in
    let e : to_z w64 (of_z w64 x) ≡ x = to_z-of_z {w = w64} (sfits_of (search rules)) in
    sym (below_least x (rw e at c.if-correction.true))

pub returns : goal.returns
returns c =
    let x = c.args.correction in
    let e : to_z w64 (of_z w64 x) ≡ x = to_z-of_z {w = w64} (sfits_of (search rules)) in
    rw e (from_least x (rw e at c.if-correction.false))
