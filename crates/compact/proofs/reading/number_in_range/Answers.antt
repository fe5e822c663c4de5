-- `number_in_range` meets its contract: not before the start, and at most the greatest number. Assumes nothing.
use mathlib.Core.Path.{◌≡◌, sym, ◌∙◌}
use lib.IntN.{pos, neg_ℤ}
use lib.Signed.{le_z}
use mir.Syntax.{w64}
use mir.Val.{to_z, of_z}
use mir.Facts.{to_z-of_z}
use Rattle.format.specs.Compact.{start, greatest}
use Rattle.format.specs.CompactReading.{not_before, number_in_range}
use Rattle.values.specs.Meaning.{kind_from}
use Rattle.compact.proofs.Since.{above_since, within_since}
use Rattle.compact.proofs.reading.number_in_range.Goals as goal
use Rattle.compact.proofs.reading.number_in_range.Goals.{After-least_number}

above : (c : After-least_number)
    → le_z (to_z w64 (of_z w64 c.least_number.result)) (to_z w64 (of_z w64 c.args.number)) ≡ not_before (start (kind_from c.args.kind)) c.args.number
above c =
    let n = to_z-of_z c.ranges.number in
    let l : to_z w64 (of_z w64 c.least_number.result) ≡ neg_ℤ (pos (start (kind_from c.args.kind))) = to_z-of_z {w = w64} (record { sfits = c.least_number.type_inv }) ∙ c.least_number.ensures in
    rw (n, l) (above_since (start (kind_from c.args.kind)) c.args.number)

pub returns-then-least_number-number : goal.returns-then-least_number-number
unfolding number_in_range
returns-then-least_number-number c =
    let k = kind_from c.args.kind in
    let x = c.args.number in
    let g : to_z w64 (of_z w64 c.greatest_number.result) ≡ pos (greatest k c.args.front) = to_z-of_z {w = w64} (record { sfits = c.greatest_number.type_inv }) ∙ c.greatest_number.ensures in
    let e = sym (above (goal.at.returns-then-least_number-number c).After-least_number) ∙ c.if-least_number-number.true in
    rw (to_z-of_z c.ranges.number, g, e) (within_since (start k) (greatest k c.args.front) x e)

pub returns-else-least_number-number : goal.returns-else-least_number-number
unfolding number_in_range
returns-else-least_number-number c =
    let e = above (goal.at.returns-else-least_number-number c).After-least_number in
    rw (sym e ∙ c.if-least_number-number.false) (c.if-least_number-number.false)
