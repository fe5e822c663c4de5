-- `Fields::are_right` meets its contract: its tests are those of `right`. Assumes nothing.
use Rattle.format.proofs.Cases.{not_true, not_false, both_false}
use mathlib.Core.Path.{◌≡◌, sym, ◌∙◌}
use mir.Syntax.{w64}
use mir.Facts.{to_z-of_z}
use borrow.Author.Rules.{sfits_of}
use mathlib.Core.Bool.{true, false}
use lib.IntN.{nat_abs}
use lib.Dec.{leb}
use Rattle.schedule.specs.Steps.{right}
use borrow.Author.Rules.{rules}
use Rattle.schedule.proofs.fields.Fields.are_right.Goals as goal

pub returns-then-not-is_channel : goal.returns-then-not-is_channel
unfolding right
returns-then-not-is_channel c = rw (sym c.is_channel.ensures ∙ not_true _ c.if-not-is_channel.true-raw)

pub returns-then-not-is_correction : goal.returns-then-not-is_correction
unfolding right
returns-then-not-is_correction c =
    let x = c.args.self.correction in
    let e : leb (nat_abs x) 1000000 ≡ false = rw (to_z-of_z {w = w64} {z = x} (sfits_of (search rules))) at (sym c.is_correction.ensures ∙ not_true _ c.if-not-is_correction.true-raw) in
    rw (e, both_false)

pub returns : goal.returns
unfolding right
returns c =
    let x = c.args.self.correction in
    let g : leb (nat_abs x) 1000000 ≡ true = rw (to_z-of_z {w = w64} {z = x} (sfits_of (search rules))) at (sym c.is_correction.ensures ∙ not_false _ c.if-not-is_correction.false-raw) in
    rw (
      sym c.is_channel.ensures ∙ not_false _ c.if-not-is_channel.false-raw,
      g,
      c.is_placed.ensures,
      c.end.ensures,
    )
