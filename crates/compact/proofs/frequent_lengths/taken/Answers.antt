-- `taken` meets its contract, part by part. Assumes nothing.
use mathlib.Core.Path.{sym, ◌∙◌}
use mir.Syntax.{w64}
use mir.Facts.{to_z-of_z}
use Rattle.compact.proofs.ReadingSteps.{needed_at}
use Rattle.compact.proofs.Seeing.{sees}
use Rattle.compact.proofs.frequent_lengths.taken.Goals as goal

pub returns-then-is_shortest : goal.returns-then-is_shortest
returns-then-is_shortest g c =
    let x = to_z-of_z {w = w64} (record { sfits = c.signed-number.type_inv }) ∙ rw c.front_octets.ensures at c.signed-number.ensures in
    sees _ _ _ _ (λ i. (c.type_inv.s i).fits) c.requires.octets.2 c.requires.kind.0 c.requires.octets.0 c.requires.kind.1 _ c.offset_in-offset.ensures x
    (rw (sym c.is_shortest.ensures ∙ c.if-is_shortest.true) (c.is_needed.ensures ∙ needed_at _ _ _ c.offset_in-offset.ensures))

pub returns-else-is_shortest : goal.returns-else-is_shortest
returns-else-is_shortest g c =
    let x = to_z-of_z {w = w64} (record { sfits = c.signed-number.type_inv }) ∙ rw c.front_octets.ensures at c.signed-number.ensures in
    sees _ _ _ _ (λ i. (c.type_inv.s i).fits) c.requires.octets.2 c.requires.kind.0 c.requires.octets.0 c.requires.kind.1 _ c.offset_in-offset.ensures x
    (rw (sym c.is_shortest.ensures ∙ c.if-is_shortest.false) c.if-is_shortest.false)
