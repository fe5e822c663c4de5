-- `is_shortest` meets its contract: no more octets than the padding, or no redundant sign octet. Assumes nothing.
use mathlib.Core.Path.{◌∙◌}
use native.Mathlib.Omega.{arith}
use lib.ListN.{drop, length-drop}
use Rattle.format.specs.Octets.{Octets}
use Rattle.format.proofs.Signed.{drop_octets}
use Rattle.compact.proofs.Shortest.{tight_shortest}
use Rattle.compact.proofs.reading.is_shortest.Goals as goal

pub returns-else-s-at : goal.returns-else-s-at
returns-else-s-at c =
    let a = c.args in
    let o : Octets a.s.now = λ i. omega (arith, c.type_inv.s i) in
    c.is_tight.ensures ∙ tight_shortest (drop a.at a.s.now) a.padded (drop_octets a.at a.s.now o) (rw length-drop (omega (arith, c.if-s-at.false)))
