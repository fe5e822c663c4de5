-- `minutes_in` meets its contract: two octets fit 32 bits. Assumes nothing.
use mathlib.Core.Path.{◌≡◌, ◌∙◌}
use native.Mathlib.Omega.{arith}
use lib.ListN.{length, take}
use lib.Seq.{length-take-le}
use mir.Syntax.{w32, w64}
use mir.Val.{SFits, to_z, of_z}
use mir.Facts.{to_z-of_z}
use borrow.Author.Rules.{sfits_of}
use Rattle.format.specs.Octets.{Octets, signed_of}
use Rattle.format.proofs.Signed.{take_octets}
use Rattle.compact.proofs.Shortest.{octets_fit_lem}
use Rattle.compact.proofs.reading.minutes_in.Goals as goal
use Rattle.compact.proofs.reading.minutes_in.Goals.{After-signed}

two : (c : After-signed) → to_z w64 (of_z w64 c.signed.result) ≡ signed_of (take 2 c.args.s.now)
two c = to_z-of_z {w = w64} (record { sfits = c.signed.type_inv }) ∙ c.signed.ensures

room : (c : After-signed) → SFits w32 (to_z w64 (of_z w64 c.signed.result))
room c =
    let s = c.args.s.now in
    let o : Octets s = λ i. omega (arith, c.type_inv.s i) in
    let l : length (take 2 s) ≡ 2 = length-take-le 2 s c.requires in
    rw (two c) (sfits_of (omega (arith, octets_fit_lem (take 2 s) 2 (take_octets 2 s o) (omega arith) (omega arith))))

pub overflow_cast-result : goal.overflow_cast-result
overflow_cast-result c = room (goal.at.overflow_cast-result c).After-signed

pub returns : goal.returns
returns c = let d = (goal.at.returns c).After-signed in to_z-of_z (room d) ∙ two d
