-- `octets::put_signed_in` meets its contract: each turn stores the last octet of what is left. Assumes nothing.
use Rattle.std.proofs.Common.{◌≡◌, ◌∙◌, arith, to_z-of_z, w64, to_z, of_z}
use Rattle.format.specs.Floor.{div_f}
use Rattle.format.specs.Octets.{signed_octets}
use Rattle.format.proofs.Storing.{signed_turn}
use Rattle.octets.proofs.put_signed_in.Goals as goal

pub loop-i-preserved : goal.loop-i-preserved
loop-i-preserved c =
    let b = c.loop-i in
    let rest : to_z w64 (of_z w64 c.without_last-v.result) ≡ div_f (to_z w64 b.v-bits) 256 = to_z-of_z {w = w64} (record { sfits = c.without_last-v.type_inv }) ∙ c.without_last-v.ensures in
    rw (c.last_octet.ensures, rest) (signed_turn b.buf c.args.at b.i (to_z w64 b.v-bits) c.loop-i-test.true ∙ b.invariant)

pub returns : goal.returns
unfolding signed_octets
returns c =
    let none : c.loop-i.i ≡ 0 = omega arith in
    rw (none, to_z-of_z c.ranges.x) at c.loop-i.invariant
