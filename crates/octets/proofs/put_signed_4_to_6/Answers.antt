-- `octets::put_signed_4_to_6` meets its contract: of the last two octets, those that are among the first four are stored once more.
-- Assumes nothing.
use Rattle.std.proofs.Common.{◌≡◌, ◌+◌, ◌-◌, ◌^◌, ℤ, ap, ◌∙◌, arith, to_z-of_z, w64, to_z, of_z}
use Rattle.format.specs.Floor.{div_f}
use Rattle.octets.proofs.Behind.{stored_over}
use Rattle.octets.proofs.put_signed_4_to_6.Goals as goal

pub returns : goal.returns
returns c =
    let n = c.args.n in
    let x = c.args.x in
    let h = c.without_octets in
    let i : 2 - (6 - n) ≡ n - 4 = omega (arith, c.requires) in
    let j : n - 2 + 2 ≡ n = omega (arith, c.requires) in
    let y : to_z w64 (of_z w64 h.result) ≡ div_f x (256 ^ (n - 4)) = to_z-of_z {w = w64} (record { sfits = h.type_inv }) ∙ h.ensures ∙ ap (λ (z : ℤ). div_f z (256 ^ (n - 4))) (to_z-of_z c.ranges.x) in
    c.put_signed-2.ensures
    ∙ rw (c.put_signed.ensures, y, to_z-of_z c.ranges.x)
    (rw (i, j) at (stored_over c.args.buf.now c.args.at (n - 2) (6 - n) x (omega (arith, c.requires)) (omega (arith, c.requires))))
