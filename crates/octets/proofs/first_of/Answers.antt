-- `octets::first_of` meets its contract: four octets or two as a number with a sign, or the sign alone. Assumes nothing.
use Rattle.std.proofs.Common.{sym, ◌∙◌, arith, to_z-of_z, w16, w32, w64}
use Rattle.octets.proofs.Taking.{none_yet_lem, first_2, first_4}
use Rattle.octets.proofs.first_of.Goals as goal

pub returns-then-n-ge4-clause-number : goal.returns-then-n-ge4-clause-number
returns-then-n-ge4-clause-number c =
    let r = c.from_be_bytes-first in
    rw (to_z-of_z {w = w32} (record { sfits = r.type_inv }), to_z-of_z {w = w64} {z = r.result} (record { sfits = omega (arith, r.type_inv) }))
    (r.ensures ∙ first_4 c.args.s.now c.args.at (λ i. omega (arith, c.type_inv.s i)) (omega arith))

pub returns-then-n-ge2-clause-number : goal.returns-then-n-ge2-clause-number
returns-then-n-ge2-clause-number c =
    let r = c.from_be_bytes in
    rw (to_z-of_z {w = w16} (record { sfits = r.type_inv }), to_z-of_z {w = w64} {z = r.result} (record { sfits = omega (arith, r.type_inv) }))
    (r.ensures ∙ first_2 c.args.s.now c.args.at (λ i. omega (arith, c.type_inv.s i)) (omega arith))

pub returns-else-n-ge2-clause-number : goal.returns-else-n-ge2-clause-number
returns-else-n-ge2-clause-number c =
    to_z-of_z {w = w64} (record { sfits = c.sign_from.type_inv }) ∙ c.sign_from.ensures ∙ sym (none_yet_lem c.args.s.now c.args.at)
