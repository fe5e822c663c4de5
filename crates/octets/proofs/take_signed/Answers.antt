-- `octets::take_signed` meets its contract: before the first octet is its sign. Assumes nothing.
use Rattle.std.proofs.Common.{sym, ◌∙◌, to_z-of_z, w64}
use Rattle.octets.proofs.Taking.{none_yet_lem}
use Rattle.octets.proofs.take_signed.Goals as goal

pub with_rest-requires-clause-number : goal.with_rest-requires-clause-number
with_rest-requires-clause-number c =
    to_z-of_z {w = w64} (record { sfits = c.sign_from.type_inv }) ∙ c.sign_from.ensures ∙ sym (none_yet_lem c.args.s.now c.args.at)
