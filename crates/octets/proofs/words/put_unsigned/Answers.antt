-- `octets::put_unsigned` meets its contract: the last of eight octets, most significant first. Assumes nothing.
use Rattle.std.proofs.Common.{◌≡◌, ◌+◌, ◌-◌, arith, ◌∙◌}
use Rattle.std.proofs.lemmas.List.{take_all}
use Rattle.format.specs.Octets.{unsigned_octets}
use Rattle.format.proofs.Unsigned.{unsigned_length}
use Rattle.octets.proofs.Storing.{last_octets, stored}
use Rattle.octets.proofs.words.put_unsigned.Goals as goal

pub returns : goal.returns
returns g c =
    let n = g.row.N in
    let x = c.args.x in
    let k : 8 - n + n ≡ 8 = omega (arith, c.requires.1) in
    let m : 8 - (8 - n) ≡ n = omega (arith, c.requires.1) in
    let l = unsigned_length n x in
    let last = rw k at (last_octets (8 - n) n x) in
    let taken : c.copy_from_slice.new.self ≡ unsigned_octets n x = c.copy_from_slice.ensures.after ∙ rw (c.all_octets.ensures, m, last) (take_all n (unsigned_octets n x) (omega (arith, l))) in
    rw taken (stored c.args.buf.now (unsigned_octets n x) c.args.at n l c.requires.0)
