-- `octets::put_low` meets its contract: the first of eight octets, least significant first. Assumes nothing.
use Rattle.std.proofs.Common.{◌≡◌, ◌+◌, ◌-◌, arith, ◌∙◌}
use Rattle.octets.specs.Words.{low_octets}
use Rattle.octets.proofs.LowFirst.{length_low, take_low}
use Rattle.octets.proofs.Storing.{eight_low, stored}
use Rattle.octets.proofs.low.put_low.Goals as goal

pub returns : goal.returns
returns g c =
    let n = g.row.N in
    let w = c.args.w in
    let k : n + (8 - n) ≡ 8 = omega (arith, c.requires.1) in
    let taken : c.copy_from_slice.new.self ≡ low_octets n w = c.copy_from_slice.ensures.after ∙ rw (c.to_le_bytes.ensures, eight_low w) (rw k at (take_low n (8 - n) w)) in
    rw taken (stored c.args.buf.now (low_octets n w) c.args.at n (length_low n w) c.requires.0)
