-- `octets::without_octets` meets its contract: a shift by eights is a division by a power of 256. Assumes nothing.
use Rattle.std.proofs.Common.{◌≡◌, ◌*◌, ◌^◌, to_z-of_z}
use Rattle.octets.proofs.Integers.{eights, shift_floor, shift_fits}
use Rattle.octets.proofs.without_octets.Goals as goal

pub returns : goal.returns
returns c =
    let f = c.ranges.x in
    let k = c.args.k in
    let e : 2 ^ (8 * k) ≡ 256 ^ k = eights k in
    rw (to_z-of_z f, to_z-of_z (shift_fits c.args.x (2 ^ (8 * k)) f), e) (shift_floor c.args.x (256 ^ k))
