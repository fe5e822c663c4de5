-- How large instants, offsets and sums are. `mag x` is n of n and of -(n + 1). Assumes nothing.
--     instant_small            an instant
--     ahead_small, sum_small   an offset in microseconds, and a sum: for the crates above
use Rattle.std.proofs.Common.{◌≡◌, suc, ◌+◌, ◌^◌, ◌<◌, ◌≤◌, true, ℤ, pos, negsuc, ◌+ℤ◌, nat_abs, arith}
use Rattle.std.proofs.lemmas.Int.{ints}
use lib.Signed.{mag}
use Rattle.format.specs.Values.{offset_in_range}
use Rattle.moments.specs.Instant.{ahead, is_instant}
use Rattle.moments.proofs.Stamps.{ahead_size}

pub sum_small : (a b : ℤ) → mag (a +ℤ b) ≤ suc (mag a + mag b)
sum_small a b = grind (arith, ints)

mag_size : (a : ℤ) → mag a ≤ nat_abs a
mag_size (pos n) = omega arith
mag_size (negsuc n) = omega arith

pub instant_small : (i : ℤ) → is_instant i ≡ true → mag i < 2 ^ 61
unfolding is_instant
instant_small i e = grind (arith, ints)

-- less than a day
pub ahead_small : (o : ℤ) → offset_in_range o ≡ true → mag (ahead o) < 86400000000
ahead_small o e = omega (arith, mag_size (ahead o), ahead_size o e)
