-- The fewest octets of a number follow from the leading zeros of its magnitude: the bits that are left, and one for the sign,
-- in eights. Whether the last bit is set makes no difference. Assumes nothing.
use Rattle.std.proofs.Common.{◌≡◌, ℕ, suc, ◌+◌, ◌-◌, ◌*◌, ◌/◌, ◌%◌, ◌^◌, ◌<◌, ◌≤◌, max, ℤ, ap, ◌∙◌, lt_of_lt_of_le, pow-suc, lt_of_not-le, arith, pow_mono}
use lib.Signed.{mag}
use lib.Bits.{bit_or, or_step, or_zero_r}
use lib.Count.{count_leading_zeros, leading_length}
use Rattle.format.specs.Octets.{fewest_octets}
use Rattle.format.proofs.Ber.{least}

-- the last bit set
pub or_one : (m : ℕ) → bit_or m 1 ≡ m / 2 * 2 + 1
or_one m =
    let one : max (m % 2) 1 ≡ 1 = omega arith in
    or_step m 1 ∙ rw (or_zero_r (m / 2), one)

pub fewest_by_zeros : (x : ℤ) → mag x < 2 ^ 63 → (64 - count_leading_zeros 64 (bit_or (mag x) 1)) / 8 + 1 ≡ fewest_octets x
fewest_by_zeros x h = rw (or_one (mag x)) (go (leading_length 64 (mag x / 2 * 2 + 1) (omega arith)))
  where
    go : (m : ℕ) × (count_leading_zeros 64 (mag x / 2 * 2 + 1) + m ≡ 64) × (mag x / 2 * 2 + 1 < 2 ^ m) × (2 ^ m ≤ 2 * (mag x / 2 * 2 + 1) + 1)
        → (64 - count_leading_zeros 64 (mag x / 2 * 2 + 1)) / 8 + 1 ≡ fewest_octets x
    go (m, e, up, down) =
        let l = least x in
        let n = fewest_octets x in
        let s : (64 - count_leading_zeros 64 (mag x / 2 * 2 + 1)) / 8 + 1 ≡ suc (m / 8) = omega arith in
        let fits : mag x < 2 ^ m = omega arith in
        let enough : n ≤ suc (m / 8) = l.least (suc (m / 8)) (omega arith) (lt_of_lt_of_le fits (pow_mono (omega arith))) in
        let needed : m / 8 < n = lt_of_not-le (λ (g : n ≤ m / 8).
        let big : 2 ^ suc (8 * n - 1) ≤ 2 ^ m = pow_mono (omega (arith, l.some)) in
        let i : 8 * n - 1 ≡ suc (8 * n - 2) = omega (arith, l.some) in
        let even : 2 ^ (8 * n - 1) ≡ 2 ^ suc (8 * n - 2) = ap (λ (j : ℕ). 2 ^ j) i in
        omega (arith, pow-suc 2 (8 * n - 1), pow-suc 2 (8 * n - 2), even, l.holds)) in
        omega arith
