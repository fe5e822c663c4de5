-- Inside a function an `i64` x is its bits, `of_z w64 x`, and what it returns is the integer of bits, `to_z w64`. Laws that say
-- what casts and shifts of such bits do to the integer. Assumes nothing.
use Rattle.std.proofs.Common.{◌≡◌, ℕ, zero, suc, ◌+◌, ◌*◌, ◌^◌, ◌<◌, T, ℤ, pos, negsuc, nat_abs, refl, pow-suc, arith, pow-add, w64, Fits, SFits}
use lib.Signed.{non_neg, shr_z, mag_shr}
use mir.Syntax.{Width}
use mir.Val.{bits}
use mir.ValLaws.{sfits_le}
use Rattle.format.specs.Floor.{div_f}

-- what `as u64` and `as u8` ask, of an integer that is not below zero
pub unsigned : (w : Width) (z : ℤ) (m : ℕ) → z ≡ pos m → m < 2 ^ bits w → T (non_neg z) × Fits w (nat_abs z)
unsigned w z m e h = rw e (tt, record { fits = h })

pub eights : (k : ℕ) → 2 ^ (8 * k) ≡ 256 ^ k
eights zero = refl
eights (suc k) =
    let e : 8 * suc k ≡ 8 * k + 8 = omega arith in
    rw (e, pow-add 2 (8 * k) 8, eights k, pow-suc 256 k)

-- a shift to the right goes down, at any width of it
pub shift_floor : (z : ℤ) (m : ℕ) → shr_z z m ≡ div_f z m
shift_floor (pos a) m = refl
shift_floor (negsuc a) m = refl

pub shift_fits : (z : ℤ) (m : ℕ) → SFits w64 z → SFits w64 (shr_z z m)
shift_fits z m f = sfits_le {y = shr_z z m} {z = z} (mag_shr z m) f
