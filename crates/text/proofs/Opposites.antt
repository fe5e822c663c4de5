-- Numbers of minutes, with a sign: what fits 31 bits, in 32 bits. Assumes nothing.
use Rattle.std.proofs.Common.{◌≡◌, ℕ, zero, suc, ◌<◌, pos, negsuc, ◌-ℤ◌, neg_ℤ, ◌∙◌, arith, to_z-of_z, w32, SFits, to_z, of_z}
use lib.IntN.{+ℤ_idl}
use mir.Facts.{to_z_pos}

pub whole : (a : ℕ) → a < 2147483648 → to_z w32 a ≡ pos a
whole a h = to_z_pos w32 {n = a} h

pub opposite_fits : (a : ℕ) → a < 2147483648 → SFits w32 (pos 0 -ℤ to_z w32 a)
opposite_fits zero h = rw (whole 0 h) (record { sfits = omega arith })
opposite_fits (suc a) h = rw (whole (suc a) h, +ℤ_idl (negsuc a)) (record { sfits = omega arith })

pub opposite : (a : ℕ) → a < 2147483648 → to_z w32 (of_z w32 (pos 0 -ℤ to_z w32 a)) ≡ neg_ℤ (pos a)
opposite a h = to_z-of_z (opposite_fits a h) ∙ rw (whole a h) (+ℤ_idl (neg_ℤ (pos a)))
