-- The header's twelve bits and the offset: inside a function an `i32` x is its bits, `of_z w32 x`, and a number of bits is `to_z w32`.
-- By the sign. Assumes nothing.
use Prim.Native.Nat.{ℕ, suc, ◌+◌, ◌-◌, ◌%◌, ◌<◌, ◌≤◌}
use native.Mathlib.Omega.{arith}
use mathlib.Core.Path.{◌≡◌, refl, ◌∙◌}
use mathlib.Core.Logic.{⊎_elim}
use mathlib.Core.Bool.{Bool, true, false}
use lib.IntN.{ℤ, pos, negsuc, sub_ℕ, ◌-ℤ◌}
use lib.Bits.{bit_and, and_mask}
use mir.Syntax.{w32}
use mir.Val.{SFits, to_z, of_z}
use mir.Facts.{to_z-of_z, to_z_pos}
use borrow.Author.Tests.{lt-ltb, le-ltb}
use Rattle.format.specs.Floor.{mod_f}
use Rattle.format.specs.Words.{if_any}
use Rattle.format.specs.Values.{Kind, zoned}
use Rattle.format.specs.Extended.{offset_from}
use Rattle.format.proofs.Cases.{lt_or_le}
use Rattle.format.proofs.Floor.{mod_lt_d}

-- ---- from an offset to its bits

mod_bits : (z : ℤ) → SFits w32 z → of_z w32 z % 4096 ≡ mod_f z 4096
mod_bits (pos a) f = refl
mod_bits (negsuc a) f = omega (arith, f.sfits)

pub bits_lt : (z : ℤ) → mod_f z 4096 < 4096
bits_lt z = mod_lt_d z 4096 (omega arith)

-- where the kind has any
pub any_bits_lt : (k : Kind) (z : ℤ) → if_any (zoned k) (mod_f z 4096) < 4096
any_bits_lt k z = go (zoned k)
  where
    go : (b : Bool) → if_any b (mod_f z 4096) < 4096
    go true = bits_lt z
    go false = omega arith

pub low_twelve : (z : ℤ) → SFits w32 z → to_z w32 (bit_and (of_z w32 z) 4095) ≡ pos (mod_f z 4096)
low_twelve z f = rw (and_mask (of_z w32 z) 12, mod_bits z f) (to_z_pos w32 {n = mod_f z 4096} (omega (arith, bits_lt z)))

-- ---- and back: with half their range added and taken off again, twelve bits are signed

module _ (b : ℕ) where
  as_number : to_z w32 ((b + 2048) % 4096) ≡ pos ((b + 2048) % 4096)
  as_number = to_z_pos w32 {n = (b + 2048) % 4096} (omega arith)

  pub less_half_fits : SFits w32 (to_z w32 ((b + 2048) % 4096) -ℤ pos 2048)
  less_half_fits = rw as_number (small ((b + 2048) % 4096) (omega arith))
    where
      small : (m : ℕ) → m < 4096 → SFits w32 (pos m -ℤ pos 2048)
      small m h =
          ⊎_elim (λ l. rw (lt-ltb m 2048 l) (record { sfits = omega arith })) (λ l. rw (le-ltb m 2048 l) (record { sfits = omega arith })) (lt_or_le m 2048)

  upper : b < 2048 → pos ((b + 2048) % 4096) -ℤ pos 2048 ≡ pos b
  upper l =
      let e : (b + 2048) % 4096 ≡ b + 2048 = omega arith in
      let g : 2048 ≤ b + 2048 = omega arith in
      let d : b + 2048 - 2048 ≡ b = omega arith in
      rw (e, le-ltb (b + 2048) 2048 g, d)

  lower : b < 4096 → 2048 ≤ b → pos ((b + 2048) % 4096) -ℤ pos 2048 ≡ sub_ℕ b 4096
  lower h l =
      let e : (b + 2048) % 4096 ≡ b - 2048 = omega arith in
      let g : b - 2048 < 2048 = omega arith in
      let d : 2048 - suc (b - 2048) ≡ 4096 - suc b = omega arith in
      rw (e, lt-ltb (b - 2048) 2048 g, lt-ltb b 4096 h, d)

  less-half : b < 4096 → pos ((b + 2048) % 4096) -ℤ pos 2048 ≡ offset_from b
  unfolding offset_from
  less-half h =
      ⊎_elim (λ l. rw (lt-ltb b 2048 l) (upper l)) (λ l. rw (le-ltb b 2048 l) (lower h l)) (lt_or_le b 2048)

  pub offset_again : b < 4096 → to_z w32 (of_z w32 (to_z w32 ((b + 2048) % 4096) -ℤ pos 2048)) ≡ offset_from b
  offset_again h = to_z-of_z less_half_fits ∙ rw as_number (less-half h)
