-- Laws of floor division, and of a number with one more octet. Assumes nothing.
use Prim.Native.Nat.{ℕ, zero, suc, ◌+◌, ◌-◌, ◌*◌, ◌/◌, ◌%◌, ◌<◌}
use native.Mathlib.Nat.{div-div-eq-div-mul, div-add-mod', mod-lt, suc-mul}
use native.Mathlib.Omega.{arith}
use mathlib.Core.Path.{◌≡◌, refl, ◌∙◌, ap}
use lib.IntN.{ℤ, pos, negsuc, ◌+ℤ◌, ◌*ℤ◌}
use lib.Signed.{mag}
use borrow.Author.Tests.{lt-ltb}
use Rattle.format.specs.Floor.{div_f, mod_f}
use Rattle.format.specs.Octets.{push}

pub div_div : (x : ℤ) (a b : ℕ) → div_f (div_f x a) b ≡ div_f x (a * b)
div_div (pos m) a b = ap pos (div-div-eq-div-mul m a b)
div_div (negsuc m) a b = ap negsuc (div-div-eq-div-mul m a b)

pub div_1 : (x : ℤ) → div_f x 1 ≡ x
div_1 (pos m) = ap pos (omega arith)
div_1 (negsuc m) = ap negsuc (omega arith)

pub mag_div : (x : ℤ) (d : ℕ) → mag (div_f x d) ≡ mag x / d
mag_div (pos m) d = refl
mag_div (negsuc m) d = refl

pub push_neg : (a b : ℕ) → b < 256 → push (negsuc a) b ≡ negsuc (a * 256 + (255 - b))
push_neg a b h =
    let e : suc a * 256 ≡ suc (a * 256 + 255) = omega arith in
    rw (e, lt-ltb b (suc (a * 256 + 255)) (omega arith)) (ap negsuc (omega arith))

pub push_div_mod : (x : ℤ) → push (div_f x 256) (mod_f x 256) ≡ x
push_div_mod (pos m) = ap pos (omega arith)
push_div_mod (negsuc m) = push_neg (m / 256) (256 - suc (m % 256)) (omega arith) ∙ ap negsuc (omega arith)

pub div_push : (z : ℤ) (b : ℕ) → b < 256 → div_f (push z b) 256 ≡ z
div_push (pos a) b h = ap pos (omega arith)
div_push (negsuc a) b h = rw (push_neg a b h) (ap negsuc (omega arith))

pub mod_push : (z : ℤ) (b : ℕ) → b < 256 → mod_f (push z b) 256 ≡ b
mod_push (pos a) b h = omega arith
mod_push (negsuc a) b h = rw (push_neg a b h) (omega arith)

pub mod_lt_256 : (x : ℤ) → mod_f x 256 < 256
mod_lt_256 (pos a) = omega arith
mod_lt_256 (negsuc a) = omega arith

-- ---- the floor and the remainder make the number, at any divisor: what `div_f` and `mod_f` mean

pub mod_lt_d : (x : ℤ) (d : ℕ) → 0 < d → mod_f x d < d
mod_lt_d (pos a) d h = mod-lt a h
mod_lt_d (negsuc a) d h = omega (arith, mod-lt a h)

pub div_mod : (x : ℤ) (d : ℕ) → 0 < d → div_f x d *ℤ pos d +ℤ pos (mod_f x d) ≡ x
div_mod (pos a) d h = ap pos (div-add-mod' a d)
div_mod (negsuc a) zero h = absurd (omega arith)
div_mod (negsuc a) (suc d) h =
    let m = mod-lt a h in
    let s = div-add-mod' a (suc d) in
    let e : suc (a / suc d) * suc d ≡ suc (a / suc d * suc d + d) = omega (arith, suc-mul (a / suc d) (suc d)) in
    rw (e, lt-ltb (suc d - suc (a % suc d)) (suc (a / suc d * suc d + d)) (omega arith)) (ap negsuc (omega arith))
