-- The order of integers, and the size of a difference. Assumes nothing.
--     le_not                 at most is not above
--     plus_order             adding the same number keeps the order
--     less_small             the difference of two instants is at most the whole width of the limits
use mathlib.Core.Path.{◌≡◌, refl, sym, ◌∙◌, ap}
use mathlib.Core.Bool.{Bool, true, false, not, cond}
use Prim.Native.Nat.{ℕ, zero, suc, ◌-◌, ◌≤◌}
use native.Mathlib.Omega.{arith}
use lib.IntN.{ℤ, pos, negsuc, nat_abs, suc_ℤ, ◌+ℤ◌, ◌-ℤ◌, +ℤ-suc_ℤ, +ℤ_idr, -ℤ-+ℤ_cancel}
use lib.Dec.{ltb, leb}
use lib.Signed.{lt_z, le_z}
use borrow.Author.Tests.{le-leb, lt-leb, leb-true, lt-ltb, le-ltb, ltb-true, ltb-false}
use Rattle.format.proofs.Cases.{both_true}
use Rattle.moments.specs.Instant.{is_instant}

leb_not : (a b : ℕ) → leb a b ≡ not (ltb b a)
leb_not a b = go (ltb b a) refl
  where
    go : (t : Bool) → ltb b a ≡ t → leb a b ≡ not (ltb b a)
    go true e = rw e (lt-leb a b (ltb-true b a e))
    go false e = rw e (le-leb a b (ltb-false b a e))

pub le_not : (a b : ℤ) → le_z a b ≡ not (lt_z b a)
le_not (pos a) (pos b) = leb_not a b
le_not (pos a) (negsuc b) = refl
le_not (negsuc a) (pos b) = refl
le_not (negsuc a) (negsuc b) = leb_not b a

suc_less : (a b : ℕ) → ltb (suc a) (suc b) ≡ ltb a b
suc_less a b = go (ltb a b) refl
  where
    go : (t : Bool) → ltb a b ≡ t → ltb (suc a) (suc b) ≡ ltb a b
    go true e = rw e (let h = ltb-true a b e in lt-ltb (suc a) (suc b) (omega arith))
    go false e = rw e (let h = ltb-false a b e in le-ltb (suc a) (suc b) (omega arith))

suc_order : (a b : ℤ) → lt_z (suc_ℤ a) (suc_ℤ b) ≡ lt_z a b
suc_order (pos a) (pos b) = suc_less a b
suc_order (pos a) (negsuc zero) = le-ltb (suc a) 0 (omega arith)
suc_order (pos a) (negsuc (suc b)) = refl
suc_order (negsuc zero) (pos b) = lt-ltb 0 (suc b) (omega arith)
suc_order (negsuc (suc a)) (pos b) = refl
suc_order (negsuc zero) (negsuc zero) = refl
suc_order (negsuc zero) (negsuc (suc b)) = sym (le-ltb (suc b) 0 (omega arith))
suc_order (negsuc (suc a)) (negsuc zero) = sym (lt-ltb 0 (suc a) (omega arith))
suc_order (negsuc (suc a)) (negsuc (suc b)) = sym (suc_less b a)

up_order : (a b : ℤ) (n : ℕ) → lt_z (a +ℤ pos n) (b +ℤ pos n) ≡ lt_z a b
up_order a b zero = rw (+ℤ_idr a, +ℤ_idr b) refl
up_order a b (suc n) =
    let x : a +ℤ pos (suc n) ≡ suc_ℤ (a +ℤ pos n) = +ℤ-suc_ℤ a (pos n) in
    let y : b +ℤ pos (suc n) ≡ suc_ℤ (b +ℤ pos n) = +ℤ-suc_ℤ b (pos n) in
    ap (λ z. lt_z z (b +ℤ pos (suc n))) x ∙ ap (lt_z (suc_ℤ (a +ℤ pos n))) y ∙ suc_order (a +ℤ pos n) (b +ℤ pos n) ∙ up_order a b n

pub plus_order : (a b c : ℤ) → lt_z (a +ℤ c) (b +ℤ c) ≡ lt_z a b
plus_order a b (pos n) = up_order a b n
plus_order a b (negsuc n) =
    let x : a +ℤ negsuc n +ℤ pos (suc n) ≡ a = -ℤ-+ℤ_cancel a (pos (suc n)) in
    let y : b +ℤ negsuc n +ℤ pos (suc n) ≡ b = -ℤ-+ℤ_cancel b (pos (suc n)) in
    sym (up_order (a +ℤ negsuc n) (b +ℤ negsuc n) (suc n)) ∙ ap (λ z. lt_z z (b +ℤ negsuc n +ℤ pos (suc n))) x ∙ ap (lt_z a) y

-- ---- the size of a difference

sub_small : (a b g : ℕ) (t : Bool) → a ≤ g → suc b ≤ g → nat_abs (cond t (negsuc (suc b - suc a)) (pos (a - suc b))) ≤ g
sub_small a b g true h k = omega arith
sub_small a b g false h k = omega arith

pub high : (a : ℕ) → is_instant (pos a) ≡ true → a ≤ 315537983940000000
unfolding is_instant
high a e = leb-true a 315537983940000000 e

pub low : (a : ℕ) → is_instant (negsuc a) ≡ true → a ≤ 86339999999
unfolding is_instant
low a e = leb-true a 86339999999 (both_true (leb a 86339999999) true e).0

pub less_small : (a b : ℤ) → is_instant a ≡ true → is_instant b ≡ true → nat_abs (a -ℤ b) ≤ 315538070280000000
less_small (pos a) (pos zero) e f = let x = high a e in omega arith
less_small (pos a) (pos (suc b)) e f =
    let x = high a e in let y = high (suc b) f in sub_small a b 315538070280000000 (ltb a (suc b)) (omega arith) (omega arith)
less_small (pos a) (negsuc b) e f = let x = high a e in let y = low b f in omega arith
less_small (negsuc a) (pos zero) e f =
    let x = low a e in sub_small 0 a 315538070280000000 (ltb 0 (suc a)) (omega arith) (omega arith)
less_small (negsuc a) (pos (suc b)) e f = let x = low a e in let y = high (suc b) f in omega arith
less_small (negsuc a) (negsuc b) e f =
    let x = low a e in let y = low b f in sub_small (suc b) a 315538070280000000 (ltb (suc b) (suc a)) (omega arith) (omega arith)
