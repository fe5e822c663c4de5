-- The fewest octets of a number, and the round trips at that length or more. Assumes nothing.
use Prim.Native.Nat.{ℕ, zero, suc, ◌+◌, ◌^◌, ◌<◌, ◌≤◌}
use native.Mathlib.Nat.{le_refl, lt_of_lt_of_le, add-zero, pow-suc, not-le_of_lt, lt_of_not-le}
use native.Mathlib.Omega.{arith}
use mathlib.Core.Path.{◌≡◌, refl}
use mathlib.Core.Bool.{Bool, true, false, cond}
use mathlib.Core.List.{List, [], ◌∷◌}
use lib.IntN.{ℤ}
use lib.Signed.{mag}
use lib.Dec.{ltb}
use lib.Pow.{pow_mono}
use lib.ListN.{length}
use borrow.Author.Tests.{ltb-true, ltb-false}
use Rattle.format.specs.Octets.{half, first_from, fewest_octets, signed_octets, signed_of, Octets}
use Rattle.format.proofs.Signed.{signed_fits, signed_octets_lem}

pub half_mono : (m n : ℕ) → m ≤ n → half m ≤ half n
half_mono m n h = pow_mono (omega arith)

-- ---- `fewest_octets` is the least

lt_pow : (m : ℕ) → m < 2 ^ m
lt_pow zero = omega arith
lt_pow (suc m) = omega (arith, pow-suc 2 m, lt_pow m)

first : (f n : ℕ) (x : ℤ) → mag x < half (n + f)
    → (n ≤ first_from f n x) × (mag x < half (first_from f n x)) × ((k : ℕ) → n ≤ k → mag x < half k → first_from f n x ≤ k)
unfolding first_from
first zero n x h = (le_refl n, (rw (add-zero n) at h), λ k p q. p)
first (suc f) n x h = go (ltb (mag x) (half n)) refl (first f (suc n) x (let e : suc n + f ≡ n + suc f = omega arith in rw e h))
  where
    go : (t : Bool) → ltb (mag x) (half n) ≡ t
        → (suc n ≤ first_from f (suc n) x) × (mag x < half (first_from f (suc n) x)) × ((k : ℕ) → suc n ≤ k → mag x < half k → first_from f (suc n) x ≤ k)
        → (n ≤ cond t n (first_from f (suc n) x)) × (mag x < half (cond t n (first_from f (suc n) x))) × ((k : ℕ) → n ≤ k → mag x < half k → cond t n (first_from f (suc n) x) ≤ k)
    go true e r = (le_refl n, ltb-true (mag x) (half n) e, λ k p q. p)
    go false e r =
        (omega arith, r.1, λ k p q. r.2 k (lt_of_not-le (λ (s : k ≤ n). not-le_of_lt q (let g = half_mono k n s in omega (arith, ltb-false (mag x) (half n) e)))) q)

-- `fewest_octets` holds the number, and is the least from one on that does
pub record Least (x : ℤ) : Type 0 where
  pub some : 1 ≤ fewest_octets x
  pub holds : mag x < half (fewest_octets x)
  pub least : (k : ℕ) → 1 ≤ k → mag x < half k → fewest_octets x ≤ k

pub least : (x : ℤ) → Least x
unfolding fewest_octets
least x =
    let r = first (mag x) 1 x (lt_of_lt_of_le (lt_pow (mag x)) (pow_mono (omega arith))) in
    record { some = r.0; holds = r.1; least = r.2 }

-- any length from there on holds it too, and reads back
pub reads_back : (n : ℕ) (x : ℤ) → 1 ≤ n → fewest_octets x ≤ n → signed_of (signed_octets n x) ≡ x
reads_back zero x p h = absurd (omega arith)
reads_back (suc n) x p h = signed_octets_lem n x (lt_of_lt_of_le (least x).holds (half_mono (fewest_octets x) (suc n) h))

-- octets hold their number
pub fewest_octets_lem : (xs : List ℕ) → Octets xs → 1 ≤ length xs → fewest_octets (signed_of xs) ≤ length xs
fewest_octets_lem [] o p = absurd (omega arith)
fewest_octets_lem (b ∷ bs) o p = (least (signed_of (b ∷ bs))).least (suc (length bs)) (omega arith) (signed_fits b bs o)
