-- The two definitions of `specs/Walk.antt` are inverse. Assumes nothing.
use mathlib.Core.Path.{◌≡◌, refl, ◌∙◌}
use mathlib.Core.Logic.{⊎_elim}
use Prim.Native.Nat.{ℕ, zero, suc, ◌+◌, ◌-◌, ◌<◌, ◌≤◌, zero-le}
use native.Mathlib.Nat.{add-zero, zero-add, not-suc-le-zero}
use native.Mathlib.Omega.{arith}
use borrow.Author.Tests.{lt-ltb, le-ltb}
use Rattle.format.proofs.Cases.{lt_or_le}
use Rattle.format.specs.Walk.{sum_from, Place, place}

-- one step of the walk, by its test
place_here : (len : ℕ → ℕ) (f k n : ℕ) → n < len k → place len f k n ≡ record { index = k; rest = n }
unfolding place
place_here len zero k n h = refl
place_here len (suc f) k n h = rw (lt-ltb n (len k) h, place)

place_on : (len : ℕ → ℕ) (f k n : ℕ) → len k ≤ n → place len (suc f) k n ≡ place len f (suc k) (n - len k)
unfolding place
place_on len f k n h = rw (le-ltb n (len k) h, place)

-- what lies r into the j-th stretch from k is found there, if the walk goes that far
pub place_of : (len : ℕ → ℕ) (f k j r : ℕ) → j ≤ f → r < len (k + j)
    → place len f k (sum_from len k j + r) ≡ record { index = k + j; rest = r }
unfolding sum_from
place_of len f k zero r h lt =
    rw (zero-add r, add-zero k) (place_here len f k r (rw add-zero at lt))
place_of len zero k (suc j) r h lt = absurd (not-suc-le-zero h)
place_of len (suc f) k (suc j) r h lt =
    place_on len f k (len k + sum_from len (suc k) j + r) (omega arith)
    ∙ (let e : len k + sum_from len (suc k) j + r - len k ≡ sum_from len (suc k) j + r = omega arith in
    let s : k + suc j ≡ suc k + j = omega arith in
    rw (e, s) (place_of len f (suc k) j r (omega arith) (rw s at lt)))

-- the walk's answer p for n: it lies j stretches after the k-th; the lengths before it and the rest make up n, and the rest is within the stretch
pub record Found (len : ℕ → ℕ) (f k n : ℕ) (p : Place) : Type 0 where
  pub steps : ℕ
  pub within : steps ≤ f
  pub index : p.index ≡ k + steps
  pub short : p.rest < len (k + steps)
  pub total : sum_from len k steps + p.rest ≡ n

-- at each of the two cases of the first test
found_here : (len : ℕ → ℕ) (f k n : ℕ) → n < len k → Found len f k n (place len f k n)
unfolding sum_from
found_here len f k n t =
    rw (place_here len f k n t)
    (record { steps = 0; within = zero-le; index = omega arith; short = rw (add-zero k) t; total = omega arith })

found_on : (len : ℕ → ℕ) (f k n : ℕ) → len k ≤ n → Found len f (suc k) (n - len k) (place len f (suc k) (n - len k))
    → Found len (suc f) k n (place len (suc f) k n)
unfolding sum_from
found_on len f k n t w =
    let s : suc k + w.steps ≡ k + suc w.steps = omega arith in
    rw (place_on len f k n t)
    (record {
      steps = suc w.steps;
      within = omega (arith, w.within);
      index = w.index ∙ s;
      short = rw s at w.short;
      total = omega (arith, w.total);
    })

pub place_sum : (len : ℕ → ℕ) (f k n : ℕ) → n < sum_from len k (suc f) → Found len f k n (place len f k n)
unfolding sum_from
place_sum len zero k n h = found_here len zero k n (omega arith)
place_sum len (suc f) k n h =
    ⊎_elim (λ t. found_here len (suc f) k n t)
    (λ t. found_on len f k n t (place_sum len f (suc k) (n - len k) (omega arith)))
    (lt_or_le n (len k))

-- the last stretch taken off
pub sum_last : (len : ℕ → ℕ) (k j : ℕ) → sum_from len k (suc j) ≡ sum_from len k j + len (k + j)
unfolding sum_from
sum_last len k zero = simp (add-zero, zero-add)
sum_last len k (suc j) =
    let s : suc k + j ≡ k + suc j = omega arith in
    let e : sum_from len (suc k) (suc j) ≡ sum_from len (suc k) j + len (k + suc j) = rw s at (sum_last len (suc k) j) in
    omega arith

-- the same from the first stretch on
pub place_at : (len : ℕ → ℕ) (f j r : ℕ) → j ≤ f → r < len j → place len f 0 (sum_from len 0 j + r) ≡ record { index = j; rest = r }
place_at len f j r h lt = rw (zero-add j) at (place_of len f 0 j r h (rw zero-add lt))

-- and its sum, from the first stretch on
pub record Placed (len : ℕ → ℕ) (f n : ℕ) : Type 0 where
  pub within : (place len f 0 n).index ≤ f
  pub short : (place len f 0 n).rest < len (place len f 0 n).index
  pub total : sum_from len 0 (place len f 0 n).index + (place len f 0 n).rest ≡ n

pub placed : (len : ℕ → ℕ) (f n : ℕ) → n < sum_from len 0 (suc f) → Placed len f n
placed len f n h =
    let w = place_sum len f 0 n h in
    let e : (place len f 0 n).index ≡ w.steps = w.index ∙ zero-add w.steps in
    record {
      within = rw e w.within;
      short = rw w.index w.short;
      total = rw e w.total;
    }

pub sum_mono : (len : ℕ → ℕ) (i j k : ℕ) → j ≤ k → sum_from len i j ≤ sum_from len i k
unfolding sum_from
sum_mono len i zero k h = zero-le
sum_mono len i (suc j) zero h = absurd (not-suc-le-zero h)
sum_mono len i (suc j) (suc k) h = omega (arith, sum_mono len (suc i) j k (omega arith))
