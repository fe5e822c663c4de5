-- Laws of the years. Assumes nothing.
use mathlib.Core.Path.{◌≡◌, refl, ◌∙◌}
use mathlib.Core.Logic.{⊎_elim}
use mathlib.Core.Bool.{true, false}
use Prim.Native.Nat.{ℕ, zero, suc, ◌+◌, ◌-◌, ◌*◌, ◌/◌, ◌%◌, ◌<◌, ◌≤◌}
use native.Mathlib.Nat.{zero-add}
use native.Mathlib.Numerals.{add-one}
use native.Mathlib.Omega.{arith}
use borrow.Author.Tests.{eq-eqb, ne_eqb}
use lib.Dec.{eqb}
use Rattle.format.specs.Walk.{sum_from}
use Rattle.format.specs.Calendar.{leap, year_length, year_start}
use Rattle.format.proofs.Cases.{eq_or_ne}
use Rattle.format.proofs.Walk.{sum_last}

-- the leap rule, test by test
pub leap_400 : (y : ℕ) → y % 400 ≡ 0 → leap y ≡ true
unfolding leap
leap_400 y a = rw (eq-eqb _ _ a)

pub leap_100 : (y : ℕ) → (y % 400 ≡ 0 → ⊥) → y % 100 ≡ 0 → leap y ≡ false
unfolding leap
leap_100 y a b = rw (ne_eqb _ _ a, eq-eqb _ _ b)

pub leap_4 : (y : ℕ) → (y % 400 ≡ 0 → ⊥) → (y % 100 ≡ 0 → ⊥) → leap y ≡ eqb (y % 4) 0
unfolding leap
leap_4 y a b = rw (ne_eqb _ _ a, ne_eqb _ _ b)

-- the same with the centuries first: of them every fourth, of the other years every fourth
pub leap_century : (y : ℕ) → y % 100 ≡ 0 → leap y ≡ eqb (y % 400) 0
leap_century y e =
    ⊎_elim (λ a. rw (leap_400 y a, eq-eqb _ _ a)) (λ a. rw (leap_100 y a e, ne_eqb _ _ a)) (eq_or_ne (y % 400) 0)

pub leap_other : (y : ℕ) → (y % 100 ≡ 0 → ⊥) → leap y ≡ eqb (y % 4) 0
leap_other y n = leap_4 y (λ a. n (omega arith)) n

-- a quotient grows by one exactly where the remainder falls back to 0
module _ (k : ℕ) where
  up-4 : (k + 1) % 4 ≡ 0 → (k + 1) / 4 ≡ k / 4 + 1
  up-4 e = omega arith

  up-100 : (k + 1) % 100 ≡ 0 → (k + 1) / 100 ≡ k / 100 + 1
  up-100 e = omega arith

  up-400 : (k + 1) % 400 ≡ 0 → (k + 1) / 400 ≡ k / 400 + 1
  up-400 e = omega arith

  same-4 : ((k + 1) % 4 ≡ 0 → ⊥) → (k + 1) / 4 ≡ k / 4
  same-4 e = omega arith

  same-100 : ((k + 1) % 100 ≡ 0 → ⊥) → (k + 1) / 100 ≡ k / 100
  same-100 e = omega arith

  same-400 : ((k + 1) % 400 ≡ 0 → ⊥) → (k + 1) / 400 ≡ k / 400
  same-400 e = omega arith

by_100 : (y : ℕ) → y % 400 ≡ 0 → y % 100 ≡ 0
by_100 y e = omega arith

by_4 : (y : ℕ) → y % 100 ≡ 0 → y % 4 ≡ 0
by_4 y e = omega arith

-- how the closed form grows with a year
year_step : (k : ℕ) → year_length k + k / 4 + k / 400 + (k + 1) / 100 ≡ 365 + (k + 1) / 4 + (k + 1) / 400 + k / 100
unfolding year_length
year_step k =
    ⊎_elim (λ a. rw (leap_400 (k + 1) a, up-400 k a, up-100 k (by_100 _ a), up-4 k (by_4 _ (by_100 _ a))) (omega arith))
    (λ a. ⊎_elim (λ b. rw (leap_100 (k + 1) a b, same-400 k a, up-100 k b, up-4 k (by_4 _ b)) (omega arith))
    (λ b. ⊎_elim (λ d. rw (leap_4 (k + 1) a b ∙ eq-eqb _ _ d, same-400 k a, same-100 k b, up-4 k d) (omega arith))
    (λ d. rw (leap_4 (k + 1) a b ∙ ne_eqb _ _ d, same-400 k a, same-100 k b, same-4 k d) (omega arith))
    (eq_or_ne ((k + 1) % 4) 0))
    (eq_or_ne ((k + 1) % 100) 0))
    (eq_or_ne ((k + 1) % 400) 0)

sums : (s y k a b c a' b' c' : ℕ) → s + c ≡ 365 * k + a + b → y + a + b + c' ≡ 365 + a' + b' + c → s + y + c' ≡ 365 * (k + 1) + a' + b'
sums s y k a b c a' b' c' h t = omega arith

-- the days before year k + 1, in closed form
pub years : (k : ℕ) → sum_from year_length 0 k + k / 100 ≡ 365 * k + k / 4 + k / 400
unfolding sum_from
years zero = refl
years (suc k) =
    rw (sum_last, zero-add, ← add-one k)
    (sums (sum_from year_length 0 k) (year_length k) k _ _ _ _ _ _ (years k) (year_step k))

-- the same by the cycle of 400 years and the year in it
pub years_cycle : (q j : ℕ) → sum_from year_length 0 (q * 400 + j) + j / 100 ≡ q * 146097 + 365 * j + j / 4 + j / 400
years_cycle q j =
    let a : (q * 400 + j) / 4 ≡ 100 * q + j / 4 = omega arith in
    let b : (q * 400 + j) / 100 ≡ 4 * q + j / 100 = omega arith in
    let d : (q * 400 + j) / 400 ≡ q + j / 400 = omega arith in
    cycled (sum_from year_length 0 (q * 400 + j)) q j (j / 4) (j / 100) (j / 400) (rw (a, b, d) at (years (q * 400 + j)))
  where
    cycled : (s q j a b d : ℕ) → s + (4 * q + b) ≡ 365 * (q * 400 + j) + (100 * q + a) + (q + d) → s + b ≡ q * 146097 + 365 * j + a + d
    cycled s q j a b d e = omega arith

-- the same by 01's formula: the cycles before, and the start of the year in its cycle
pub years_entry : (q j : ℕ) → j < 400 → sum_from year_length 0 (q * 400 + j) ≡ q * 146097 + year_start j
unfolding year_start
years_entry q j h =
    let z : j / 400 ≡ 0 = omega arith in
    let l : j / 100 ≤ j = omega arith in
    split (sum_from year_length 0 (q * 400 + j)) q j (j / 4) (j / 100) (rw z at (years_cycle q j)) l
  where
    split : (s q i a b : ℕ) → s + b ≡ q * 146097 + 365 * i + a + 0 → b ≤ i → s ≡ q * 146097 + (365 * i + a - b)
    split s q i a b h l = omega arith

pub days : sum_from year_length 0 9999 ≡ 3652059
days = omega (arith, years 9999)
