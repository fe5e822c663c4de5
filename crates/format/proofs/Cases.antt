-- Cases on a test, with what it tells. Assumes nothing.
use mathlib.Core.Path.{◌≡◌, refl}
use mathlib.Core.Logic.{◌⊎◌, inl, inr}
use mathlib.Core.Bool.{Bool, true, false, not, false≢true, true≢false}
use Prim.Native.Nat.{ℕ, ◌<◌, ◌≤◌}
use native.Mathlib.Omega.{arith}
use lib.Dec.{ltb, eqb}
use borrow.Author.Tests.{ltb-true, ltb-false, eqb-true, eqb-false}
use Rattle.format.specs.Words.{both, if_any, Outcome, accepted, refused, unless}

pub cases : (b : Bool) → (b ≡ true) ⊎ (b ≡ false)
cases true = inl refl
cases false = inr refl

pub lt_or_le : (a b : ℕ) → (a < b) ⊎ (b ≤ a)
lt_or_le a b = go (ltb a b) refl
  where
    go : (t : Bool) → ltb a b ≡ t → (a < b) ⊎ (b ≤ a)
    go true e = inl (ltb-true a b e)
    go false e = inr (ltb-false a b e)

pub eq_or_ne : (a b : ℕ) → (a ≡ b) ⊎ (a ≡ b → ⊥)
eq_or_ne a b = go (eqb a b) refl
  where
    go : (t : Bool) → eqb a b ≡ t → (a ≡ b) ⊎ (a ≡ b → ⊥)
    go true e = inl (eqb-true a b e)
    go false e = inr (eqb-false a b e)

pub not_true : (b : Bool) → not b ≡ true → b ≡ false
not_true true e = absurd (false≢true e)
not_true false e = refl

pub not_false : (b : Bool) → not b ≡ false → b ≡ true
not_false true e = refl
not_false false e = absurd (true≢false e)

pub both_true : (a b : Bool) → both a b ≡ true → (a ≡ true) × (b ≡ true)
both_true true b e = (refl, e)
both_true false b e = absurd (false≢true e)

-- a test that fails makes the whole conjunction fail, whatever stands before it
pub both_false : (a : Bool) → both a false ≡ false
both_false true = refl
both_false false = refl

-- an accepted outcome passed its first test
pub passed : {A : Type 0} (b : Bool) (n : ℕ) (o : Outcome A) (a : A) → unless b n o ≡ accepted a → (b ≡ true) × (o ≡ accepted a)
passed true n o a e = (refl, e)
passed false n o a e = let z : ◌≡◌ {A = ℕ} 0 1 = cc in absurd (omega arith)

-- one that was refused at its only test failed it
pub failed : {A : Type 0} (b : Bool) (n m : ℕ) (a : A) → unless b n (accepted a) ≡ refused m → b ≡ false
failed true n m a e = let z : ◌≡◌ {A = ℕ} 0 1 = cc in absurd (omega arith)
failed false n m a e = refl

pub same : {A : Type 0} {x y : A} → accepted x ≡ accepted y → x ≡ y
same p = cc

-- a test cannot both hold and fail
pub never : {A : Type 0} → ◌≡◌ {A = Bool} false true → A
never e = absurd (let z : ◌≡◌ {A = ℕ} 0 1 = cc in omega arith)

-- digits that a kind has are at most 6
pub at_most : (b : Bool) (d : ℕ) → d ≤ if_any b 6 → d ≤ 6
at_most true d h = h
at_most false d h = omega arith
