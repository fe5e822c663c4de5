-- Tests on variables, and what they tell. Assumes nothing.
use mathlib.Core.Path.{◌≡◌, refl, sym}
use mathlib.Core.Bool.{Bool, true, false}
use Prim.Native.Nat.{ℕ}
use native.Mathlib.Omega.{arith}
use lib.Dec.{eqb}
use lib.IntN.{ℤ, pos, negsuc}
use lib.Signed.{le_z}
use borrow.Author.Tests.{eqb-true, eq-eqb, le-leb, leb-true}
use Rattle.format.specs.Words.{either, needs}
use Rattle.format.proofs.Cases.{never}

-- a test that is asked for only where two numbers are equal
pub needs_is : (a b : ℕ) (t : Bool) → (a ≡ b → t ≡ true) → needs (eqb a b) t ≡ true
needs_is a b t h = go (eqb a b) refl
  where
    go : (u : Bool) → eqb a b ≡ u → needs u t ≡ true
    go true e = h (eqb-true a b e)
    go false e = refl

pub needs_told : (a b : ℕ) (t : Bool) → needs (eqb a b) t ≡ true → a ≡ b → t ≡ true
needs_told a b t h e = rw (eq-eqb a b e) at h

pub either_told : (a b : Bool) → either a b ≡ true → a ≡ false → b ≡ true
either_told true b h e = never (sym e)
either_told false b h e = h

-- ---- order of signed numbers

pub le_z_refl : (a : ℤ) → le_z a a ≡ true
le_z_refl (pos a) = le-leb a a (omega arith)
le_z_refl (negsuc a) = le-leb a a (omega arith)

pub le_z_trans : (a b c : ℤ) → le_z a b ≡ true → le_z b c ≡ true → le_z a c ≡ true
le_z_trans (pos a) (pos b) (pos c) p q = le-leb a c (omega (arith, leb-true a b p, leb-true b c q))
le_z_trans (pos a) (pos b) (negsuc c) p q = q
le_z_trans (pos a) (negsuc b) c p q = never p
le_z_trans (negsuc a) (pos b) (pos c) p q = refl
le_z_trans (negsuc a) (pos b) (negsuc c) p q = never q
le_z_trans (negsuc a) (negsuc b) (pos c) p q = refl
le_z_trans (negsuc a) (negsuc b) (negsuc c) p q = le-leb c a (omega (arith, leb-true b a p, leb-true c b q))
