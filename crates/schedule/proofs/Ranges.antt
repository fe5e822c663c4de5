-- Signed numbers as the code compares them: the range of a correction, and the order of two instants. Assumes nothing.
use mathlib.Core.Path.{◌≡◌, refl, sym, ap, ◌∙◌}
use mathlib.Core.Bool.{true, false, not}
use Prim.Native.Nat.{suc}
use native.Mathlib.Omega.{arith}
use lib.IntN.{ℤ, pos, negsuc, nat_abs}
use lib.Dec.{leb}
use lib.Signed.{lt_z, le_z}
use mir.Syntax.{w64}
use mir.Val.{SFits, to_z, of_z}
use mir.Facts.{to_z-of_z}
use borrow.Author.Tests.{ltb-true, ltb-false, le-leb, lt-leb}
use Rattle.format.proofs.Cases.{never}
use Rattle.moments.proofs.Order.{le_not}

pub below_least : (x : ℤ) → lt_z x (negsuc 999999) ≡ true → leb (nat_abs x) 1000000 ≡ false
below_least (pos n) e = never e
below_least (negsuc n) e = lt-leb (suc n) 1000000 (omega (arith, ltb-true 999999 n e))

pub from_least : (x : ℤ) → lt_z x (negsuc 999999) ≡ false → le_z x (pos 1000000) ≡ leb (nat_abs x) 1000000
from_least (pos n) e = refl
from_least (negsuc n) e = sym (le-leb (suc n) 1000000 (omega (arith, ltb-false 999999 n e)))

-- ---- order

module _ (t l : ℤ) (f : SFits w64 t) (g : SFits w64 l) where
  pub late : lt_z (to_z w64 (of_z w64 t)) (to_z w64 (of_z w64 l)) ≡ true → le_z l t ≡ false
  late e = let q : lt_z t l ≡ true = rw (to_z-of_z f, to_z-of_z g) at e in le_not l t ∙ ap not q

  pub in_order_lem : lt_z (to_z w64 (of_z w64 t)) (to_z w64 (of_z w64 l)) ≡ false → le_z l t ≡ true
  in_order_lem e = let q : lt_z t l ≡ false = rw (to_z-of_z f, to_z-of_z g) at e in le_not l t ∙ ap not q
