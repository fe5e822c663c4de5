-- Numbers since 2020-01-01, in ℤ, where `format` counts from 0001-01-01 in ℕ: how one is tested against its limits, and how it is counted from
-- 0001-01-01 again. Each law is shown by the sign, on plain numbers: B is the epoch in units of a day. Assumes nothing.
use mathlib.Core.Path.{◌≡◌, refl, sym}
use mathlib.Core.Logic.{⊎_elim}
use mathlib.Core.Bool.{true, not}
use Prim.Native.Nat.{ℕ, zero, suc, ◌+◌, ◌-◌, ◌<◌, ◌≤◌}
use native.Mathlib.Omega.{arith}
use lib.IntN.{ℤ, pos, negsuc, neg_ℤ, sub_ℕ, ◌+ℤ◌}
use lib.Signed.{lt_z, le_z}
use lib.Dec.{leb}
use borrow.Author.Tests.{lt-ltb, le-ltb, le-leb, lt-leb, ltb-true}
use Rattle.format.specs.CompactReading.{not_before, counted}
use Rattle.format.proofs.Cases.{lt_or_le}

-- ---- a difference

sub_less : (a b : ℕ) → a < b → sub_ℕ a b ≡ negsuc (b - suc a)
sub_less a b h = rw (lt-ltb a b h)

sub_more : (a b : ℕ) → b ≤ a → sub_ℕ a b ≡ pos (a - b)
sub_more a b h = rw (le-ltb a b h)

-- ---- its limits

pub beyond_since : (N B g : ℕ) → lt_z (pos g) (sub_ℕ N B) ≡ not (leb N (B + g))
beyond_since N B g =
    ⊎_elim (λ h. rw (sub_less N B h, le-leb N (B + g) (omega arith)))
    (λ h. ⊎_elim (λ l. rw (sub_more N B h, lt-leb N (B + g) l, lt-ltb g (N - B) (omega arith)))
    (λ l. rw (sub_more N B h, le-leb N (B + g) l, le-ltb g (N - B) (omega arith)))
    (lt_or_le (B + g) N))
    (lt_or_le N B)

pub above_since : (B : ℕ) (x : ℤ) → le_z (neg_ℤ (pos B)) x ≡ not_before B x
above_since zero (pos a) = le-leb 0 a (omega arith)
above_since zero (negsuc a) = rw (le-ltb a 0 (omega arith))
above_since (suc b) (pos a) = refl
above_since (suc b) (negsuc a) =
    ⊎_elim (λ h. rw (le-leb a b (omega arith), lt-ltb a (suc b) h)) (λ h. rw (lt-leb a b (omega arith), le-ltb a (suc b) h)) (lt_or_le a (suc b))

pub within_since : (B g : ℕ) (x : ℤ) → not_before B x ≡ true → le_z x (pos g) ≡ leb (counted B x) (B + g)
within_since B g (pos a) e =
    ⊎_elim (λ h. rw (lt-leb a g h, lt-leb (a + B) (B + g) (omega arith)))
    (λ h. rw (le-leb a g h, le-leb (a + B) (B + g) (omega arith)))
    (lt_or_le g a)
within_since B g (negsuc a) e = sym (le-leb (B - suc a) (B + g) (omega arith))

-- ---- counted from the first day again

pub add_since : (B : ℕ) (x : ℤ) → not_before B x ≡ true → x +ℤ pos B ≡ pos (counted B x)
add_since B (pos a) e = refl
add_since B (negsuc a) e = sub_more B (suc a) (omega (arith, ltb-true a B e))
