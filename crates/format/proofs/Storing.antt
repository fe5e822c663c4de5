-- Octets stored into a buffer from the last to the first, as a loop does it. Assumes nothing.
use mathlib.Core.Path.{◌≡◌, sym, ◌∙◌}
use mathlib.Core.List.{List, [], ◌∷◌, ◌++◌}
use Prim.Native.Nat.{ℕ, zero, suc, ◌+◌, ◌-◌, ◌<◌}
use native.Mathlib.Nat.{add-zero, not-suc-le-zero}
use native.Mathlib.Omega.{arith}
use lib.IntN.{ℤ}
use lib.ListN.{length, set}
use lib.Seq.{sets, set_comm}
use Rattle.format.specs.Floor.{div_f, mod_f}
use Rattle.format.specs.Octets.{signed_octets}
use Rattle.format.proofs.Signed.{octets_length, octets_snoc}

-- the last of a run of stores may be made first
pub sets_last : (l : List ℕ) (i : ℕ) (xs : List ℕ) (d : ℕ) → sets l i (xs ++ (d ∷ [])) ≡ sets (set l (i + length xs) d) i xs
sets_last l i [] d = rw add-zero
sets_last l i (x ∷ xs) d =
    let e : suc i + length xs ≡ i + suc (length xs) = omega arith in
    sets_last (set l i x) (suc i) xs d ∙ rw (e, set_comm l i (i + suc (length xs)) x d (omega arith))

-- two runs of stores, one behind the other, are one
pub sets_append : (l : List ℕ) (i : ℕ) (xs ys : List ℕ) → sets l i (xs ++ ys) ≡ sets (sets l i xs) (i + length xs) ys
sets_append l i [] ys = rw add-zero
sets_append l i (x ∷ xs) ys =
    let e : suc i + length xs ≡ i + suc (length xs) = omega arith in
    rw e at (sets_append (set l i x) (suc i) xs ys)

-- as code stores them: the second run at a place that it computed
pub sets_then : (l : List ℕ) (i j : ℕ) (xs ys zs : List ℕ) → i + length xs ≡ j → xs ++ ys ≡ zs → sets (sets l i xs) j ys ≡ sets l i zs
sets_then l i j xs ys zs e p = rw (← e, ← p) (sym (sets_append l i xs ys))

-- One turn of a loop that stores a number's octets: the last one is stored, and the rest are still to be.
pub signed_turn : (l : List ℕ) (at k : ℕ) (v : ℤ) → 0 < k
    → sets (set l (at + (k - 1)) (mod_f v 256)) at (signed_octets (k - 1) (div_f v 256)) ≡ sets l at (signed_octets k v)
signed_turn l at zero v h = absurd (not-suc-le-zero h)
signed_turn l at (suc k) v h =
    let e : suc k - 1 ≡ k = omega arith in
    rw (e, octets_snoc k v) (sym (rw (octets_length k (div_f v 256)) at (sets_last l at (signed_octets k (div_f v 256)) (mod_f v 256))))
