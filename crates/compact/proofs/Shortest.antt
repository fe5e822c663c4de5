-- No more octets than a number takes: padded ones, or those with no redundant sign octet. Assumes nothing.
use mathlib.Core.Path.{◌≡◌, sym, ◌∙◌}
use mathlib.Core.Logic.{⊎_elim}
use mathlib.Core.Bool.{true}
use mathlib.Core.List.{List}
use Prim.Native.Nat.{ℕ, ◌-◌, ◌*◌, ◌%◌, ◌^◌, ◌<◌, ◌≤◌, max}
use native.Mathlib.Nat.{lt_of_lt_of_le, lt_of_not-le, not-le_of_lt}
use native.Mathlib.Omega.{arith}
use lib.IntN.{pos}
use lib.Signed.{mag}
use lib.Dec.{leb, eqb}
use lib.ListN.{length}
use mir.Syntax.{w64}
use mir.Val.{to_z}
use mir.Facts.{to_z_pos}
use borrow.Author.Tests.{le-leb, lt-leb, eq-eqb, ne_eqb}
use Rattle.format.specs.Octets.{Octets, half, signed_of, fewest_octets, tight}
use Rattle.format.proofs.Cases.{eq_or_ne, lt_or_le}
use Rattle.format.proofs.Ber.{half_mono, least, fewest_octets_lem}
use Rattle.format.proofs.Tight.{tight_fewest}

pub padded_shortest : (n p f : ℕ) → n ≤ p → true ≡ leb n (max p f)
padded_shortest n p f h = sym (le-leb n (max p f) (omega arith))

leb_max : (n p f : ℕ) → p < n → f ≤ n → eqb n f ≡ leb n (max p f)
leb_max n p f h l =
    ⊎_elim (λ e. rw (eq-eqb n f e) (sym (le-leb n (max p f) (omega arith))))
    (λ e. rw (ne_eqb n f e) (sym (lt-leb n (max p f) (omega arith))))
    (eq_or_ne n f)

pub tight_shortest : (s : List ℕ) (p : ℕ) → Octets s → p < length s → tight s ≡ leb (length s) (max p (fewest_octets (signed_of s)))
tight_shortest s p o h = tight_fewest s o ∙ leb_max (length s) p (fewest_octets (signed_of s)) h (fewest_octets_lem s o (omega arith))

-- the same, seen from the number: what one octet fewer holds is not more than it
pub beyond_shortest : (s : List ℕ) (p : ℕ) → Octets s → 1 ≤ p → p < length s
    → leb (half (length s - 1)) (mag (signed_of s)) ≡ leb (length s) (max p (fewest_octets (signed_of s)))
beyond_shortest s p o q h =
    let n = length s in
    let x = signed_of s in
    let f = fewest_octets x in
    ⊎_elim (λ l.
    let few : f ≤ n - 1 = (least x).least (n - 1) (omega arith) l in
    rw (lt-leb (half (n - 1)) (mag x) l) (sym (lt-leb n (max p f) (omega arith))))
    (λ l.
    let many : n - 1 < f = lt_of_not-le (λ (g : f ≤ n - 1). not-le_of_lt (lt_of_lt_of_le (least x).holds (half_mono f (n - 1) g)) l) in
    rw (le-leb (half (n - 1)) (mag x) l) (sym (le-leb n (max p f) (omega arith))))
    (lt_or_le (mag x) (half (n - 1)))

-- the number of some octets fits their length
pub octets_fit_lem : (s : List ℕ) (n : ℕ) → Octets s → 1 ≤ length s → length s ≤ n → mag (signed_of s) < half n
octets_fit_lem s n o p h =
    let x = signed_of s in
    lt_of_lt_of_le (least x).holds (half_mono (fewest_octets x) n (omega (arith, fewest_octets_lem s o p)))

-- what one octet fewer than n holds, as a bit of 64
pub halved : (n : ℕ) → 2 ≤ n → n ≤ 7 → to_z w64 (1 * 2 ^ (8 * n - 9) % 18446744073709551616) ≡ pos (half (n - 1))
halved n a b =
    let e : 8 * n - 9 ≡ 8 * (n - 1) - 1 = omega arith in
    let h : half (n - 1) ≤ half 6 = half_mono (n - 1) 6 (omega arith) in
    let m : 1 * half (n - 1) % 18446744073709551616 ≡ half (n - 1) = omega arith in
    rw (e, m) (to_z_pos w64 {n = half (n - 1)} (omega arith))
