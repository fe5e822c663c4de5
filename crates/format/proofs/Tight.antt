-- 'No redundant sign octet' says the same as 'in the fewest octets'. One octet fewer holds a number exactly where its two first octets
-- are one octet's number, and that is where the nine first bits are equal. Assumes nothing.
use Prim.Native.Nat.{ℕ, suc, ◌+◌, ◌-◌, ◌*◌, ◌^◌, ◌<◌, ◌≤◌}
use native.Mathlib.Nat.{le_antisymm, le_refl, lt_of_lt_of_le, lt_of_not-le}
use native.Mathlib.Omega.{arith}
use mathlib.Core.Path.{◌≡◌, refl, sym, ◌∙◌, ap}
use mathlib.Core.Logic.{⊎_elim}
use mathlib.Core.Bool.{Bool, true, false, not, cond}
use mathlib.Core.List.{List, [], ◌∷◌}
use lib.IntN.{ℤ, pos, negsuc}
use lib.Signed.{mag}
use lib.Dec.{ltb, eqb}
use lib.ListN.{length}
use borrow.Author.Tests.{ltb-true, ltb-false, eq-eqb, ne_eqb}
use Rattle.format.specs.Floor.{div_f}
use Rattle.format.specs.Octets.{Octets, signed_of, sign_from, push, more, fewest_octets, tight, first_nine}
use Rattle.format.proofs.Cases.{both_false, eq_or_ne}
use Rattle.format.proofs.Floor.{push_neg}
use Rattle.format.proofs.Signed.{div_more, top_fits, fits_top, signed_fits}
use Rattle.format.proofs.Ber.{half_mono, least}

-- the number of the two first octets
abbrev first_two : ℕ → ℕ → ℤ
first_two b c = push (push (sign_from b) b) c

two_neg : (b c : ℕ) → b < 256 → c < 256 → push (push (negsuc 0) b) c ≡ negsuc ((255 - b) * 256 + (255 - c))
two_neg b c hb hc =
    let e : 0 * 256 + (255 - b) ≡ 255 - b = omega arith in
    ap (λ (z : ℤ). push z c) (push_neg 0 b hb) ∙ rw e (push_neg (255 - b) c hc)

module _ (b c : ℕ) (hb : b < 256) (hc : c < 256) where
  wide : (first_nine b c ≡ 0 → ⊥) → (first_nine b c ≡ 511 → ⊥) → 128 ≤ mag (first_two b c)
  wide p q = go (ltb b 128) refl
    where
      go : (t : Bool) → ltb b 128 ≡ t → 128 ≤ mag (push (push (cond t (pos 0) (negsuc 0)) b) c)
      go true e = omega (arith, ltb-true b 128 e)
      go false e = rw (two_neg b c hb hc) (omega (arith, ltb-false b 128 e))

  narrow-zeros : first_nine b c ≡ 0 → mag (first_two b c) < 128
  narrow-zeros h = go (ltb b 128) refl
    where
      go : (t : Bool) → ltb b 128 ≡ t → mag (push (push (cond t (pos 0) (negsuc 0)) b) c) < 128
      go true e = omega arith
      go false e = absurd (omega (arith, ltb-false b 128 e))

  narrow-ones : first_nine b c ≡ 511 → mag (first_two b c) < 128
  narrow-ones h = go (ltb b 128) refl
    where
      go : (t : Bool) → ltb b 128 ≡ t → mag (push (push (cond t (pos 0) (negsuc 0)) b) c) < 128
      go true e = absurd (omega (arith, ltb-true b 128 e))
      go false e = rw (two_neg b c hb hc) (omega arith)

module _ (b c : ℕ) (bs : List ℕ) (o : Octets (b ∷ c ∷ bs)) where
  top-two : div_f (signed_of (b ∷ c ∷ bs)) (256 ^ length bs) ≡ first_two b c
  unfolding signed_of more
  top-two = div_more (first_two b c) bs (λ i. o (suc (suc i)))

  -- where the two first octets are more than one octet's number, no fewer hold the whole
  all-needed : 128 ≤ mag (first_two b c) → suc (suc (length bs)) ≡ fewest_octets (signed_of (b ∷ c ∷ bs))
  all-needed w =
      let x = signed_of (b ∷ c ∷ bs) in
      let l = least x in
      let more : suc (length bs) < fewest_octets x = lt_of_not-le (λ (g : fewest_octets x ≤ suc (length bs)).
      let t = rw top-two at (top_fits (length bs) x (lt_of_lt_of_le l.holds (half_mono (fewest_octets x) (suc (length bs)) g))) in omega arith) in
      le_antisymm more (l.least (suc (suc (length bs))) (omega arith) (signed_fits b (c ∷ bs) o))

  one_over : mag (first_two b c) < 128 → eqb (suc (suc (length bs))) (fewest_octets (signed_of (b ∷ c ∷ bs))) ≡ false
  one_over t =
      let x = signed_of (b ∷ c ∷ bs) in
      let h = (least x).least (suc (length bs)) (omega arith) (fits_top (length bs) x (rw top-two t)) in
      ne_eqb (suc (suc (length bs))) (fewest_octets x) (λ e. omega arith)

-- X.690 8.3.2's test passes exactly where the octets are as many as their number needs
pub tight_fewest : (s : List ℕ) → Octets s → tight s ≡ eqb (length s) (fewest_octets (signed_of s))
tight_fewest [] o = sym (ne_eqb 0 (fewest_octets (signed_of [])) (λ e. omega (arith, (least (signed_of [])).some)))
tight_fewest (b ∷ []) o =
    let l = least (signed_of (b ∷ [])) in
    sym (eq-eqb 1 (fewest_octets (signed_of (b ∷ []))) (le_antisymm l.some (l.least 1 (le_refl 1) (signed_fits b [] o))))
tight_fewest (b ∷ c ∷ bs) o =
    ⊎_elim
    (λ z. rw (eq-eqb (first_nine b c) 0 z) (sym (one_over b c bs o (narrow-zeros b c (o 0) (o 1) z))))
    (λ z. ⊎_elim
    (λ w. rw (eq-eqb (first_nine b c) 511 w, both_false (not (eqb (first_nine b c) 0))) (sym (one_over b c bs o (narrow-ones b c (o 0) (o 1) w))))
    (λ w. rw (ne_eqb (first_nine b c) 0 z, ne_eqb (first_nine b c) 511 w)
    (sym (eq-eqb (suc (suc (length bs))) (fewest_octets (signed_of (b ∷ c ∷ bs))) (all-needed b c bs o (wide b c (o 0) (o 1) z w)))))
    (eq_or_ne (first_nine b c) 511))
    (eq_or_ne (first_nine b c) 0)
