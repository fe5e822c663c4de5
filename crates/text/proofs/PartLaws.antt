-- The parts of a text: the fraction of a second, the date and the offset, each from what was read of them. Assumes nothing.
use Rattle.std.proofs.Common.{◌≡◌, ℕ, suc, ◌+◌, ◌-◌, ◌*◌, ◌^◌, ◌<◌, ◌≤◌, Bool, true, false, eqb, leb, List, [], ◌∷◌, get_or, length, take, drop, refl, ◌∙◌, ◌⊎◌, ⊎_elim, lt_of_lt_of_le, zero-mul, add-one, arith, eq-eqb, ne_eqb, eqb-true}
use native.Mathlib.Nat.{pow-le-pow_right}
use borrow.Author.Tests.{lt-leb}
use Rattle.std.proofs.lemmas.List.{length-take-le, length-drop, get_or-take, get_or-drop}
use Rattle.format.specs.Words.{pick, both, either, accepted, refused}
use Rattle.format.specs.Digits.{is_digit, are_digits, number_at}
use Rattle.format.specs.Fields.{Field, digits, after, width, fits_at, says_at, fit, says}
use Rattle.format.specs.Text.{date_row, offset_row, fraction_unit}
use Rattle.format.proofs.Cases.{both_true, both_false, passed, failed, same, never}
use Rattle.format.proofs.Clock.{seven}
use Rattle.format.proofs.Decimal.{digits_fail, number_small}
use Rattle.text.specs.Putting.{fraction_field}
use Rattle.text.specs.Pairs.{row_at, part_at}
use Rattle.text.specs.Parts.{minus_of}
use Rattle.text.proofs.Rows.{are_append, number_append}

-- ---- the fraction

module _ (d : ℕ) (s : List ℕ) (at : ℕ) where
  pub part_none : d ≡ 0 → accepted (0 ∷ []) ≡ part_at d s at
  unfolding part_at fits_at says_at
  part_none e = rw (e, zero-mul)

  pub part_no_point : (d ≡ 0 → ⊥) → (get_or s at 0 ≡ 46 → ⊥) → refused 6 ≡ part_at d s at
  unfolding part_at fits_at
  part_no_point h e = rw (ne_eqb d 0 h, ne_eqb (get_or s at 0) 46 e)

  pub part_no_digit : (d ≡ 0 → ⊥) → (i : ℕ) → i < d → is_digit (get_or s (at + 1 + i) 0) ≡ false → refused 6 ≡ part_at d s at
  unfolding part_at fits_at
  part_no_digit h i l e =
      let f = digits_fail s (at + 1) d i l e in
      let g : are_digits s (suc at) d ≡ false = rw add-one at f in
      rw (ne_eqb d 0 h, g, both_false (eqb (get_or s at 0) 46))

  pub part_done : (d ≡ 0 → ⊥) → get_or s at 0 ≡ 46 → are_digits s (at + 1) d ≡ true
      → (v u : ℕ) → v ≡ number_at s (at + 1) d → u ≡ fraction_unit d → accepted ((v * u) ∷ []) ≡ part_at d s at
  unfolding part_at fits_at says_at
  part_done h e f v u i j =
      let g : are_digits s (suc at) d ≡ true = rw add-one at f in
      rw (i, j, ne_eqb d 0 h, eq-eqb (get_or s at 0) 46 e, add-one, g)

pub part_width : (d : ℕ) → (d ≡ 0 → ⊥) → width (fraction_field d) ≡ suc d
unfolding width
part_width d h = rw (ne_eqb d 0 h)

-- not 0, and so on up to 5: then it is more
pub past : (d k : ℕ) → k ≤ d → (d ≡ k → ⊥) → suc k ≤ d
past d k l n = omega arith

-- so many digits are so small
pub few_digits : (i v : ℕ) → i < 6 → v < 10 ^ i → v < 100000
few_digits i v h l = lt_of_lt_of_le l (pow-le-pow_right {n = 10} (omega arith) {i = i} {j = 5} (omega arith))

pub part_small : (d : ℕ) → d ≤ 6 → (v : ℕ) → v < 10 ^ d → v * fraction_unit d < 1000000
unfolding fraction_unit
part_small =
    seven (λ d. (v : ℕ) → v < 10 ^ d → v * 10 ^ (6 - d) < 1000000)
    (λ v h. omega arith) (λ v h. omega arith) (λ v h. omega arith) (λ v h. omega arith) (λ v h. omega arith) (λ v h. omega arith) (λ v h. omega arith)

pub counted_small : (d : ℕ) (s : List ℕ) (p : ℕ) → d ≤ 6 → are_digits s p d ≡ true → (v u : ℕ) → v ≡ number_at s p d → u ≡ fraction_unit d → v * u < 1000000
counted_small d s p h e v u i j = rw (i, j) (part_small d h (number_at s p d) (number_small s p d e))

-- the d octets from the place p on, as a slice: how many there are, and each one's place
module _ (s : List ℕ) (p d : ℕ) (h : p + d ≤ length s) where
  abbrev octets : List ℕ
  octets = take (p + d - p) (drop p s)

  pub slice_long : length octets ≡ d
  slice_long = length-take-le (p + d - p) (drop p s) (omega (arith, length-drop p s, h)) ∙ omega arith

  pub slice_octet : (i : ℕ) → i < length octets → (i < d) × (get_or octets i 0 ≡ get_or s (p + i) 0)
  slice_octet i l =
      let f : i < d = omega (arith, slice_long, l) in
      (f, get_or-take (p + d - p) (drop p s) i 0 (omega (arith, f)) ∙ get_or-drop p s i 0)

pub no_digit : (x : ℕ) → (x < 48) ⊎ (57 < x) → is_digit x ≡ false
no_digit x = ⊎_elim (λ a. rw (lt-leb 48 x a)) (λ b. rw (lt-leb x 57 b, both_false (leb 48 x)))

-- ---- a row that was read, or was not

module _ (fs : List Field) (s : List ℕ) (at : ℕ) where
  pub row_got : (vs : List ℕ) → row_at fs s at ≡ accepted vs → (fit fs s at ≡ true) × (says fs s at ≡ vs)
  unfolding row_at
  row_got vs e =
      let p = passed (fit fs s at) 6 _ _ e in
      (p.0, same p.1)

  pub row_not : (n : ℕ) → row_at fs s at ≡ refused n → fit fs s at ≡ false
  unfolding row_at
  row_not n e = failed (fit fs s at) 6 n _ e

-- ---- the date: the century, and what is behind it

abbrev pub century_row : List Field
century_row = digits 2 ∷ []

abbrev pub pairs_row : ℕ → List Field
pairs_row m = digits 2 ∷ after m 2 ∷ after m 2 ∷ []

parted : (a b c : Bool) → both (both a b) c ≡ both (both a true) (both b c)
parted true b c = refl
parted false b c = refl

module _ (s : List ℕ) (at : ℕ) where
  date-fit : fit (date_row true) s at ≡ both (fit century_row s at) (fit (pairs_row 45) s (at + 2))
  unfolding fit fits_at width
  date-fit =
      let e : at + 2 + 2 ≡ at + 4 = omega arith in
      rw (are_append s at 2 2, e) (parted (are_digits s at 2) (are_digits s (at + 2) 2) _)

  date-says : (c y m d : ℕ) → says century_row s at ≡ c ∷ [] → says (pairs_row 45) s (at + 2) ≡ y ∷ m ∷ d ∷ [] → says (date_row true) s at ≡ (c * 100 + y) ∷ m ∷ d ∷ []
  unfolding says says_at width
  date-says c y m d e f =
      let g : number_at s at 2 ≡ c = cc in
      let h : number_at s (at + 2) 2 ≡ y = cc in
      let i : number_at s (suc (at + 2 + 2)) 2 ≡ m = cc in
      let j : number_at s (suc (at + 2 + 2 + 3)) 2 ≡ d = cc in
      let k : at + 2 + 2 ≡ at + 4 = omega arith in
      let i' : number_at s (suc (at + 4)) 2 ≡ m = rw k at i in
      let j' : number_at s (suc (at + 4 + 3)) 2 ≡ d = rw k at j in
      rw (number_append s at 2 2, g, h, i', j')

  pub date_no_century : (n : ℕ) → row_at century_row s at ≡ refused n → refused 6 ≡ row_at (date_row true) s at
  unfolding row_at
  date_no_century n e = rw (date-fit, row_not century_row s at n e)

  pub date_no_rest : (n : ℕ) → row_at (pairs_row 45) s (at + 2) ≡ refused n → refused 6 ≡ row_at (date_row true) s at
  unfolding row_at
  date_no_rest n e = rw (date-fit, row_not (pairs_row 45) s (at + 2) n e, both_false (fit century_row s at))

  pub date_done : (c y m d : ℕ) → row_at century_row s at ≡ accepted (c ∷ []) → row_at (pairs_row 45) s (at + 2) ≡ accepted (y ∷ m ∷ d ∷ [])
      → accepted ((c * 100 + y) ∷ m ∷ d ∷ []) ≡ row_at (date_row true) s at
  unfolding row_at
  date_done c y m d e f =
      let p = row_got century_row s at _ e in
      let q = row_got (pairs_row 45) s (at + 2) _ f in
      rw (date-fit, p.0, q.0, date-says c y m d p.1 q.1)

-- pairs are below 100
century_below : (s : List ℕ) (at c : ℕ) → fit century_row s at ≡ true → says century_row s at ≡ c ∷ [] → c < 100
unfolding fit fits_at says says_at
century_below s at c e f =
    let d = both_true (are_digits s at 2) true e in
    let g : number_at s at 2 ≡ c = cc in
    rw g at (number_small s at 2 d.0)

pub century_small : (s : List ℕ) (at c : ℕ) → row_at century_row s at ≡ accepted (c ∷ []) → c < 100
century_small s at c e = let p = row_got century_row s at _ e in century_below s at c p.0 p.1

pub record Below100 (a b c : ℕ) : Type 0 where
  pub first : a < 100
  pub second : b < 100
  pub third : c < 100

three_below : (m : ℕ) (s : List ℕ) (at a b c : ℕ) → fit (pairs_row m) s at ≡ true → says (pairs_row m) s at ≡ a ∷ b ∷ c ∷ [] → Below100 a b c
unfolding fit fits_at says says_at width
three_below m s at a b c e f =
    let p = both_true (are_digits s at 2) _ e in
    let q = both_true (both (eqb (get_or s (at + 2) 0) m) (are_digits s (suc (at + 2)) 2)) _ p.1 in
    let r = both_true (eqb (get_or s (at + 2) 0) m) _ q.0 in
    let t = both_true (both (eqb (get_or s (at + 2 + 3) 0) m) (are_digits s (suc (at + 2 + 3)) 2)) _ q.1 in
    let u = both_true (eqb (get_or s (at + 2 + 3) 0) m) _ t.0 in
    let g : number_at s at 2 ≡ a = cc in
    let h : number_at s (suc (at + 2)) 2 ≡ b = cc in
    let i : number_at s (suc (at + 2 + 3)) 2 ≡ c = cc in
    record {
      first = rw g at (number_small s at 2 p.0);
      second = rw h at (number_small s (suc (at + 2)) 2 r.1);
      third = rw i at (number_small s (suc (at + 2 + 3)) 2 u.1);
    }

pub three_small : (m : ℕ) (s : List ℕ) (at a b c : ℕ) → row_at (pairs_row m) s at ≡ accepted (a ∷ b ∷ c ∷ []) → Below100 a b c
three_small m s at a b c e = let p = row_got (pairs_row m) s at _ e in three_below m s at a b c p.0 p.1

-- ---- the offset: the sign, and what is behind it

abbrev pub two_row : List Field
two_row = digits 2 ∷ after 58 2 ∷ []

sign_says : (o : ℕ) → either (eqb o 43) (eqb o 45) ≡ true → pick (eqb o 43) 0 1 ≡ minus_of (eqb o 45)
sign_says o e = go (eqb o 43) (eqb o 45) refl refl e
  where
    go : (a b : Bool) → eqb o 43 ≡ a → eqb o 45 ≡ b → either a b ≡ true → pick a 0 1 ≡ minus_of b
    go true true f g h =
        let x = eqb-true o 43 f in
        let y = eqb-true o 45 g in
        absurd (omega arith)
    go true false f g h = refl
    go false true f g h = refl
    go false false f g h = never h

module _ (s : List ℕ) (at : ℕ) where
  zone-fit : fit (offset_row true) s at ≡ both (either (eqb (get_or s at 0) 43) (eqb (get_or s at 0) 45)) (fit two_row s (at + 1))
  unfolding fit fits_at width
  zone-fit = refl

  zone-says : says (offset_row true) s at ≡ pick (eqb (get_or s at 0) 43) 0 1 ∷ says two_row s (at + 1)
  unfolding says says_at width
  zone-says = refl

  pub zone_no_sign : either (eqb (get_or s at 0) 43) (eqb (get_or s at 0) 45) ≡ false → refused 6 ≡ row_at (offset_row true) s at
  unfolding row_at fit fits_at
  zone_no_sign e = rw e

  pub zone_no_rest : (n : ℕ) → row_at two_row s (at + 1) ≡ refused n → refused 6 ≡ row_at (offset_row true) s at
  unfolding row_at
  zone_no_rest n e = rw (zone-fit, row_not two_row s (at + 1) n e, both_false (either (eqb (get_or s at 0) 43) (eqb (get_or s at 0) 45)))

  pub zone_done : (b : Bool) (h m : ℕ) → b ≡ eqb (get_or s at 0) 45 → either (eqb (get_or s at 0) 43) (eqb (get_or s at 0) 45) ≡ true
      → row_at two_row s (at + 1) ≡ accepted (h ∷ m ∷ []) → accepted (minus_of b ∷ h ∷ m ∷ []) ≡ row_at (offset_row true) s at
  unfolding row_at
  zone_done b h m i e f =
      let p = row_got two_row s (at + 1) _ f in
      rw (i, zone-fit, e, p.0, zone-says, p.1, sign_says (get_or s at 0) e)
