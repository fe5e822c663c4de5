-- The rows of a text: how wide each is, and a clock's from its pairs and its fraction, alone and behind a date's `T`. Assumes nothing.
use Rattle.std.proofs.Common.{◌≡◌, ℕ, suc, ◌+◌, ◌*◌, ◌<◌, ◌≤◌, Bool, true, false, not, eqb, List, [], ◌∷◌, ◌++◌, get_or, sym, refl, ◌∙◌, ⊎_elim, zero-mul, arith, ne_eqb}
use Rattle.format.specs.Words.{both, if_any, accepted, refused}
use Rattle.format.specs.Digits.{are_digits}
use Rattle.format.specs.Values.{Kind, dated, timed, zoned}
use Rattle.format.specs.Fields.{Field, after, when, width, fits_at, says_at, widths, fit, says}
use Rattle.format.specs.Text.{date_row, clock_row, offset_row, layout, text_length, fraction_unit}
use Rattle.format.proofs.Cases.{both_true, passed, failed, eq_or_ne, never}
use Rattle.format.proofs.Decimal.{number_small}
use Rattle.format.proofs.Fields.{widths_append, fit_append, says_append}
use Rattle.text.specs.Putting.{fraction_field}
use Rattle.text.specs.Pairs.{row_at, part_at}
use Rattle.text.specs.Cursors.{pairs_by}
use Rattle.text.proofs.Rows.{absents, zeros, absent_row, only, grouped}
use Rattle.text.proofs.PartLaws.{Below100, pairs_row, part_small, three_small}

-- ---- how wide the rows are

pub date_width : (b : Bool) → widths (date_row b) ≡ if_any b 10
unfolding widths width
date_width true = refl
date_width false = refl

-- `T` before the time where there is a date
pub clock_width : (t b : Bool) (d : ℕ) → widths (clock_row t b d) ≡ if_any t (if_any b 1 + 8 + width (fraction_field d))
unfolding widths width
clock_width true true d = omega arith
clock_width true false d = omega arith
clock_width false b d = refl

pub zone_width : (b : Bool) → widths (offset_row b) ≡ if_any b 6
unfolding widths width
zone_width true = refl
zone_width false = refl

-- the whole text
pub parts_long : (k : Kind) (d : ℕ) → text_length k d ≡ widths (date_row (dated k)) + (widths (clock_row (timed k) (dated k) d) + widths (offset_row (zoned k)))
unfolding text_length layout
parts_long k d =
    omega (arith, widths_append (date_row (dated k)) (clock_row (timed k) (dated k) d ++ offset_row (zoned k)), widths_append (clock_row (timed k) (dated k) d) (offset_row (zoned k)))

pub text_long : (k : Kind) (d : ℕ)
    → text_length k d ≡ if_any (dated k) 10 + (if_any (timed k) (if_any (dated k) 1 + 8 + width (fraction_field d)) + if_any (zoned k) 6)
text_long k d = parts_long k d ∙ rw (date_width (dated k), clock_width (timed k) (dated k) d, zone_width (zoned k))

pub fraction_narrow : (d : ℕ) → width (fraction_field d) ≤ d + 1
unfolding width
fraction_narrow d = go (eqb d 0)
  where
    go : (b : Bool) → width (when (not b) (after 46 d)) ≤ d + 1
    go true = unfold width in omega arith
    go false = unfold width in omega arith

-- ---- what the rows are made of

-- one field is a row
one_fit : (f : Field) (s : List ℕ) (at : ℕ) → fit (f ∷ []) s at ≡ fits_at f s at
unfolding fit
one_fit f s at = only (fits_at f s at)

one_says : (f : Field) (s : List ℕ) (at : ℕ) → says (f ∷ []) s at ≡ says_at f s at ∷ []
unfolding says
one_says f s at = refl

pairs_width : (m : ℕ) → widths (pairs_row m) ≡ 8
unfolding widths width
pairs_width m = refl

none_said : (s : List ℕ) (at : ℕ) → says_at (fraction_field 0) s at * fraction_unit 0 < 1000000
unfolding says_at fraction_unit
none_said s at = omega arith

-- a kind has the digits of a fraction, or none
pub if_most : (b : Bool) (n : ℕ) → if_any b n ≤ n
if_most true n = omega arith
if_most false n = omega arith

-- the clock's octets, one part behind the other: the `T`, the pairs, the fraction
pub clock_long : (t b : Bool) (d : ℕ) → widths (clock_row t b d) ≡ if_any (both b t) 1 + (if_any t 8 + width (fraction_field (if_any t d)))
unfolding width
clock_long true true d = clock_width true true d ∙ omega arith
clock_long true false d = clock_width true false d ∙ omega arith
clock_long false true d = clock_width false true d
clock_long false false d = clock_width false false d

-- without a `T` it is the clock of a time alone
pub unjoined : (t b : Bool) (d : ℕ) → both b t ≡ false → clock_row t b d ≡ clock_row t false d
unjoined true true d e = never (sym e)
unjoined true false d e = refl
unjoined false true d e = refl
unjoined false false d e = refl

pub absent_read : (n : ℕ) (s : List ℕ) (at : ℕ) → accepted (zeros n) ≡ row_at (absents n) s at
unfolding row_at
absent_read n s at = let w = absent_row n s at in rw (w.fits, w.says)

pub three_small_by : (t : Bool) (s : List ℕ) (at a b c : ℕ) → row_at (pairs_by t) s at ≡ accepted (a ∷ b ∷ c ∷ []) → Below100 a b c
three_small_by true s at a b c e = three_small 58 s at a b c e
three_small_by false s at a b c e =
    let q : accepted (0 ∷ 0 ∷ 0 ∷ []) ≡ accepted (a ∷ b ∷ c ∷ []) = absent_read 3 s at ∙ e in
    let f : 0 ≡ a = cc in
    let g : 0 ≡ b = cc in
    let h : 0 ≡ c = cc in
    record { first = omega (arith, f); second = omega (arith, g); third = omega (arith, h) }

module _ (d : ℕ) (s : List ℕ) where
  -- a time alone: its three pairs, and its fraction
  pub alone_fit : (at : ℕ) → fit (clock_row true false d) s at ≡ both (fit (pairs_row 58) s at) (fits_at (fraction_field d) s (at + 8))
  alone_fit at = fit_append (pairs_row 58) (fraction_field d ∷ []) s at ∙ rw (pairs_width 58, one_fit (fraction_field d) s (at + 8))

  pub alone_says : (at : ℕ) → says (clock_row true false d) s at ≡ says (pairs_row 58) s at ++ (says_at (fraction_field d) s (at + 8) ∷ [])
  alone_says at = says_append (pairs_row 58) (fraction_field d ∷ []) s at ∙ rw (pairs_width 58, one_says (fraction_field d) s (at + 8))

  -- of a kind, too
  pub time_fit : (t : Bool) (at : ℕ) → fit (clock_row t false d) s at ≡ both (fit (pairs_by t) s at) (fits_at (fraction_field (if_any t d)) s (at + if_any t 8))
  unfolding fits_at
  time_fit true at = alone_fit at
  time_fit false at = rw ((absent_row 4 s at).fits, (absent_row 3 s at).fits)

  pub time_says : (t : Bool) (at : ℕ) → says (clock_row t false d) s at ≡ says (pairs_by t) s at ++ (says_at (fraction_field (if_any t d)) s (at + if_any t 8) ∷ [])
  unfolding says_at
  time_says true at = alone_says at
  time_says false at = rw ((absent_row 4 s at).says, (absent_row 3 s at).says)

  -- what the fraction counts
  pub time_unit : (t : Bool) (at : ℕ) → says_at (fraction_field (if_any t d)) s at * fraction_unit (if_any t d) ≡ says_at (fraction_field (if_any t d)) s at * fraction_unit d
  unfolding says_at
  time_unit true at = refl
  time_unit false at = zero-mul (fraction_unit 0) ∙ sym (zero-mul (fraction_unit d))

  -- and behind a date: its `T` first
  pub behind_fit : fit (clock_row true true d) s 10 ≡ both (eqb (get_or s 10 0) 84) (fit (clock_row true false d) s 11)
  unfolding fit fits_at width
  behind_fit = grouped (eqb (get_or s 10 0) 84) (are_digits s 11 2) _

  pub behind_says : says (clock_row true true d) s 10 ≡ says (clock_row true false d) s 11
  unfolding says says_at width
  behind_says = refl

  pub part_got : (at p : ℕ) → part_at d s at ≡ accepted (p ∷ []) → (fits_at (fraction_field d) s at ≡ true) × (p ≡ says_at (fraction_field d) s at * fraction_unit d)
  unfolding part_at
  part_got at p e =
      let q = passed (fits_at (fraction_field d) s at) 6 _ _ e in
      let t = q.1 in
      (q.0, cc)

  pub part_not : (at n : ℕ) → part_at d s at ≡ refused n → fits_at (fraction_field d) s at ≡ false
  unfolding part_at
  part_not at n e = failed (fits_at (fraction_field d) s at) 6 n _ e

  -- how small the fraction is
  pub part_below : (at : ℕ) → d ≤ 6 → fits_at (fraction_field d) s at ≡ true → says_at (fraction_field d) s at * fraction_unit d < 1000000
  unfolding fits_at says_at
  part_below at h e =
      ⊎_elim (λ z. rw z (none_said s at))
      (λ z. rw (ne_eqb d 0 z) (part_small d h _ (number_small s (suc at) d (both_true (eqb (get_or s at 0) 46) (are_digits s (suc at) d) (rw (ne_eqb d 0 z) at e)).1)))
      (eq_or_ne d 0)
