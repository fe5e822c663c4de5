-- The lengths of texts: how many digits a length leaves. Only the time's row depends on the digits: so lengths go by its flag. Assumes nothing.
use Rattle.std.proofs.Common.{◌≡◌, ℕ, zero, suc, ◌+◌, ◌-◌, ◌≤◌, Bool, true, false, ◌++◌, sym, ap, ◌∙◌, ⊎_elim, arith, eq-eqb, ne_eqb}
use Rattle.format.specs.Values.{Kind, dated, timed, zoned}
use Rattle.format.specs.Fields.{width, widths}
use Rattle.format.specs.Text.{date_row, clock_row, offset_row, layout, text_length}
use Rattle.format.specs.TextReading.{digits_from, digits_found}
use Rattle.text.specs.Putting.{fraction_field}
use Rattle.format.proofs.Cases.{lt_or_le, eq_or_ne}
use Rattle.format.proofs.Fields.{widths_append}
use Rattle.format.proofs.Choosing.{digits_back, found_fits}

-- ---- lengths

rows_widths : (x y z : Bool) (d : ℕ) → widths (date_row x ++ (clock_row y x d ++ offset_row z)) ≡ widths (date_row x) + (widths (clock_row y x d) + widths (offset_row z))
rows_widths x y z d = widths_append (date_row x) (clock_row y x d ++ offset_row z) ∙ ap (λ (n : ℕ). widths (date_row x) + n) (widths_append (clock_row y x d) (offset_row z))

lengths : (k : Kind) (d : ℕ) → text_length k d ≡ widths (date_row (dated k)) + (widths (clock_row (timed k) (dated k) d) + widths (offset_row (zoned k)))
unfolding text_length layout
lengths k d = rows_widths (dated k) (timed k) (zoned k) d

clock_plain : (y x : Bool) (d : ℕ) → y ≡ false → widths (clock_row y x d) ≡ widths (clock_row y x 0)
unfolding widths width
clock_plain y x d e = rw e

clock_part : (y x : Bool) (d : ℕ) → y ≡ true → widths (clock_row y x (suc d)) ≡ widths (clock_row y x 0) + (2 + d)
unfolding widths width
clock_part y x d e = rw (e, ne_eqb (suc d) 0 (omega arith)) (omega arith)

pub length_plain : (k : Kind) (d : ℕ) → timed k ≡ false → text_length k d ≡ text_length k 0
length_plain k d t = omega (arith, lengths k d, lengths k 0, clock_plain (timed k) (dated k) d t)

length_part : (k : Kind) (d : ℕ) → timed k ≡ true → text_length k (suc d) ≡ text_length k 0 + (2 + d)
length_part k d t = omega (arith, lengths k (suc d), lengths k 0, clock_part (timed k) (dated k) d t)

pub length_digits : (k : Kind) (d : ℕ) → timed k ≡ true → text_length k d ≡ text_length k 0 + width (fraction_field d)
unfolding width
length_digits k zero t = omega arith
length_digits k (suc d) t = length_part k d t ∙ rw (ne_eqb (suc d) 0 (omega arith)) (omega arith)

date_small : (x : Bool) → widths (date_row x) ≤ 10
unfolding widths width
date_small true = omega arith
date_small false = omega arith

clock_small : (y x : Bool) → widths (clock_row y x 0) ≤ 9
unfolding widths width
clock_small true true = omega arith
clock_small true false = omega arith
clock_small false x = omega arith

offset_small : (z : Bool) → widths (offset_row z) ≤ 6
unfolding widths width
offset_small true = omega arith
offset_small false = omega arith

pub whole_small : (k : Kind) → text_length k 0 ≤ 25
whole_small k = omega (arith, lengths k 0, date_small (dated k), clock_small (timed k) (dated k), offset_small (zoned k))

-- ---- digits, from the length

from_most : (k : Kind) (n f d : ℕ) → digits_from k n f d ≤ d + f
unfolding digits_from
from_most k n zero d = omega arith
from_most k n (suc f) d =
    ⊎_elim (λ t. rw (eq-eqb (text_length k d) n t, digits_from) (omega arith))
    (λ t. rw (ne_eqb (text_length k d) n t, digits_from) (omega (arith, from_most k n f (suc d))))
    (eq_or_ne (text_length k d) n)

pub found_most : (k : Kind) (n : ℕ) → digits_found k n ≤ 7
unfolding digits_found
found_most k n = from_most k n 7 0

found_none : (k : Kind) (n : ℕ) → ((d : ℕ) → d ≤ 6 → text_length k d ≡ n → ⊥) → 7 ≡ digits_found k n
found_none k n h =
    ⊎_elim (λ t. absurd (h (digits_found k n) (omega arith) (found_fits k n (omega arith))))
    (λ t. omega (arith, found_most k n))
    (lt_or_le (digits_found k n) 7)

module _ (k : Kind) (n w : ℕ) (e : w ≡ text_length k 0) where
  pub found_whole : n ≡ w → 0 ≡ digits_found k n
  found_whole h = rw (h ∙ e) (sym (digits_back k 0 (omega arith)))

  pub none_plain : (n ≡ w → ⊥) → timed k ≡ false → 7 ≡ digits_found k n
  none_plain h t = found_none k n (λ d l f. h (omega (arith, e, f, length_plain k d t)))

  pub none_part : timed k ≡ true → (n ≡ w → ⊥) → (w + 2 ≤ n → n ≤ w + 7 → ⊥) → 7 ≡ digits_found k n
  none_part t h g = found_none k n go
    where
      go : (d : ℕ) → d ≤ 6 → text_length k d ≡ n → ⊥
      go zero l f = h (omega (arith, e, f))
      go (suc d) l f = let z = length_part k d t in g (omega arith) (omega arith)

  pub found_part : timed k ≡ true → w + 2 ≤ n → n ≤ w + 7 → n - w - 1 ≡ digits_found k n
  found_part t a b =
      let d = n - w - 2 in
      let f : text_length k (suc d) ≡ n = omega (arith, e, length_part k d t) in
      let g : n - w - 1 ≡ suc d = omega arith in
      g ∙ sym (digits_back k (suc d) (rw t (omega arith))) ∙ ap (digits_found k) f
