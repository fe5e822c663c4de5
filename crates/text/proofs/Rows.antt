-- Rows of fields, one behind another, and digits behind digits, over any row, place and count; and what tests tell. Assumes nothing.
use Rattle.std.proofs.Common.{◌≡◌, ℕ, zero, suc, ◌+◌, ◌*◌, ◌^◌, Bool, true, false, not, List, [], ◌∷◌, ◌++◌, get_or, sym, refl, ◌∙◌, ap₂, add-zero, pow-suc, arith}
use Rattle.format.specs.Words.{both}
use Rattle.format.specs.Digits.{is_digit, are_digits, number_at}
use Rattle.format.specs.Fields.{Field, absent, width, fits_at, says_at, widths, fit, says}
use Rattle.format.proofs.Cases.{not_true, not_false}
use Rattle.format.proofs.Fields.{Whole, widths_append, fit_append, says_append}

pub joined : (fs gs : List Field) (s : List ℕ) (at : ℕ) (vs ws : List ℕ) (p q : ℕ) → Whole fs s at vs p → Whole gs s p ws q → Whole (fs ++ gs) s at (vs ++ ws) q
joined fs gs s at vs ws p q v w =
    let w' : Whole gs s (at + widths fs) ws q = rw v.next at w in
    record {
      fits = rw (fit_append fs gs s at, v.fits) w'.fits;
      says = says_append fs gs s at ∙ ap₂ ◌++◌ v.says w'.says;
      next = omega (arith, v.next, w.next, widths_append fs gs);
    }

-- n fields that a kind lacks take nothing and say 0
abbrev pub absents : ℕ → List Field
absents zero = []
absents (suc n) = absent ∷ absents n

abbrev pub zeros : ℕ → List ℕ
zeros zero = []
zeros (suc n) = 0 ∷ zeros n

pub absent_row : (n : ℕ) (s : List ℕ) (at : ℕ) → Whole (absents n) s at (zeros n) at
unfolding fit says fits_at says_at width widths
absent_row zero s at = record { fits = refl; says = refl; next = omega arith }
absent_row (suc n) s at =
    let w = absent_row n s at in
    record { fits = rw (add-zero at) w.fits; says = rw (add-zero at, w.says); next = omega (arith, w.next) }

-- ---- tests

pub only : (b : Bool) → both b true ≡ b
only true = refl
only false = refl

pub grouped : (a b c : Bool) → both (both a b) c ≡ both a (both b c)
grouped true b c = refl
grouped false b c = refl

-- a test t was asked, and its answer's opposite tested
pub passes : {b t : Bool} → b ≡ t → not b ≡ false → t ≡ true
passes e h = sym e ∙ not_false _ h

pub fails : {b t : Bool} → b ≡ t → not b ≡ true → t ≡ false
fails e h = sym e ∙ not_true _ h

-- ---- digits behind digits

pub are_append : (s : List ℕ) (at n m : ℕ) → are_digits s at (n + m) ≡ both (are_digits s at n) (are_digits s (at + n) m)
unfolding are_digits
are_append s at n zero = rw (add-zero n) (sym (only (are_digits s at n)))
are_append s at n (suc m) =
    let e : n + suc m ≡ suc (n + m) = omega arith in
    let f : at + (n + m) ≡ at + n + m = omega arith in
    rw (e, are_append s at n m, f) (grouped (are_digits s at n) (are_digits s (at + n) m) (is_digit (get_or s (at + n + m) 0)))

pub number_append : (s : List ℕ) (at n m : ℕ) → number_at s at (n + m) ≡ number_at s at n * 10 ^ m + number_at s (at + n) m
unfolding number_at
number_append s at n zero = rw (add-zero n) (omega arith)
number_append s at n (suc m) =
    let e : n + suc m ≡ suc (n + m) = omega arith in
    let f : at + (n + m) ≡ at + n + m = omega arith in
    rw (e, number_append s at n m, f, pow-suc) (omega arith)
