-- What is read of a text in one go: a row of fields, or nothing. The legend:
--
--   row_at fs s at               what reading the row fs at a place of s comes to: its numbers, or refusal 6 where it does not fit
--   part_at d s at               the same of d fraction digits behind their point: the microseconds
--   clean x six mask             no bit of x is set that `mask` has, and none once `six` is added
--   numbered x b r               r is ten times x and its next octet, where b holds
--   number_row, two_row, three_row   what a function answers, as a row of one, two, three numbers
use Rattle.std.specs.Prelude.{◌≡◌, ℕ, ◌+◌, ◌*◌, ◌/◌, ◌%◌, ◌^◌, Bool, true, false, List, [], ◌∷◌, ◌==◌, bit_and, Option, Some, None}
use Rattle.format.specs.Words.{both, Outcome, accepted, refused, unless}
use Rattle.format.specs.Fields.{Field, fits_at, says_at, fit, says}
use Rattle.format.specs.Text.{fraction_unit}
use Rattle.text.specs.Putting.{fraction_field}

unfoldable pub row_at : List Field → List ℕ → ℕ → Outcome (List ℕ)
row_at fs s at = unless (fit fs s at) 6 (accepted (says fs s at))

unfoldable pub part_at : ℕ → List ℕ → ℕ → Outcome (List ℕ)
part_at d s at = unless (fits_at (fraction_field d) s at) 6 (accepted ((says_at (fraction_field d) s at * fraction_unit d) ∷ []))

unfoldable pub clean : ℕ → ℕ → ℕ → Bool
clean x six mask = both (bit_and x mask == 0) (bit_and ((x + six) % 2 ^ 64) mask == 0)

abbrev pub numbered : ℕ → Bool → Option ℕ → Type 0
numbered x b (Some n) = (b ≡ true) × (n ≡ x * 10 + x / 256)
numbered x b None = b ≡ false

abbrev pub number_row : Option ℕ → Outcome (List ℕ)
number_row (Some a) = accepted (a ∷ [])
number_row None = refused 6

abbrev pub two_row : Option (ℕ × ℕ) → Outcome (List ℕ)
two_row (Some (a, b)) = accepted (a ∷ b ∷ [])
two_row None = refused 6

abbrev pub three_row : Option (ℕ × ℕ × ℕ) → Outcome (List ℕ)
three_row (Some (a, b, c)) = accepted (a ∷ b ∷ c ∷ [])
three_row None = refused 6
