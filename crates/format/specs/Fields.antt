-- A row of text fields, each with a number. The row says how a text is laid out; writing and reading follow the same row.
--
--   is_sign c       the octet is `+` (43) or `-` (45)
--   Field           so many digits; a separator and so many digits after it; a sign; or absent, where a kind has no such field
--   width, widths   how many octets a field, a row takes
--   put, puts       how a number, a row of numbers is written
--   fits_at, fit    whether what stands at a place fits the field, the row
--   says_at, says   the numbers that stand there
use Rattle.std.specs.Prelude.{ℕ, suc, ◌+◌, List, [], ◌∷◌, ◌++◌, Bool, true, false, eqb, get_or}
use Rattle.format.specs.Words.{pick, both, either}
use Rattle.format.specs.Digits.{are_digits, number_at, digits_of}

abbrev pub is_sign : ℕ → Bool
is_sign c = either (eqb c 43) (eqb c 45)

pub data Field : Type 0 where
  digits : ℕ → Field
  after : ℕ → ℕ → Field
  sign : Field  -- `+` (43) says 0, `-` (45) says 1
  absent : Field  -- no octets; says 0

-- the field where a kind has it
abbrev pub when : Bool → Field → Field
when true f = f
when false f = absent

-- ---- one field

unfoldable pub width : Field → ℕ
width (digits n) = n
width (after c n) = suc n
width sign = 1
width absent = 0

unfoldable pub put : Field → ℕ → List ℕ
put (digits n) v = digits_of n v
put (after c n) v = c ∷ digits_of n v
put sign v = pick (eqb v 0) 43 45 ∷ []
put absent v = []

unfoldable pub fits_at : Field → List ℕ → ℕ → Bool
fits_at (digits n) s at = are_digits s at n
fits_at (after c n) s at = both (eqb (get_or s at 0) c) (are_digits s (suc at) n)
fits_at sign s at = is_sign (get_or s at 0)
fits_at absent s at = true

unfoldable pub says_at : Field → List ℕ → ℕ → ℕ
says_at (digits n) s at = number_at s at n
says_at (after c n) s at = number_at s (suc at) n
says_at sign s at = pick (eqb (get_or s at 0) 43) 0 1
says_at absent s at = 0

-- ---- a row, from left to right (01, Text: the reading place is handed from field to field)

unfoldable pub widths : List Field → ℕ
widths [] = 0
widths (f ∷ fs) = width f + widths fs

unfoldable pub puts : List Field → List ℕ → List ℕ
puts [] vs = []
puts (f ∷ fs) [] = []
puts (f ∷ fs) (v ∷ vs) = put f v ++ puts fs vs

unfoldable pub fit : List Field → List ℕ → ℕ → Bool
fit [] s at = true
fit (f ∷ fs) s at = both (fits_at f s at) (fit fs s (at + width f))

unfoldable pub says : List Field → List ℕ → ℕ → List ℕ
says [] s at = []
says (f ∷ fs) s at = says_at f s at ∷ says fs s (at + width f)
