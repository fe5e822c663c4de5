-- Decimal digits in octets: 48 is `0`, 57 is `9`.
--
--   are_digits s at n   n digits stand in s from place `at` on
--   number_at s at n    the number that they are
--   digits_of n v       the last n digits of v, in front of them zeros where v has fewer: 5 in six digits is `000005`
use Rattle.std.specs.Prelude.{ℕ, zero, suc, ◌+◌, ◌-◌, ◌*◌, ◌/◌, ◌%◌, List, [], ◌∷◌, ◌++◌, Bool, true, leb, get_or}
use Rattle.format.specs.Words.{both}

abbrev pub is_digit : ℕ → Bool
is_digit x = both (leb 48 x) (leb x 57)

unfoldable pub are_digits : List ℕ → ℕ → ℕ → Bool
are_digits s at zero = true
are_digits s at (suc n) = both (are_digits s at n) (is_digit (get_or s (at + n) 0))

unfoldable pub number_at : List ℕ → ℕ → ℕ → ℕ
number_at s at zero = 0
number_at s at (suc n) = number_at s at n * 10 + (get_or s (at + n) 0 - 48)

unfoldable pub digits_of : ℕ → ℕ → List ℕ
digits_of zero v = []
digits_of (suc n) v = digits_of n (v / 10) ++ ((48 + v % 10) ∷ [])
