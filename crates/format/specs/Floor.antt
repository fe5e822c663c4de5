-- Floor division: the quotient is rounded down, also below zero, and never toward zero.
--
--   div_f x d         the greatest q with q * d ≤ x, for a d above 0: -1 divided by 256 is -1
--   mod_f x d         what is over, x - q * d: 0 to d - 1
use Rattle.std.specs.Prelude.{ℕ, suc, ◌-◌, ◌/◌, ◌%◌, ℤ, pos, negsuc}

-- 01, Compact: two's complement keeps a number's sign from the first octet on. `negsuc a` is -(a + 1).
abbrev pub div_f : ℤ → ℕ → ℤ
div_f (pos a) d = pos (a / d)
div_f (negsuc a) d = negsuc (a / d)

abbrev pub mod_f : ℤ → ℕ → ℕ
mod_f (pos a) d = a % d
mod_f (negsuc a) d = d - suc (a % d)
