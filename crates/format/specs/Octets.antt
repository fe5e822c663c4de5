-- Numbers in octets, most significant first: unsigned, and two's complement as X.690 has it for BER integers.
--
--   Octets s              every element of s is an octet, 0 to 255
--   unsigned_octets n x   the last n octets of x, unsigned
--   unsigned_at s at n    the unsigned number of the n octets of s from place `at` on
--   signed_octets n x     the last n octets of x, in two's complement: more of them than x needs repeat its sign
--   signed_of s           the number that the octets s stand for, in two's complement: its sign is the first bit
--   half n                n octets, one or more, hold the numbers from -half n to half n - 1
--   fewest_octets x       the fewest octets that hold x, at least one
--   tight s               s has no redundant sign octet
use Rattle.std.specs.Prelude.{ℕ, zero, suc, ◌+◌, ◌-◌, ◌*◌, ◌/◌, ◌%◌, ◌^◌, ◌<◌, Bool, true, false, not, cond, List, [], ◌∷◌, ◌++◌, ℤ, pos, negsuc, ◌+ℤ◌, ◌*ℤ◌, ltb, eqb, get_or}
use Rattle.std.specs.Int.Signed.{mag}
use Rattle.format.specs.Words.{both}
use Rattle.format.specs.Floor.{div_f, mod_f}

abbrev pub Octets : List ℕ → Type 0
Octets s = (i : ℕ) → get_or s i 0 < 256

-- ---- unsigned (01, Extended: unsigned, big-endian)

unfoldable pub unsigned_octets : ℕ → ℕ → List ℕ
unsigned_octets zero x = []
unsigned_octets (suc n) x = unsigned_octets n (x / 256) ++ ((x % 256) ∷ [])

unfoldable pub unsigned_at : List ℕ → ℕ → ℕ → ℕ
unsigned_at s at zero = 0
unsigned_at s at (suc n) = unsigned_at s at n * 256 + get_or s (at + n) 0

-- ---- two's complement (01, Compact; X.690 8.3.3)

-- the octet of weight 256 ^ k is x / 256 ^ k, rounded down, modulo 256
unfoldable pub signed_octets : ℕ → ℤ → List ℕ
signed_octets zero x = []
signed_octets (suc n) x = mod_f (div_f x (256 ^ n)) 256 ∷ signed_octets n x

-- z with one more octet at its end, and with several
abbrev pub push : ℤ → ℕ → ℤ
push z b = z *ℤ pos 256 +ℤ pos b

unfoldable pub more : ℤ → List ℕ → ℤ
more z [] = z
more z (b ∷ bs) = more (push z b) bs

-- what stands before a first octet: 0, or -1 where its first bit is set
abbrev pub sign_from : ℕ → ℤ
sign_from b = cond (ltb b 128) (pos 0) (negsuc 0)

-- 01, Compact: every signed number keeps its sign from the first octet on
unfoldable pub signed_of : List ℕ → ℤ
unfolding more
signed_of [] = pos 0
signed_of (b ∷ bs) = more (sign_from b) (b ∷ bs)

-- ---- the fewest octets (01, Compact; X.690 8.3.2)

-- `mag x`, which is n of n and of -(n + 1), is below `half n` exactly where n octets hold x
abbrev pub half : ℕ → ℕ
half n = 2 ^ (8 * n - 1)

-- the first of n, n + 1, .. that holds x; f more are tried after n
unfoldable pub first_from : ℕ → ℕ → ℤ → ℕ
first_from zero n x = n
first_from (suc f) n x = let later = first_from f (suc n) x in cond (ltb (mag x) (half n)) n later

unfoldable pub fewest_octets : ℤ → ℕ
unfolding first_from
fewest_octets x = first_from (mag x) 1 x

-- X.690 8.3.2 in its own words: where there are two octets or more, the bits of the first and the first bit of the second
-- are not all zero and not all one. `first_nine` is these nine bits as a number. A reader's own test is `usual`, by the fewest octets; that
-- the two agree is claimed (`TightIsFewest`).
abbrev pub first_nine : ℕ → ℕ → ℕ
first_nine b c = b * 2 + c / 128

abbrev pub tight : List ℕ → Bool
tight [] = false
tight (b ∷ []) = true
tight (b ∷ c ∷ bs) = both (not (eqb (first_nine b c) 0)) (not (eqb (first_nine b c) 511))
