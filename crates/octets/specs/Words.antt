-- Words: numbers of up to 8 octets, stored and loaded in one go. The octets of such a number stand least significant first
-- in a store or a load that the compiler makes one.
--
--   low_octets n x     the last n octets of x, least significant first: a word as it is stored
--   word os            the number of the octets os, least significant first
--   standing n s at    n octets of s from a place on
--   so_far s at i      the number of the first i octets from a place on, in two's complement: of none the sign, in every bit
--   Loads os s w       w is the number of the octets os, which stand in s: as s is octets, w is small
use Rattle.std.specs.Prelude.{◌≡◌, ℕ, zero, suc, ◌+◌, ◌*◌, ◌/◌, ◌%◌, List, [], ◌∷◌, slice_index, take, drop, ℤ}
use Rattle.format.specs.Octets.{Octets, more, sign_from}

-- ---- stored

unfoldable pub low_octets : ℕ → ℕ → List ℕ
low_octets zero x = []
low_octets (suc n) x = (x % 256) ∷ low_octets n (x / 256)

-- ---- loaded

unfoldable pub word : List ℕ → ℕ
word [] = 0
word (o ∷ os) = word os * 256 + o

-- n octets from the i-th behind a place on
abbrev pub behind : ℕ → ℕ → List ℕ → ℕ → List ℕ
behind i zero s at = []
behind i (suc n) s at = slice_index s (at + i) ∷ behind (suc i) n s at

abbrev pub standing : ℕ → List ℕ → ℕ → List ℕ
standing zero s at = []
standing (suc n) s at = slice_index s at ∷ behind 1 n s at

abbrev pub so_far : List ℕ → ℕ → ℕ → ℤ
so_far s at i = more (sign_from (slice_index s at)) (take i (drop at s))

pub record Loads (os s : List ℕ) (w : ℕ) : Type 0 where
  pub number : w ≡ word os
  pub octets : Octets s
