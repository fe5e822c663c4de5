-- A word of eight octets taken apart: the numbers of its first four, the next two and the last two octets. Assumes nothing.
use mathlib.Core.Path.{◌≡◌}
use mathlib.Core.List.{List}
use Prim.Native.Nat.{ℕ, ◌+◌, ◌*◌, ◌/◌, ◌%◌, ◌<◌}
use native.Mathlib.Omega.{arith}
use lib.ListN.{get_or}
use Rattle.format.specs.Octets.{Octets, unsigned_at}

-- ---- over plain numbers

word : ℕ → ℕ → ℕ → ℕ
word w l c = (w * 65536 + l) * 65536 + c

first_of : (w l c : ℕ) → l < 65536 → c < 65536 → word w l c / 4294967296 ≡ w
unfolding word
first_of w l c p q = omega arith

next_of : (w l c : ℕ) → l < 65536 → c < 65536 → word w l c / 65536 % 65536 ≡ l
unfolding word
next_of w l c p q = omega arith

last_of_lem : (w l c : ℕ) → l < 65536 → c < 65536 → word w l c % 65536 ≡ c
unfolding word
last_of_lem w l c p q = omega arith

-- ---- in a slice

two_is : (s : List ℕ) (at : ℕ) → unsigned_at s at 2 ≡ get_or s at 0 * 256 + get_or s (at + 1) 0
unfolding unsigned_at
two_is s at = let e : at + 0 ≡ at = omega arith in rw e (omega arith)

eight_is : (s : List ℕ) (at : ℕ) → unsigned_at s at 8 ≡ word (unsigned_at s at 4) (unsigned_at s (at + 4) 2) (unsigned_at s (at + 6) 2)
unfolding unsigned_at word
eight_is s at =
    let a : at + 4 + 1 ≡ at + 5 = omega arith in
    let b : at + 6 + 1 ≡ at + 7 = omega arith in
    rw (two_is s (at + 4), two_is s (at + 6), a, b) (omega arith)

two_small : (s : List ℕ) (at : ℕ) → Octets s → unsigned_at s at 2 < 65536
two_small s at o = rw (two_is s at) (omega (arith, o at, o (at + 1)))

module _ (s : List ℕ) (at : ℕ) (o : Octets s) where
  pub word_first : unsigned_at s at 8 / 4294967296 ≡ unsigned_at s at 4
  word_first = rw (eight_is s at) (first_of (unsigned_at s at 4) (unsigned_at s (at + 4) 2) (unsigned_at s (at + 6) 2) (two_small s (at + 4) o) (two_small s (at + 6) o))

  pub word_next : unsigned_at s at 8 / 65536 % 65536 ≡ unsigned_at s (at + 4) 2
  word_next = rw (eight_is s at) (next_of (unsigned_at s at 4) (unsigned_at s (at + 4) 2) (unsigned_at s (at + 6) 2) (two_small s (at + 4) o) (two_small s (at + 6) o))

  pub word_last : unsigned_at s at 8 % 65536 ≡ unsigned_at s (at + 6) 2
  word_last = rw (eight_is s at) (last_of_lem (unsigned_at s at 4) (unsigned_at s (at + 4) 2) (unsigned_at s (at + 6) 2) (two_small s (at + 4) o) (two_small s (at + 6) o))
