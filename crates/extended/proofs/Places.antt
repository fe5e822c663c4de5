-- Where the parts stand in the octets, as words are loaded: an octet and four, or eight for two parts. Assumes nothing.
use mathlib.Core.Path.{◌≡◌, ap}
use mathlib.Core.Logic.{⊎_elim}
use mathlib.Core.List.{List}
use Prim.Native.Nat.{ℕ, ◌+◌, ◌*◌, ◌/◌, ◌%◌, ◌<◌}
use native.Mathlib.Nat.{add_assoc}
use native.Mathlib.Omega.{arith}
use lib.Dec.{eqb}
use lib.ListN.{get_or}
use mir.Syntax.{w8}
use mir.Val.{Fits}
use borrow.Author.Tests.{eq-eqb, ne_eqb}
use Rattle.format.specs.Octets.{Octets, unsigned_at}
use Rattle.format.specs.Reading.{first_bits}
use Rattle.format.proofs.Cases.{eq_or_ne}
use Rattle.format.proofs.Unsigned.{unsigned_small}

-- what the type of a slice says of its elements
pub octets : (s : List ℕ) → ((i : ℕ) → Fits w8 (get_or s i 0)) → Octets s
octets s f i = omega (arith, f i)

module _ (s : List ℕ) (o : Octets s) where
  -- ---- the header

  pub header_is : get_or s 0 0 * 256 + get_or s 1 0 ≡ unsigned_at s 0 2
  unfolding unsigned_at
  header_is = omega arith

  -- both octets are those of a plain header exactly where its twelve bits are zero
  pub plain_octets : first_bits s ≡ 8 → eqb (get_or s 0 0 + get_or s 1 0 * 256) 128 ≡ eqb (unsigned_at s 0 2 % 4096) 0
  unfolding first_bits
  plain_octets f = rw (← header_is) (go (get_or s 0 0) (get_or s 1 0) f (o 0) (o 1))
    where
      zero_bits : (a b : ℕ) → a / 16 ≡ 8 → a < 256 → b < 256 → a + b * 256 ≡ 128 → (a * 256 + b) % 4096 ≡ 0
      zero_bits a b f ha hb e =
          let p : b ≡ 0 = omega arith in
          let q : a ≡ 128 = omega arith in
          rw (p, q)

      both-octets : (a b : ℕ) → a / 16 ≡ 8 → a < 256 → b < 256 → (a * 256 + b) % 4096 ≡ 0 → a + b * 256 ≡ 128
      both-octets a b f ha hb e = omega arith

      go : (a b : ℕ) → a / 16 ≡ 8 → a < 256 → b < 256 → eqb (a + b * 256) 128 ≡ eqb ((a * 256 + b) % 4096) 0
      go a b f ha hb =
          ⊎_elim
          (λ e. rw (eq-eqb (a + b * 256) 128 e, eq-eqb ((a * 256 + b) % 4096) 0 (zero_bits a b f ha hb e)))
          (λ n. rw (ne_eqb (a + b * 256) 128 n, ne_eqb ((a * 256 + b) % 4096) 0 (λ e. n (both-octets a b f ha hb e))))
          (eq_or_ne (a + b * 256) 128)

  -- ---- the microseconds: an octet and four

  pub five : (i : ℕ) → get_or s i 0 * 4294967296 + unsigned_at s (i + 1) 4 ≡ unsigned_at s i 5
  unfolding unsigned_at
  five i =
      let at : ℕ → ℕ = λ k. get_or s k 0 in
      let first : i + 0 ≡ i = omega arith in
      omega (arith, ap at first, ap at (add_assoc i 1 0), ap at (add_assoc i 1 1), ap at (add_assoc i 1 2), ap at (add_assoc i 1 3))

  -- ---- the day number: the first three of eight octets

  time_small : unsigned_at s 5 5 < 1099511627776
  time_small = unsigned_small s 5 5 o

  eight : unsigned_at s 2 8 ≡ unsigned_at s 2 3 * 1099511627776 + unsigned_at s 5 5
  unfolding unsigned_at
  eight = omega arith

  pub day_above : unsigned_at s 2 8 / 1099511627776 ≡ unsigned_at s 2 3
  day_above = omega (arith, eight, time_small)
