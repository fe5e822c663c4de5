-- What is taken from an image of a frequent length, by its fields: alone, or behind an offset. Assumes nothing.
use mathlib.Core.Path.{◌≡◌, ◌∙◌, ap}
use mathlib.Core.Logic.{⊎_elim}
use mathlib.Core.Bool.{Bool, true, false, not}
use mathlib.Core.List.{List}
use Prim.Native.Nat.{ℕ, ◌+◌, ◌-◌, ◌≤◌}
use native.Mathlib.Omega.{arith}
use lib.IntN.{ℤ, nat_abs}
use lib.Signed.{mag}
use lib.Dec.{leb, ltb, eqb}
use lib.ListN.{length, take, drop, length-drop}
use lib.Seq.{take_all}
use borrow.Author.Tests.{lt-ltb, le-ltb, le-leb}
use Rattle.format.specs.Words.{pick, both, needs, if_any}
use Rattle.format.specs.Values.{Kind, timed, zoned}
use Rattle.format.specs.Octets.{Octets, half, signed_of, fewest_octets}
use Rattle.format.specs.Compact.{padded_to, number_octets}
use Rattle.format.specs.CompactReading.{longest, shortest, longest_plain, carried_in, usual}
use Rattle.format.proofs.Cases.{lt_or_le}
use Rattle.format.proofs.Signed.{drop_octets}
use Rattle.compact.specs.declared.reading.Taken.{Taken}
use Rattle.std.specs.Prelude.{Some}
use Rattle.compact.specs.Meaning.{offset_at, Sees}
use Rattle.compact.proofs.Shortest.{padded_shortest, beyond_shortest}
use Rattle.compact.proofs.Room.{some_octets}

-- two octets of a number, with an offset where it is carried, are enough
enough : (z t c : Bool) (n : ℕ) → 2 ≤ n → pick (both z (not t)) 4 1 ≤ if_any (both z (needs t c)) 2 + n
enough true true true n h = omega arith
enough true true false n h = omega arith
enough true false c n h = omega arith
enough false t c n h = omega arith

-- ---- with an offset in front or none

module _ (k : Kind) (front : Bool) (n : ℕ) (s : List ℕ) (o : Octets s) (l : length s ≡ if_any front 2 + n) (c : carried_in k (length s) ≡ front) where
  abbrev behind : List ℕ
  behind = drop (if_any front 2) s

  behind-length : length behind ≡ n
  behind-length = rw length-drop (omega arith)

  -- no more octets than the padding, or the number needs them
  needed : (x : ℤ) → x ≡ signed_of behind → needs (ltb (padded_to k front) n) (leb (half (n - 1)) (mag x)) ≡ leb n (number_octets k front x)
  unfolding number_octets
  needed x e =
      ⊎_elim (λ h.
      rw (lt-ltb (padded_to k front) n h, e, ← behind-length) (beyond_shortest behind (padded_to k front) (drop_octets (if_any front 2) s o) (some_octets k front) (omega (arith, behind-length))))
      (λ h. rw (le-ltb (padded_to k front) n h) (padded_shortest n (padded_to k front) (fewest_octets x) h))
      (lt_or_le (padded_to k front) n)

  has-length : 2 ≤ n → length s ≤ longest k → both (leb (shortest k) (length s)) (leb (length s) (longest k)) ≡ true
  unfolding carried_in shortest
  has-length some most =
      let h : shortest k ≤ length s = rw (l, ← c) (enough (zoned k) (timed k) (ltb (longest_plain k) (length s)) n some) in
      rw (le-leb (shortest k) (length s) h, le-leb (length s) (longest k) most)

  pub sees : 2 ≤ n → length s ≤ longest k → (t : Taken) → t.offset ≡ offset_at front s → t.number ≡ signed_of (take n behind)
      → t.usual ≡ both (needs (ltb (padded_to k front) n) (leb (half (n - 1)) (mag t.number))) (needs (both front (timed k)) (not (eqb (nat_abs (signed_of (take (if_any front 2) s))) 0)))
      → Sees k s (Some t)
  unfolding usual
  sees some most t f x u =
      let e : t.number ≡ signed_of behind = x ∙ ap signed_of (take_all n behind (omega (arith, behind-length))) in (
        has-length some most,
        record {
          offset = rw c f;
          number = rw c e;
          usual = rw (c, behind-length, ← needed t.number e) u;
        },
      )
