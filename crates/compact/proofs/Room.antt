-- Where a length is one that the kind's images have, an offset in front leaves octets for the number, and no more than eight.
-- Assumes nothing.
use mathlib.Core.Path.{◌≡◌}
use mathlib.Core.Logic.{⊎_elim}
use mathlib.Core.Bool.{Bool, true, false}
use Prim.Native.Nat.{ℕ, ◌-◌, ◌<◌, ◌≤◌}
use native.Mathlib.Omega.{arith}
use lib.Dec.{leb}
use borrow.Author.Tests.{leb-true, lt-ltb}
use Rattle.format.specs.Words.{pick, both, if_any}
use Rattle.format.specs.Values.{Kind, Date, DateTz, Time, TimeTz, Datetime, DatetimeTz, dated, timed}
use Rattle.format.specs.Compact.{padded_to}
use Rattle.format.specs.CompactReading.{longest, shortest, longest_plain, carried_in}
use Rattle.format.proofs.Cases.{both_true, lt_or_le}
use Rattle.format.proofs.Compact.{behind}

pub some_octets : (k : Kind) (c : Bool) → 1 ≤ padded_to k c
unfolding padded_to
some_octets k c = go c (timed k) (dated k)
  where
    go : (c t d : Bool) → 1 ≤ pick c (pick t (pick d 5 3) 2) 1
    go true true true = omega arith
    go true true false = omega arith
    go true false d = omega arith
    go false t d = omega arith

-- only a DatetimeTz has more than eight octets, and then its offset is two of them
at_most_eight : (k : Kind) (n : ℕ) → n ≤ longest k → n - if_any (carried_in k n) 2 ≤ 8
unfolding carried_in longest_plain
at_most_eight Date n h = omega arith
at_most_eight DateTz n h = omega arith
at_most_eight Time n h = omega arith
at_most_eight TimeTz n h = omega arith
at_most_eight Datetime n h = omega arith
at_most_eight DatetimeTz n h = ⊎_elim (λ t. rw (lt-ltb 6 n t) (omega arith)) (λ t. omega arith) (lt_or_le 6 n)

pub room : (k : Kind) (n : ℕ) → both (leb (shortest k) n) (leb n (longest k)) ≡ true
    → (if_any (carried_in k n) 2 < n) × (n - if_any (carried_in k n) 2 ≤ 8)
room k n e =
    let b = both_true (leb (shortest k) n) (leb n (longest k)) e in
    (omega (arith, behind k n (leb-true _ _ b.0), some_octets k (carried_in k n)), at_most_eight k n (leb-true _ _ b.1))
