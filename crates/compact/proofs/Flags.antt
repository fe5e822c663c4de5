-- A kind's number since 2020-01-01, over the kind's flags: where it is within its limits, it is small, counted from the least. Assumes nothing.
use mathlib.Core.Path.{◌≡◌, refl}
use mathlib.Core.Bool.{Bool, true, false}
use Prim.Native.Nat.{ℕ, zero, suc, ◌+◌, ◌*◌, ◌/◌, ◌^◌, ◌<◌, ◌≤◌}
use native.Mathlib.Omega.{arith}
use lib.IntN.{ℤ, pos, neg_ℤ, ◌-ℤ◌}
use lib.Dec.{leb}
use borrow.Author.Tests.{leb-true}
use Rattle.format.specs.Words.{pick, if_any}
use Rattle.format.specs.Values.{Kind, dated, timed}
use Rattle.format.specs.Compact.{millis_per_day, epoch, per_day, start, greatest}
use Rattle.format.specs.CompactReading.{not_before, counted, number_in_range}
use Rattle.format.proofs.Cases.{both_true}
use Rattle.compact.proofs.Since.{add_since}

pub units_timed : (k : Kind) → timed k ≡ true → per_day k ≡ millis_per_day
unfolding per_day
units_timed k t = rw t

-- the last day is 9999-12-31
last_day : (t c : Bool) (n : ℕ) → n ≤ epoch * pick t millis_per_day 1 + pick t (pick c 251824463999999 140737488355327) 2914634 → n / pick t millis_per_day 1 < 3652059
last_day true true n h = omega arith
last_day true false n h = omega arith
last_day false c n h = omega arith

-- no number of any kind is beyond 63 bits
small : (k : Kind) (c : Bool) → start k + greatest k c < 2 ^ 63
unfolding start greatest per_day
small k c = go (dated k) (timed k) c
  where
    go : (d t c : Bool) → if_any d (epoch * pick t millis_per_day 1) + pick d (pick t (pick c 251824463999999 140737488355327) 2914634) millis_per_day < 2 ^ 63
    go true true true = omega arith
    go true true false = omega arith
    go true false c = omega arith
    go false t c = omega arith

neg_neg : (n : ℕ) → neg_ℤ (neg_ℤ (pos n)) ≡ pos n
neg_neg zero = refl
neg_neg (suc n) = refl

module _ (k : Kind) (c : Bool) (x : ℤ) (q : number_in_range k c x ≡ true) where
  limits : (not_before (start k) x ≡ true) × (leb (counted (start k) x) (start k + greatest k c) ≡ true)
  unfolding number_in_range
  limits = both_true (not_before (start k) x) (leb (counted (start k) x) (start k + greatest k c)) q

  limit : counted (start k) x ≤ start k + greatest k c
  limit = leb-true _ _ limits.1

  -- counted from the least
  pub count_made : x -ℤ neg_ℤ (pos (start k)) ≡ pos (counted (start k) x)
  count_made = rw (neg_neg (start k)) (add_since (start k) x limits.0)

  pub count_small : counted (start k) x < 2 ^ 63
  count_small = omega (arith, limit, small k c)

  -- a date, and a time with it or none
  module _ (d : dated k ≡ true) where
    start-days : start k ≡ epoch * per_day k
    unfolding start
    start-days = rw d

    greatest-days : greatest k c ≡ pick (timed k) (pick c 251824463999999 140737488355327) 2914634
    unfolding greatest
    greatest-days = rw d

    pub day_small : counted (start k) x / per_day k < 3652059
    unfolding per_day
    day_small = last_day (timed k) c (counted (start k) x) (omega (arith, limit, start-days, greatest-days))

  -- a time alone
  module _ (d : dated k ≡ false) where
    start_none : start k ≡ 0
    unfolding start
    start_none = rw d

    pub time_small : counted (start k) x ≤ millis_per_day
    time_small = omega (arith, limit, start_none, none)
      where
        none : greatest k c ≡ millis_per_day
        none = unfold greatest in rw d
