-- Laws of dates: what `is_day` tells, and that `day_number` and `day_of` are inverse. Assumes nothing.
use mathlib.Core.Path.{◌≡◌, refl}
use mathlib.Core.Logic.{⊎_elim}
use mathlib.Core.Bool.{Bool, true, false}
use Prim.Native.Nat.{ℕ, suc, ◌+◌, ◌-◌, ◌<◌, ◌≤◌}
use native.Mathlib.Nat.{zero-add, add_assoc}
use native.Mathlib.Omega.{arith}
use lib.Dec.{T, leb, leb→le}
use lib.ListN.{get_or-eq_default}
use borrow.Author.Tests.{le-leb, leb-true}
use Rattle.format.specs.Words.{pick}
use Rattle.format.specs.Walk.{sum_from, place}
use Rattle.format.specs.Calendar.{Day, leap, year_length, month_lengths, month_length, is_day, day_number, day_of}
use Rattle.format.proofs.Cases.{both_true, lt_or_le}
use Rattle.format.proofs.Table.{at}
use Rattle.format.proofs.Walk.{sum_last, sum_mono, place_at, placed}
use Rattle.format.proofs.Years.{days}

-- no month past the twelfth
pub no_month : (l : Bool) (k : ℕ) → 12 ≤ k → month_length l k ≡ 0
unfolding month_length
no_month l k h = get_or-eq_default (month_lengths l) 0 h

-- no month has more than 31 days
pub short_month : (l : Bool) (k : ℕ) → month_length l k ≤ 31
short_month l k = ⊎_elim (λ t. leb→le _ _ (tested l t)) (λ t. omega (arith, no_month l k t)) (lt_or_le k 12)
  where
    tested : (l : Bool) → k < 12 → T (leb (month_length l k) 31)
    tested true t = unfold month_length in at (λ k x. leb x 31) (month_lengths true) tt k t
    tested false t = unfold month_length in at (λ k x. leb x 31) (month_lengths false) tt k t

-- the months fill the year
pub months_year : (k : ℕ) → sum_from (month_length (leap (k + 1))) 0 12 ≡ year_length k
unfolding year_length
months_year k = by (leap (k + 1))
  where
    by : (l : Bool) → sum_from (month_length l) 0 12 ≡ pick l 366 365
    by true = unfold sum_from month_length in refl
    by false = unfold sum_from month_length in refl

-- what `is_day` says, part by part
pub record Parts (d : Day) : Type 0 where
  pub year_low : 1 ≤ d.year
  pub year_high : d.year ≤ 9999
  pub month_low : 1 ≤ d.month
  pub month_high : d.month ≤ 12
  pub day_low : 1 ≤ d.day
  pub day_high : d.day ≤ month_length (leap d.year) (d.month - 1)

pub parts : (d : Day) → is_day d ≡ true → Parts d
unfolding is_day
parts d e =
    let a = both_true _ _ e in
    let b = both_true _ _ a.1 in
    let m = both_true _ _ b.1 in
    let n = both_true _ _ m.1 in
    let lo : 1 ≤ d.day = leb-true _ _ n.0 in
    let hi : d.day ≤ month_length (leap d.year) (d.month - 1) = leb-true _ _ n.1 in
    record {
      year_low = leb-true _ _ a.0;
      year_high = leb-true _ _ b.0;
      month_low = leb-true _ _ m.0;
      month_high = ⊎_elim (λ t. omega arith) (λ t. absurd (never t lo hi)) (lt_or_le (d.month - 1) 12);
      day_low = lo;
      day_high = hi;
    }
  where
    never : 12 ≤ d.month - 1 → 1 ≤ d.day → d.day ≤ month_length (leap d.year) (d.month - 1) → ⊥
    never t lo hi = omega (arith, no_month (leap d.year) (d.month - 1) t)

pub is_date : (d : Day) → 1 ≤ d.year → d.year ≤ 9999 → 1 ≤ d.month → 1 ≤ d.day → d.day ≤ month_length (leap d.year) (d.month - 1) → is_day d ≡ true
unfolding is_day
is_date d a b m lo hi = rw (le-leb _ _ a, le-leb _ _ b, le-leb _ _ m, le-leb _ _ lo, le-leb _ _ hi)

-- the parts of a date's day number lie within their month and year
pub in_year : (d : Day) → Parts d
    → sum_from (month_length (leap d.year)) 0 (d.month - 1) + (d.day - 1) < year_length (d.year - 1)
in_year d p =
    let l = month_length (leap d.year) in
    let m = d.month - 1 in
    let e : sum_from l 0 (suc m) ≡ sum_from l 0 m + l m = rw (sum_last, zero-add) in
    let y : d.year - 1 + 1 ≡ d.year = omega (arith, p.year_low) in
    let z : sum_from l 0 12 ≡ year_length (d.year - 1) = rw y at (months_year (d.year - 1)) in
    omega (arith, sum_mono l 0 (suc m) 12 (omega (arith, p.month_low, p.month_high)))

pub number_small : (d : Day) → is_day d ≡ true → day_number d < 3652059
unfolding day_number
number_small d e =
    let p = parts d e in
    let s : sum_from year_length 0 (suc (d.year - 1)) ≡ sum_from year_length 0 (d.year - 1) + year_length (d.year - 1) = rw (sum_last, zero-add) in
    omega (arith, days, in_year d p, sum_mono year_length 0 (suc (d.year - 1)) 9999 (omega (arith, p.year_high, p.year_low)))

-- a date's day number, and back
pub date_number : (d : Day) → is_day d ≡ true → day_of (day_number d) ≡ d
unfolding day_of day_number
date_number d e =
    let p = parts d e in
    let M = d.month - 1 in
    let D = d.day - 1 in
    let y : d.year - 1 + 1 ≡ d.year = omega (arith, p.year_low) in
    let m : M + 1 ≡ d.month = omega (arith, p.month_low) in
    let t : D + 1 ≡ d.day = omega (arith, p.day_low) in
    let l = month_length (leap d.year) in
    rw (
      add_assoc,
      place_at year_length 9998 (d.year - 1) (sum_from l 0 M + D) (omega (arith, p.year_high)) (in_year d p),
      y,
      place_at l 11 M D (omega (arith, p.month_high)) (omega (arith, p.day_low, p.day_high)),
      m,
      t,
    ) refl

-- a day number's date, and back
pub number_date : (n : ℕ) → n < 3652059 → (is_day (day_of n) ≡ true) × (day_number (day_of n) ≡ n)
unfolding day_of day_number
number_date n h =
    let P = place year_length 9998 0 n in
    let p = placed year_length 9998 n (rw days h) in
    let l = month_length (leap (P.index + 1)) in
    let M = place l 11 0 P.rest in
    let q = placed l 11 P.rest (rw (months_year P.index) p.short) in
    let y : P.index + 1 - 1 ≡ P.index = omega arith in
    let m : M.index + 1 - 1 ≡ M.index = omega arith in
    let t : M.rest + 1 - 1 ≡ M.rest = omega arith in (
      is_date (day_of n) (omega arith) (omega (arith, p.within)) (omega arith) (omega arith) (rw m (omega (arith, q.short))),
      rw (y, m, t, add_assoc, q.total) p.total,
    )
