-- Years from March, as the code goes through them: their starts by 01's formula; and the year of a day, with the day in it, by the centuries before it and
-- one product with a rounded constant. Assumes nothing.
use mathlib.Core.Path.{◌≡◌, refl, sym, ◌∙◌, ap}
use mathlib.Core.Logic.{⊎_elim}
use mathlib.Core.Bool.{Bool, true, false, false≢true}
use Prim.Native.Nat.{ℕ, suc, ◌+◌, ◌-◌, ◌*◌, ◌/◌, ◌%◌, ◌<◌, ◌≤◌}
use native.Mathlib.Nat.{zero-add}
use native.Mathlib.Omega.{arith}
use borrow.Author.Tests.{eq-eqb, lt-ltb, le-ltb}
use Rattle.format.specs.Words.{pick}
use Rattle.format.specs.Walk.{sum_from}
use Rattle.format.specs.Calendar.{last_year, last_number, leap, year_length, year_start}
use Rattle.format.proofs.Cases.{eq_or_ne, lt_or_le}
use Rattle.format.proofs.Walk.{sum_last}
use Rattle.format.proofs.Years.{years, leap_century, leap_other}
use Rattle.calendar.specs.Steps.{to_january, march_year, day_count}
use Rattle.calendar.specs.declared.years.Elapsed.{Elapsed}

-- ---- years by their number

-- the formula, and a day for every fourth century
pub by_formula : (k : ℕ) → year_start k + k / 100 / 4 ≡ sum_from year_length 0 k
unfolding year_start
by_formula k = sums k (k / 4) (k / 100) (k / 400) _ (omega arith) (omega arith) (years k)
  where
    sums : (k a b d s : ℕ) → b ≤ k → b / 4 ≡ d → s + b ≡ 365 * k + a + d → 365 * k + a - b + b / 4 ≡ s
    sums k a b d s l e h = omega arith

-- a year is 365 days, and one more in a leap year
abbrev pub extra : Bool → ℕ
extra l = pick l 1 0

pub long : (k : ℕ) → year_length k ≡ 365 + extra (leap (k + 1))
unfolding year_length
long k = by (leap (k + 1))
  where
    by : (l : Bool) → pick l 366 365 ≡ 365 + extra l
    by true = refl
    by false = refl

pub short_year : (k : ℕ) → year_length k ≤ 366
short_year k = rw (long k) (by (leap (k + 1)))
  where
    by : (l : Bool) → 365 + extra l ≤ 366
    by true = omega arith
    by false = omega arith

pub next_year : (k : ℕ) → sum_from year_length 0 (suc k) ≡ sum_from year_length 0 k + 365 + extra (leap (k + 1))
next_year k =
    let e : sum_from year_length 0 (suc k) ≡ sum_from year_length 0 k + year_length k = rw (sum_last, zero-add) in
    omega (arith, long k)

pub year_high : (y m : ℕ) → y ≤ last_year → march_year y m ≤ last_year
unfolding march_year
year_high y m h = ⊎_elim (λ t. rw (lt-ltb m 3 t) (omega arith)) (λ t. rw (le-ltb m 3 t) h) (lt_or_le m 3)

-- ---- years by a quotient: n days are c stretches of L days and a quarter, and r days over

record Split (L n c r : ℕ) : Type 0 where
  whole : n ≡ L * c + c / 4 + r
  most : r ≤ L
  -- the day that four quarters make comes last, in the fourth stretch
  last : r ≡ L → c % 4 ≡ 3

split : (L n c m : ℕ) → 4 * n + 3 ≡ 4 * (L * c) + c + m → m ≤ 4 * L → Split L n c (m / 4)
split L n c m e h =
    let w : n ≡ L * c + c / 4 + m / 4 = omega arith in
    record { whole = w; most = omega arith; last = λ t. (let a : m ≡ 4 * L = omega arith in omega (arith, a, w)) }

-- with a day more for each century but every fourth, a year from March is such a stretch: its day is the last one only in a leap year
record Evened (n c y r : ℕ) : Type 0 where
  century : y / 100 ≡ c
  whole : n + c ≡ 365 * y + y / 4 + r + c / 4
  most : r ≤ 365
  last : r ≡ 365 → leap (y + 1) ≡ true

leap_last : (y c : ℕ) → y / 100 ≡ c → y % 4 ≡ 3 → (y % 100 ≡ 99 → c % 4 ≡ 3) → leap (y + 1) ≡ true
leap_last y c h a b =
    ⊎_elim
    (λ e. leap_century (y + 1) (omega arith) ∙ eq-eqb _ _ (fourth e (b e)))
    (λ e. leap_other (y + 1) (λ t. e (omega arith)) ∙ eq-eqb _ _ (let z : (y + 1) % 4 ≡ 0 = omega arith in z))
    (eq_or_ne (y % 100) 99)
  where
    fourth : y % 100 ≡ 99 → c % 4 ≡ 3 → (y + 1) % 400 ≡ 0
    fourth e t =
        let m : y + 1 ≡ 400 * (c / 4 + 1) = omega arith in
        ap (λ (k : ℕ). k % 400) m ∙ times (c / 4 + 1)
      where
        times : (k : ℕ) → 400 * k % 400 ≡ 0
        times k = omega arith

evened : (n c R y r : ℕ) → Split 36524 n c R → Split 365 (n + c - c / 4) y r → Evened n c y r
evened n c R y r f g =
    let h : y / 100 ≡ c = omega (arith, f.whole, f.most, g.whole, g.most) in
    record {
      century = h;
      whole = omega (arith, g.whole);
      most = g.most;
      last = λ t. leap_last y c h (g.last t) (λ e. f.last (omega (arith, f.whole, g.whole, t, e, h)));
    }

-- so it is the year with so many days before it, and the day in it
in_year : (n c y r : ℕ) → Evened n c y r → (r < year_length y) × (sum_from year_length 0 y + r ≡ n)
in_year n c y r e =
    (short (leap (y + 1)) refl (long y), omega (arith, years y, e.whole, (let q : c / 4 ≡ y / 400 = omega (arith, e.century) in q), e.century))
  where
    short : (l : Bool) → leap (y + 1) ≡ l → year_length y ≡ 365 + extra l → r < year_length y
    short true t z = omega (arith, e.most)
    short false t z = ⊎_elim (λ w. absurd (false≢true (sym t ∙ e.last w))) (λ w. omega (arith, e.most)) (eq_or_ne r 365)

-- both quotients of d by one product: 1461 * 2939745 is 2^32 and 149, and 149 a year stay less than one 2939745 for 19,729 years
product : (d y m : ℕ) → 4 * d + 3 ≡ 1461 * y + m → m < 1461 → y < 19000
    → ((d * 11758980 + 8819235) / 4294967296 ≡ y) × ((d * 11758980 + 8819235) % 4294967296 / 11758980 ≡ m / 4)
product d y m e h w =
    let p : (d * 11758980 + 8819235) % 4294967296 ≡ 149 * y + 2939745 * m = omega arith in
    (omega arith, ap (λ (k : ℕ). k / 11758980) p ∙ share (m / 4) (m % 4) (omega arith) (omega arith))
  where
    share : (a k : ℕ) → m ≡ 4 * a + k → k < 4 → (149 * y + 2939745 * m) / 11758980 ≡ a
    share a k t z = omega arith

-- at the code's numbers
pub elapsed : (n c : ℕ) (e : Elapsed) → n ≤ last_number + to_january → c ≡ (4 * n + 3) / 146097
    → e.years ≡ ((n + c - c / 4) * 11758980 + 8819235) / 4294967296 → e.days ≡ ((n + c - c / 4) * 11758980 + 8819235) % 4294967296 / 11758980
    → (e.days < year_length e.years) × (day_count e ≡ n)
elapsed n c e h t a b =
    let d = n + c - c / 4 in
    let y = (4 * d + 3) / 1461 in
    let m = (4 * d + 3) % 1461 in
    let q = product d y m (omega arith) (omega arith) (omega arith) in
    let f = split 36524 n c ((4 * n + 3) % 146097) (omega arith) (omega arith) in
    let g = split 365 d y m (omega arith) (omega arith) in
    rw (a, b, q.0, q.1) (in_year n c y (m / 4) (evened n c _ y (m / 4) f g))
