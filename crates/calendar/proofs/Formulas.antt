-- The months by formulas: each is the calendar's, shown by one test that antt computes, for a common year and for a leap year,
-- at all 12 months or at all days of the year. With them, a date's day number and the date of a day number by the year from March. Assumes nothing.
use mathlib.Core.Path.{◌≡◌, refl, sym, ◌∙◌, ap}
use mathlib.Core.Logic.{⊎_elim}
use mathlib.Core.Bool.{Bool, true, false}
use Prim.Native.Nat.{ℕ, suc, ◌+◌, ◌-◌, ◌*◌, ◌/◌, ◌%◌, ◌<◌, ◌≤◌}
use native.Mathlib.Omega.{arith}
use lib.Dec.{T, leb, ltb, eqb, eqb→eq, leb→le}
use borrow.Author.Tests.{lt-ltb, le-ltb, leb-true, eqb-true}
use lib.ListN.{replicate}
use Rattle.format.specs.Words.{pick, both}
use Rattle.format.specs.Walk.{sum_from}
use Rattle.format.specs.Calendar.{Day, last_year, last_number, leap, year_length, month_length, is_day, day_number, day_of}
use Rattle.format.proofs.Cases.{lt_or_le, both_true}
use Rattle.format.proofs.Table.{every, below}
use Rattle.format.proofs.Dates.{Parts, parts, is_date, date_number}
use Rattle.format.proofs.Years.{years}
use Rattle.calendar.specs.Steps.{to_january, march_year, march_days}
use Rattle.calendar.proofs.March.{extra, long, next_year}

-- ---- how long a month is

-- month m from 1
abbrev length_by : Bool → ℕ → ℕ
length_by l m = pick (eqb m 2) (pick l 29 28) (30 + (m + m / 8) % 2)

-- what holds of the month after each k below 12 holds of each month
months : (g h : ℕ → ℕ) → T (every (λ k x. eqb (g (k + 1)) (h (k + 1))) 0 (replicate 12 0)) → (m : ℕ) → 1 ≤ m → m ≤ 12 → g m ≡ h m
months g h t m a b =
    let e : m - 1 + 1 ≡ m = omega arith in
    let k : g (m - 1 + 1) ≡ h (m - 1 + 1) = eqb→eq _ _ (below (λ k. eqb (g (k + 1)) (h (k + 1))) 12 t (m - 1) (omega arith)) in
    rw e at k

pub month_length_lem : (l : Bool) (m : ℕ) → 1 ≤ m → m ≤ 12 → length_by l m ≡ month_length l (m - 1)
unfolding month_length
month_length_lem true = months (length_by true) (λ m. month_length true (m - 1)) tt
month_length_lem false = months (length_by false) (λ m. month_length false (m - 1)) tt

-- every month has 28 days
pub month_long : (l : Bool) (m : ℕ) → 1 ≤ m → m ≤ 12 → 28 ≤ month_length l (m - 1)
unfolding month_length
month_long true m a b = leb→le _ _ (below (λ k. leb 28 (month_length true k)) 12 tt (m - 1) (omega arith))
month_long false m a b = leb→le _ _ (below (λ k. leb 28 (month_length false k)) 12 tt (m - 1) (omega arith))

-- ---- a date's day number, by its year from March

abbrev start_by : ℕ → ℕ
start_by m = pick (ltb m 3) ((979 * m + 8829) / 32) ((979 * m - 2919) / 32)

pub month_start : (m : ℕ) → 1 ≤ m → m ≤ 12 → start_by m ≡ march_days m
unfolding march_days month_length sum_from
month_start = months start_by march_days tt

-- in the year from March, January and February come after the ten others; in the calendar's before them
month_sum : (l : Bool) (m : ℕ) → 1 ≤ m → m ≤ 12
    → march_days m + pick (ltb m 3) 0 (59 + extra l) ≡ sum_from (month_length l) 0 (m - 1) + pick (ltb m 3) to_january 0
unfolding march_days month_length sum_from
month_sum true = months (λ m. march_days m + pick (ltb m 3) 0 60) (λ m. sum_from (month_length true) 0 (m - 1) + pick (ltb m 3) to_january 0) tt
month_sum false = months (λ m. march_days m + pick (ltb m 3) 0 59) (λ m. sum_from (month_length false) 0 (m - 1) + pick (ltb m 3) to_january 0) tt

pub by_march : (d : Day) → Parts d
    → sum_from year_length 0 (march_year d.year d.month) + march_days d.month + d.day ≡ day_number d + (to_january + 1)
unfolding day_number march_year
by_march d p =
    let l = leap d.year in
    let m = d.month in
    let s : march_days m + pick (ltb m 3) 0 (59 + extra l) ≡ sum_from (month_length l) 0 (m - 1) + pick (ltb m 3) to_january 0 = month_sum l m p.month_low p.month_high in
    let y : d.year - 1 + 1 ≡ d.year = omega (arith, p.year_low) in
    let z : suc (d.year - 1) ≡ d.year = omega (arith, p.year_low) in
    let n : sum_from year_length 0 d.year ≡ sum_from year_length 0 (d.year - 1) + 365 + extra l = rw (z, y) at (next_year (d.year - 1)) in
    ⊎_elim (λ t. rw (lt-ltb m 3 t) (omega (arith, (rw (lt-ltb m 3 t) at s), p.day_low))) (λ t. rw (le-ltb m 3 t) (omega (arith, (rw (le-ltb m 3 t) at s), n, p.day_low))) (lt_or_le m 3)

-- ---- the date of day r of a year from March, by one line for month and day

abbrev line_at : ℕ → ℕ
line_at r = 2141 * r + 197913

abbrev month_at : ℕ → ℕ
month_at r = line_at r / 65536

abbrev day_at : ℕ → ℕ
day_at r = line_at r % 65536 / 2141 + 1

-- day r is in month m, in a leap year (l) or a common one
record Lies (l : Bool) (r m : ℕ) : Type 0 where
  low : 1 ≤ m
  short : day_at r ≤ month_length l (m - 1)
  total : march_days m + day_at r ≡ r + 1

abbrev lies : Bool → ℕ → ℕ → Bool
lies l r m = both (leb 1 m) (both (leb (day_at r) (month_length l (m - 1))) (eqb (march_days m + day_at r) (r + 1)))

tested : (t : Bool) → T t → t ≡ true
tested true h = refl
tested false h = absurd h

lies_in : (l : Bool) (r m : ℕ) → lies l r m ≡ true → Lies l r m
lies_in l r m e =
    let a = both_true _ _ e in
    let b = both_true _ _ a.1 in
    record { low = leb-true _ _ a.0; short = leb-true _ _ b.0; total = eqb-true _ _ b.1 }

-- from March to December it is in the calendar's year of the same number
abbrev late_test : Bool → ℕ → Bool
late_test l r = both (leb 3 (month_at r)) (lies l r (month_at r))

late_test_lem : (l : Bool) (r : ℕ) → r < to_january → late_test l r ≡ true
unfolding march_days month_length sum_from
late_test_lem true r h = tested _ (below (late_test true) 306 tt r h)
late_test_lem false r h = tested _ (below (late_test false) 306 tt r h)

-- in January and February in the next; the last day is there in a leap year only
abbrev early_test : Bool → ℕ → Bool
early_test l k = both (both (leb 13 (month_at (306 + k))) (leb (month_at (306 + k)) 14)) (lies l (306 + k) (month_at (306 + k) - 12))

early_test_lem : (l : Bool) (k : ℕ) → k < 59 + extra l → early_test l k ≡ true
unfolding march_days month_length sum_from
early_test_lem true k h = tested _ (below (early_test true) 60 tt k h)
early_test_lem false k h = tested _ (below (early_test false) 59 tt k h)

-- so the date has the day number, and is the one that has it
found : (n y r : ℕ) (d : Day) → 1 ≤ d.year → d.year ≤ last_year → d.day ≡ day_at r → Lies (leap d.year) r d.month → march_year d.year d.month ≡ y
    → sum_from year_length 0 y + r ≡ n + to_january → d ≡ day_of n
found n y r d a b t f e s =
    let i : is_day d ≡ true = is_date d a b f.low (omega (arith, t)) (omega (arith, t, f.short)) in
    let m = rw e at (by_march d (parts d i)) in
    let k : day_number d ≡ n = omega (arith, t, m, f.total, s) in
    sym (date_number d i) ∙ ap day_of k

-- the two at the code's numbers
module _ (n y r : ℕ) (s : sum_from year_length 0 y + r ≡ n + to_january) (h : n ≤ last_number) (w : r < year_length y) where
  pub late_date : r < to_january → ◌≡◌ {A = Day} (record { year = y; month = month_at r; day = day_at r }) (day_of n)
  unfolding march_year
  late_date t =
      let a = both_true _ _ (late_test_lem (leap y) r t) in
      found n y r _ (omega (arith, years y, s)) (omega (arith, years y, s)) refl (lies_in _ _ _ a.1)
      (rw (le-ltb (month_at r) 3 (leb-true _ _ a.0))) s

  pub early_date : to_january ≤ r → ◌≡◌ {A = Day} (record { year = y + 1; month = month_at r - 12; day = day_at r }) (day_of n)
  unfolding march_year
  early_date t =
      let e : 306 + (r - 306) ≡ r = omega arith in
      let z : early_test (leap (y + 1)) (r - 306) ≡ true = early_test_lem (leap (y + 1)) (r - 306) (omega (arith, long y)) in
      let a = both_true (both (leb 13 (month_at r)) (leb (month_at r) 14)) (lies (leap (y + 1)) r (month_at r - 12)) (rw e at z) in
      let b = both_true (leb 13 (month_at r)) (leb (month_at r) 14) a.0 in
      found n y r _ (omega arith) (omega (arith, years y, s)) refl (lies_in _ _ _ a.1)
      (rw (lt-ltb (month_at r - 12) 3 (omega (arith, leb-true (month_at r) 14 b.1))) (omega arith)) s
