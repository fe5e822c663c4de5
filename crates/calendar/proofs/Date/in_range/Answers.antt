-- `calendar::Date::in_range` meets its contract: a test that fails makes the whole conjunction fail; with those passed, a day up to the 28th is in every
-- month, and for the others the month's length decides. Assumes nothing.
use mathlib.Core.Path.{◌≡◌, refl, sym}
use mathlib.Core.Bool.{false}
use Prim.Native.Nat.{ℕ, zero, suc, ◌-◌}
use native.Mathlib.Omega.{arith}
use lib.Dec.{leb}
use borrow.Author.Tests.{le-leb, lt-leb}
use Rattle.format.specs.Words.{both}
use Rattle.format.specs.Calendar.{leap, is_day}
use Rattle.format.proofs.Cases.{both_false}
use Rattle.format.proofs.Dates.{no_month, is_date}
use Rattle.calendar.proofs.Formulas.{month_long}
use Rattle.calendar.proofs.Date.in_range.Goals as goal

-- a month without days has no day
none : (d : ℕ) → both (leb 1 d) (leb d 0) ≡ false
none zero = refl
none (suc d) = rw (lt-leb (suc d) 0 (omega arith)) (both_false (leb 1 (suc d)))

pub returns-then-year-lt1 : goal.returns-then-year-lt1
unfolding is_day
returns-then-year-lt1 c = simp (lt-leb _ _ c.if-year-lt1.true)

pub returns-then-year-gt-LAST_YEAR : goal.returns-then-year-gt-LAST_YEAR
unfolding is_day
returns-then-year-gt-LAST_YEAR c = simp (lt-leb _ _ c.if-year-gt-LAST_YEAR.true, both_false)

pub returns-then-month-lt1 : goal.returns-then-month-lt1
unfolding is_day
returns-then-month-lt1 c = simp (lt-leb _ _ c.if-month-lt1.true, both_false)

pub returns-then-month-gt12 : goal.returns-then-month-gt12
unfolding is_day
returns-then-month-gt12 c =
    let a = c.args in
    simp (no_month (leap a.self.year) (a.self.month - 1) (omega (arith, c.if-month-gt12.true)), none, both_false)

pub returns-then-day-lt1 : goal.returns-then-day-lt1
unfolding is_day
returns-then-day-lt1 c = simp (lt-leb _ _ c.if-day-lt1.true, both_false)

pub returns-then-day-le-SHORTEST : goal.returns-then-day-le-SHORTEST
returns-then-day-le-SHORTEST c =
    let d = c in
    let m = d in
    let a = m.args in
    sym (is_date _ m.if-year-lt1.false m.if-year-gt-LAST_YEAR.false m.if-month-lt1.false d.if-day-lt1.false
    (omega (arith, c.if-day-le-SHORTEST.true, month_long (leap a.self.year) a.self.month m.if-month-lt1.false m.if-month-gt12.false)))

pub month_length-requires : goal.month_length-requires
month_length-requires c = let m = c in (m.if-month-lt1.false, m.if-month-gt12.false)

pub returns : goal.returns
unfolding is_day
returns c =
    let d = c in
    let m = d in
    rw (c.month_length.ensures, c.is_leap.ensures)
    (simp (le-leb _ _ m.if-year-lt1.false, le-leb _ _ m.if-year-gt-LAST_YEAR.false, le-leb _ _ m.if-month-lt1.false, le-leb _ _ d.if-day-lt1.false))
