-- What the calendar answers is small enough for C's numbers: a day number, and a day written as one number. Assumes nothing.
use mathlib.Core.Path.{◌≡◌, sym}
use mathlib.Core.Bool.{true}
use Prim.Native.Nat.{ℕ, ◌+◌, ◌-◌, ◌*◌, ◌<◌}
use native.Mathlib.Omega.{arith}
use lib.Dec.{leb}
use borrow.Author.Tests.{leb-true}
use Rattle.format.specs.Words.{accepted}
use Rattle.format.specs.Calendar.{Day, last_number, leap, is_day, day_number, day_of, number_asked, day_asked}
use Rattle.format.proofs.Cases.{passed, same}
use Rattle.format.proofs.Dates.{short_month, parts, number_small, number_date}

pub asked_small : (d : Day) (n : ℕ) → accepted n ≡ number_asked d → n < 3652059
unfolding number_asked
asked_small d n e =
    let p = passed (is_day d) 2 (accepted (day_number d)) n (sym e) in
    rw (same p.1) at (number_small d p.0)

pub asked_day : (n : ℕ) (d : Day) → accepted d ≡ day_asked n → is_day d ≡ true
unfolding day_asked
asked_day n d e =
    let p = passed (leb n last_number) 2 (accepted (day_of n)) d (sym e) in
    rw (same p.1) at (number_date n (omega (arith, leb-true n last_number p.0))).0

pub yyyymmdd_small : (d : Day) → is_day d ≡ true → d.year * 10000 + d.month * 100 + d.day < 100000000
yyyymmdd_small d e =
    let p = parts d e in
    omega (arith, p.year_high, p.month_high, p.day_high, short_month (leap d.year) (d.month - 1))
