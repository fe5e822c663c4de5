-- No two different answers meet the promise that a public call's contract cites (specs/Calls). What an answer means can be undone. Assumes nothing.
use mathlib.Core.Path.{◌≡◌, refl}
use Prim.Native.Nat.{ℕ}
use Rattle.format.specs.Words.{Outcome, accepted, refused}
use Rattle.format.specs.Calendar.{Day}
use Rattle.format.specs.Promises.{OneAnswer}
use Rattle.format.proofs.Promises.{equal_one, meaning_one}
use Rattle.calendar.specs.Meaning.{number_answered, day_answered}
use Rattle.calendar.specs.Calls.{DateNew, DateInRange, DayNumber, DateOf, YearStart}
use Rattle.calendar.specs.declared.Date.{Date}
use Rattle.std.specs.Prelude.{Option, Some, None}

numbered_of : Outcome ℕ → Option ℕ
numbered_of (accepted n) = Some n
numbered_of (refused n) = None

number_back : (r : Option ℕ) → numbered_of (number_answered r) ≡ r
unfolding numbered_of
number_back (Some n) = refl
number_back None = refl

dated_of : Outcome Day → Option Date
dated_of (accepted d) = Some (record { year = d.year; month = d.month; day = d.day })
dated_of (refused n) = None

day_back : (r : Option Date) → dated_of (day_answered r) ≡ r
unfolding dated_of
day_back (Some d) = refl
day_back None = refl

pub one_new : (year month day : ℕ) → OneAnswer (DateNew year month day)
one_new year month day = equal_one _

pub one_in_range : (d : Date) → OneAnswer (DateInRange d)
one_in_range d = equal_one _

pub one_day_number : (d : Date) → OneAnswer (DayNumber d)
one_day_number d = meaning_one number_answered numbered_of number_back _

pub one_date_of : (n : ℕ) → OneAnswer (DateOf n)
one_date_of n = meaning_one day_answered dated_of day_back _

pub one_year_start : (years : ℕ) → OneAnswer (YearStart years)
one_year_start years = equal_one _
