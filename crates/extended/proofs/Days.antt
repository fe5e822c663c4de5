-- What the calendar's answers tell: of a day number, and of a date. Assumes nothing.
use Prim.Native.Nat.{ℕ, ◌<◌}
use native.Mathlib.Omega.{arith}
use mathlib.Core.Path.{◌≡◌, sym}
use mathlib.Core.Bool.{Bool, true, false}
use lib.Dec.{leb}
use Rattle.std.specs.Prelude.{Option, Some, None}
use Rattle.std.specs.Option.{ok_or}
use Rattle.format.specs.Words.{needs, if_any, accepted, unless}
use Rattle.format.specs.Values.{Kind, dated}
use Rattle.format.specs.Calendar.{Day, last_number, is_day, day_number, day_of, day_asked}
use Rattle.format.proofs.Cases.{passed, same, failed}
use Rattle.format.proofs.Dates.{number_small}
use Rattle.calendar.specs.declared.Date.{Date}
use Rattle.calendar.specs.Meaning.{day_from, day_answered}
use Rattle.values.specs.declared.refusal.Refusal.{Refusal}
use Rattle.values.specs.Meaning.{refusal_number}
use Rattle.values.specs.Answers.{outcome}

-- the date of a day number, or a refusal in its place
pub day_or : (n : ℕ) (r : Option Date) (f : Refusal) → day_answered r ≡ day_asked n → outcome day_from (ok_or r f) ≡ unless (leb n last_number) (refusal_number f) (accepted (day_of n))
unfolding day_asked
day_or n (Some d) f e = let p = passed (leb n last_number) 2 (accepted (day_of n)) (day_from d) (sym e) in rw (p.0, same p.1)
day_or n None f e = rw (failed (leb n last_number) 2 2 (day_of n) (sym e))

-- the day number that is written, where the kind has a date
module _ (k : Kind) (d : Day) (n : ℕ) (e : accepted n ≡ unless (needs (dated k) (is_day d)) 2 (accepted (if_any (dated k) (day_number d)))) where
  pub is_day_lem : needs (dated k) (is_day d) ≡ true
  is_day_lem = (passed (needs (dated k) (is_day d)) 2 (accepted (if_any (dated k) (day_number d))) n (sym e)).0

  pub number_is : n ≡ if_any (dated k) (day_number d)
  number_is = sym (same (passed (needs (dated k) (is_day d)) 2 (accepted (if_any (dated k) (day_number d))) n (sym e)).1)

  pub number_fits_lem : n < 16777216
  number_fits_lem = rw number_is (few (dated k) is_day_lem)
    where
      few : (b : Bool) → needs b (is_day d) ≡ true → if_any b (day_number d) < 16777216
      few true i = omega (arith, number_small d i)
      few false i = omega arith
