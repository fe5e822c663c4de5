-- What the calendar's answer tells of a date. Assumes nothing.
use Rattle.std.proofs.Common.{◌≡◌, ℕ, true, false, Option, Some, None, sym, ap, ◌∙◌}
use Rattle.format.specs.Words.{accepted}
use Rattle.format.specs.Calendar.{Day, is_day, day_number, number_asked}
use Rattle.format.proofs.Cases.{passed, same, failed}
use Rattle.calendar.specs.Meaning.{number_answered}

module _ (d : Day) {r : Option ℕ} (e : number_answered r ≡ number_asked d) where
  pub numbered_day : {n : ℕ} → r ≡ Some n → (is_day d ≡ true) × (day_number d ≡ n)
  unfolding number_asked
  numbered_day {n = n} q =
      let p = passed (is_day d) 2 (accepted (day_number d)) n (sym e ∙ ap number_answered q) in
      (p.0, same p.1)

  pub no_such_day : r ≡ None → is_day d ≡ false
  unfolding number_asked
  no_such_day q = failed (is_day d) 2 2 (day_number d) (sym e ∙ ap number_answered q)
