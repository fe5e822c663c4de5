-- What reading a text comes to once its octets are right, from its parts. The legend:
--
--   outcome_of k x m n u z   refusal 7, 8, or the value: for the date x, the minute m, the second n, the microseconds u of the time and the offset z
--   all_but_day k o r        where reading comes to o, and r was answered before the day was asked for: o is refused as r is, or with 8 where the date
--                            is no day, or is what r says; and a time is in range
use Rattle.std.specs.Prelude.{◌≡◌, ℕ, true, not, ◌==◌, nat_le, Result, Ok, Err}
use Rattle.format.specs.Words.{both, needs, Outcome, accepted, refused, unless}
use Rattle.format.specs.Calendar.{Day, is_day}
use Rattle.format.specs.Values as format
use Rattle.format.specs.Values.{Kind, dated, time_in_range}
use Rattle.calendar.specs.Meaning.{day_from}
use Rattle.values.specs.declared.kinds.Value.{Value}
use Rattle.values.specs.declared.answers.Answer.{Answer}
use Rattle.values.specs.declared.refusal.Refusal.{Refusal}
use Rattle.values.specs.Meaning.{refusal_number, value_from}
use Rattle.values.specs.Answers.{answered}
use Rattle.text.specs.declared.parts.Zone.{Zone}
use Rattle.text.specs.Parts.{clock_in_day, offset_of}

unfoldable pub outcome_of : Kind → Day → ℕ → ℕ → ℕ → Zone → Outcome format.Value
outcome_of k x m n u z =
    unless (not (both z.minus (both (z.hours == 0) (z.minutes == 0)))) 7
    (unless (both (needs (dated k) (is_day x)) (both (clock_in_day m n u) (both (nat_le z.hours 23) (nat_le z.minutes 59)))) 8
    (accepted (record { date = x; micros = u; offset = offset_of z })))

abbrev pub all_but_day : {A : Type 0} → Kind → Outcome format.Answer → Result (A × Answer Value) Refusal → Type 0
all_but_day k o (Ok (a, x)) = (unless (needs (dated k) (is_day (day_from x.value.date))) 8 (accepted (answered k value_from x)) ≡ o) × (time_in_range x.value.time.micros ≡ true)
all_but_day k o (Err f) = refused (refusal_number f) ≡ o
