-- `locate_datetime_tz` meets its contract: the calendar's answer tells whether there is such a day, and its number. Assumes nothing.
use Rattle.std.proofs.Common.{◌≡◌, ◌<◌, true, sym, ap, arith}
use Rattle.format.specs.Calendar.{is_day, day_number}
use Rattle.format.proofs.Dates.{number_small}
use Rattle.calendar.specs.Meaning.{day_from}
use Rattle.values.specs.Answers.{local_in}
use Rattle.text.proofs.LocalReadings.{numbered_day, no_such_day}
use Rattle.text.proofs.Putting.{time_small}
use Rattle.text.proofs.locating.locate_datetime_tz.Goals as goal
use Rattle.text.proofs.locating.locate_datetime_tz.Goals.{In-Some}

there : (c : In-Some) → let d = day_from c.in_ok-number.answer.value.date in (is_day d ≡ true) × (day_number d ≡ c.in-Some.day)
there c = numbered_day _ c.in_ok-number.ensures.asked.1 c.in-Some.is

few : (c : In-Some) → c.in-Some.day < 3652059
few c =
    let d = numbered_day _ c.in_ok-number.ensures.asked.1 c.in-Some.is in
    omega (arith, d.1, number_small _ d.0)

pub returns-in_default : goal.returns-in_default
returns-in_default c = ap local_in (rw (no_such_day _ c.in_ok-number.ensures.asked.1 c.in_default.is) at c.in_ok-number.ensures.read.0)

pub overflow_mul-result : goal.overflow_mul-result
overflow_mul-result c = record { fits = omega (arith, few (goal.at.overflow_mul-result c).In-Some) }

pub overflow_add-result : goal.overflow_add-result
overflow_add-result c = record { fits = omega (arith, few (goal.at.overflow_add-result c).In-Some, time_small _ c.in_ok-number.ensures.read.1) }

pub returns : goal.returns
returns c =
    let d = there (goal.at.returns c).In-Some in
    rw (sym d.1) (ap local_in (rw d.0 at c.in_ok-number.ensures.read.0))
