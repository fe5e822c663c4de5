-- `locate_datetime_tz` meets its contract: the parts in their order, a refusal at each. Assumes nothing.
use mathlib.Core.Path.{refl, ap}
use native.Mathlib.Omega.{arith}
use borrow.Author.Tests.{le-leb, lt-leb}
use Rattle.format.specs.Extended.{day_width}
use Rattle.values.specs.Answers.{local_in}
use Rattle.extended.proofs.Coming.{handed_on, wrong_length, header_refused, time_refused, day_refused, time_few, located_there}
use Rattle.extended.proofs.readers.locate_datetime_tz.Goals as goal

pub returns-then-s-ne-DATETIME_LENGTH : goal.returns-then-s-ne-DATETIME_LENGTH
unfolding day_width
returns-then-s-ne-DATETIME_LENGTH c = ap local_in (wrong_length _ _ c.if-s-ne-DATETIME_LENGTH.true)

pub returns-in_err-offset : goal.returns-in_err-offset
unfolding day_width
returns-in_err-offset c =
    handed_on _ _ _ _ c.from_residual.ensures.1 (ap local_in (header_refused _ _ c.if-s-ne-DATETIME_LENGTH.false _ c.in_err-offset.ensures))

pub returns-in_err-time : goal.returns-in_err-time
unfolding day_width
returns-in_err-time c =
    handed_on _ _ _ _ c.from_residual-in_err-time.ensures.1 (ap local_in (time_refused _ _ c.if-s-ne-DATETIME_LENGTH.false _ c.in_ok-offset.ensures _ c.in_err-time.ensures))

pub returns-then-day-gt-LAST_NUMBER : goal.returns-then-day-gt-LAST_NUMBER
unfolding day_width
returns-then-day-gt-LAST_NUMBER c =
    ap local_in (day_refused _ _ c.if-s-ne-DATETIME_LENGTH.false _ c.in_ok-offset.ensures (rw c.day_in-day.ensures at (lt-leb _ _ c.if-day-gt-LAST_NUMBER.true)))

pub overflow_add-result : goal.overflow_add-result
overflow_add-result c = record { fits = omega (arith, time_few _ _ _ c.in_ok-time.ensures, c.if-day-gt-LAST_NUMBER.false) }

pub returns : goal.returns
unfolding day_width
returns c =
    rw c.day_in-day.ensures
    (located_there _ _ c.if-s-ne-DATETIME_LENGTH.false _ c.in_ok-offset.ensures _ c.in_ok-time.ensures
    (rw c.day_in-day.ensures at (le-leb _ _ c.if-day-gt-LAST_NUMBER.false)) refl)
