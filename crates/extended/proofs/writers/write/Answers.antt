-- `write` meets its contract: out of range; the buffer too short; the image stored. Assumes nothing.
use native.Mathlib.Omega.{arith}
use mathlib.Core.Path.{sym, ◌∙◌, ap}
use Rattle.calendar.specs.Meaning.{number_answered}
use Rattle.values.specs.Meaning.{value_from}
use Rattle.extended.proofs.Days.{is_day_lem, number_is, number_fits_lem}
use Rattle.extended.proofs.Image.{image_is}
use Rattle.extended.proofs.Storing.{rest_outside, day_outside, micros_fit, no_room, wrote}
use Rattle.extended.proofs.writers.write.Goals as goal

pub returns-then-not-rest_in_range : goal.returns-then-not-rest_in_range
returns-then-not-rest_in_range g c = rest_outside _ _ _ (rw c.kind.ensures at (sym c.if-not-rest_in_range.ensures))

pub returns-in_default : goal.returns-in_default
returns-in_default g c = day_outside _ _ _ _ _ (ap number_answered (sym c.in_default.is) ∙ c.day_of.ensures)

pub returns-then-buf-length : goal.returns-then-buf-length
returns-then-buf-length g c =
    no_room _ _ (is_day_lem _ _ _ c.in-Some.ensures) (rw c.kind.ensures at (sym c.if-not-rest_in_range.ensures)) _ c.image_length-length.ensures _ c.if-buf-length.true

pub put-requires : goal.put-requires
put-requires g c = (
  omega (arith, c.if-buf-length.false, c.image_length-length.ensures),
  number_fits_lem _ _ _ c.in-Some.ensures,
  micros_fit _ (value_from c.args.value) c.requires (rw c.kind.ensures at (sym c.if-not-rest_in_range.ensures)),
)

pub returns : goal.returns
returns g c =
    wrote _ _ (is_day_lem _ _ _ c.in-Some.ensures) (rw c.kind.ensures at (sym c.if-not-rest_in_range.ensures)) _ c.image_length-length.ensures _ _ c.if-buf-length.false
    (rw (← image_is _ (value_from c.args.value) _ _ c.header_of-header.ensures (number_is _ _ _ c.in-Some.ensures)) c.put.ensures)
