-- `read` meets its contract: the parts in their order, a refusal at each. Assumes nothing.
use native.Mathlib.Omega.{arith}
use mathlib.Core.Path.{◌∙◌}
use Rattle.format.specs.Extended.{head_bits}
use Rattle.extended.proofs.Coming.{handed_on, wrong_length, header_refused, time_refused, date_refused, found}
use Rattle.extended.proofs.readers.read.Goals as goal

pub returns-then-s-image_length : goal.returns-then-s-image_length
returns-then-s-image_length g c = wrong_length _ _ (rw c.image_length.ensures at c.if-s-image_length.true)

pub offset_in-requires : goal.offset_in-requires
unfolding head_bits
offset_in-requires g c = (omega (arith, c.if-s-image_length.false, c.image_length.ensures), λ z. c.requires.header.0 ∙ rw z)

pub returns-in_err-offset : goal.returns-in_err-offset
returns-in_err-offset g c =
    handed_on _ _ _ _ c.from_residual.ensures.1 (header_refused _ _ (c.if-s-image_length.false ∙ c.image_length.ensures) _ c.in_err-offset.ensures)

pub returns-in_err-time : goal.returns-in_err-time
returns-in_err-time g c =
    handed_on _ _ _ _ c.from_residual-in_err-time.ensures.1
    (time_refused _ _ (c.if-s-image_length.false ∙ c.image_length.ensures) _ c.in_ok-offset.ensures _ c.in_err-time.ensures)

pub returns-in_err-date : goal.returns-in_err-date
returns-in_err-date g c =
    handed_on _ _ _ _ c.from_residual-in_err-date.ensures.1
    (date_refused _ _ (c.if-s-image_length.false ∙ c.image_length.ensures) _ c.in_ok-offset.ensures _ c.in_err-date.ensures)

pub returns : goal.returns
returns g c = found _ _ (c.if-s-image_length.false ∙ c.image_length.ensures) _ c.in_ok-offset.ensures _ c.in_ok-time.ensures _ c.in_ok-date.ensures
