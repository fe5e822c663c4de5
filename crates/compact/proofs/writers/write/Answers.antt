-- `write` meets its contract: out of range; no compact form; the buffer too short; the image stored. Assumes nothing.
use mathlib.Core.Path.{◌≡◌}
use borrow.Author.Rules.{rules}
use Rattle.std.specs.Prelude.{Err}
use Rattle.compact.proofs.WritingSteps.{out_of_range, asks_image, no_form, made, too_short, image_stored}
use Rattle.compact.proofs.writers.write.Goals as goal

pub returns-in_err-day : goal.returns-in_err-day
returns-in_err-day g c =
    let e : c.from_residual.result ≡ Err c.in_err-day.field-0.0 = search rules in
    rw (e, ← c.kind-kind.ensures) (out_of_range _ _ _ c.in_err-day.ensures _)

pub returns-in_err-image : goal.returns-in_err-image
returns-in_err-image g c =
    let e : c.from_residual-in_err-image.result ≡ Err c.in_err-image.field-0.0 = search rules in
    rw (e, ← c.kind-kind.ensures) (no_form _ _ _ c.in_ok-day.ensures _ c.in_err-image.ensures _)

pub image-requires : goal.image-requires
image-requires g c = asks_image _ _ _ c.in_ok-day.ensures

pub length-octets-requires : goal.length-octets-requires
length-octets-requires g c = (made _ _ _ c.in_ok-day.ensures c.in_ok-image.image c.in_ok-image.ensures).small

pub returns-then-buf-octets : goal.returns-then-buf-octets
returns-then-buf-octets g c =
    rw (← c.kind-kind.ensures) (too_short (made _ _ _ c.in_ok-day.ensures c.in_ok-image.image c.in_ok-image.ensures) c.length-octets.ensures _ c.if-buf-octets.true)

pub returns : goal.returns
returns g c =
    rw (← c.kind-kind.ensures) (image_stored (made _ _ _ c.in_ok-day.ensures c.in_ok-image.image c.in_ok-image.ensures) c.length-octets.ensures _ c.if-buf-octets.false c.put.ensures)
