-- `locate_datetime_tz` meets its contract. Assumes nothing.
use mathlib.Core.Path.{◌≡◌, ap}
use borrow.Author.Rules.{rules}
use Rattle.std.specs.Prelude.{Err}
use Rattle.format.specs.Values as format
use Rattle.format.specs.Reading.{answer, read_in}
use Rattle.values.specs.Answers.{local_in}
use Rattle.compact.proofs.readers.locate_datetime_tz.Goals as goal

pub returns-in_err-counted : goal.returns-in_err-counted
unfolding read_in
returns-in_err-counted c =
    let e : c.from_residual.result ≡ Err c.in_err-counted.field-0.0 = search rules in
    rw e (ap (λ o. local_in (answer format.DatetimeTz format.compact o)) c.in_err-counted.ensures.value)

pub returns : goal.returns
unfolding read_in
returns c =
    let v = rw c.in_ok-counted.ensures.kind at c.in_ok-counted.ensures.value in
    rw c.located.ensures (ap (λ o. local_in (answer format.DatetimeTz format.compact o)) v)
