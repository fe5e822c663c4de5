-- `read` meets its contract. Assumes nothing.
use mathlib.Core.Path.{◌≡◌, ap}
use borrow.Author.Rules.{rules}
use Rattle.std.specs.Prelude.{Err}
use Rattle.format.specs.Values as format
use Rattle.format.specs.Reading.{answer, read_in}
use Rattle.compact.proofs.readers.read.Goals as goal

pub returns-in_err-counted : goal.returns-in_err-counted
unfolding read_in
returns-in_err-counted g c =
    let e : c.from_residual.result ≡ Err c.in_err-counted.field-0.0 = search rules in
    rw (e, ← c.kind.ensures) (ap (answer _ format.compact) c.in_err-counted.ensures.value)

pub returns : goal.returns
unfolding read_in
returns g c = rw (← c.kind.ensures, c.value.ensures) (ap (answer _ format.compact) c.in_ok-counted.ensures.value)
