-- `date_in` meets its contract: the date of the day number, where the kind has one. Assumes nothing.
use mathlib.Core.Path.{sym}
use Rattle.format.specs.Extended.{day_width}
use Rattle.extended.proofs.Days.{day_or}
use Rattle.extended.proofs.readers.date_in.Goals as goal

pub returns-then-dated : goal.returns-then-dated
unfolding day_width
returns-then-dated g c = rw (c.ok_or.ensures.value, ← c.kind.ensures, sym c.if-dated.ensures, ← c.day_in.ensures) (day_or _ _ _ c.date_of.ensures)
