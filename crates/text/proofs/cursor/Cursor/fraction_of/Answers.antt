-- `fraction_of` meets its contract: fields that a kind lacks take no octets. Assumes nothing.
use Rattle.std.proofs.Common.{refl, arith}
use Rattle.format.specs.Fields.{width}
use Rattle.text.proofs.PartLaws.{part_none}
use Rattle.text.proofs.cursor.Cursor.fraction_of.Goals as goal

pub returns : goal.returns
unfolding width
returns g c = rw (← c.kind.ensures, ← c.if-timed.ensures) (part_none 0 _ _ refl, omega arith)
