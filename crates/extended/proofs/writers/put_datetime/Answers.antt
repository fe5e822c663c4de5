-- `put_datetime` meets its contract: the eight octets behind the header are the three and the five. Assumes nothing.
use mathlib.Core.Path.{◌∙◌, ap}
use lib.Seq.{sets}
use Rattle.extended.proofs.Image.{then_stored}
use Rattle.extended.proofs.Storing.{eight_octets}
use Rattle.extended.proofs.writers.put_datetime.Goals as goal

pub returns : goal.returns
returns c =
    then_stored c.args.buf.now _ _ 0 2 c.args.header _ c.put_unsigned.ensures
    (c.put_unsigned-2.ensures ∙ ap (sets _ 2) (eight_octets c.args.day c.args.micros c.requires.2))
