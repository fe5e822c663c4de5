-- `put_time` meets its contract: the five octets stand behind the header. Assumes nothing.
use Rattle.extended.proofs.Image.{then_stored}
use Rattle.extended.proofs.writers.put_time.Goals as goal

pub returns : goal.returns
returns c = then_stored c.args.buf.now _ _ 0 2 c.args.header _ c.put_unsigned.ensures c.put_unsigned-2.ensures
