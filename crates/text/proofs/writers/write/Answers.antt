-- `write` meets its contract: the buffer too short; the parts that are put are in range, and have room. Assumes nothing.
use Rattle.std.proofs.Common.{sym}
use Rattle.format.specs.Words.{if_any}
use Rattle.format.specs.Values.{timed}
use Rattle.values.specs.Meaning.{value_from}
use Rattle.text.proofs.TextWriters.{Ready, ready, no_room}
use Rattle.text.proofs.writers.write.Goals as goal

pub returns-then-buf-length : goal.returns-then-buf-length
returns-then-buf-length g c =
    let r : Ready g.T.Stamp.kind (if_any (timed g.T.Stamp.kind) c.args.digits) (value_from c.args.value) c.text_length-length.result =
    ready (rw c.kind.ensures at (sym c.if-not-in_range.ensures)) c.requires
    (rw (c.kind-2.ensures, c.digits_of-digits.ensures) at c.text_length-length.ensures) in
    no_room r _ c.if-buf-length.true

pub put_parts-requires : goal.put_parts-requires
put_parts-requires g c =
    (rw c.kind.ensures at (sym c.if-not-in_range.ensures), rw c.kind-2.ensures at c.text_length-length.ensures, c.if-buf-length.false)
