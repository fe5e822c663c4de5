-- `offset_in` meets its contract: a plain header's offset is 0. Assumes nothing.
use mathlib.Core.Path.{sym}
use Rattle.extended.proofs.Coming.{no_offset, no_offset_fits}
use Rattle.extended.proofs.readers.offset_in.Goals as goal

pub returns : goal.returns
returns g c =
    let h = sym c.if-not-is_plain.ensures in
    rw (c.new.ensures, ← c.kind.ensures, sym c.if-zoned.ensures, h, no_offset_fits _ (sym h), ← no_offset _ (sym h))
