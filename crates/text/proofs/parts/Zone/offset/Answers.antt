-- `Zone::offset` meets its contract: the minutes fit 32 bits, and so does what is opposite. Assumes nothing.
use Rattle.std.proofs.Common.{◌+◌, ◌*◌, arith}
use Rattle.text.specs.Parts.{offset_of}
use Rattle.text.proofs.Opposites.{whole, opposite}
use Rattle.text.proofs.parts.Zone.offset.Goals as goal

pub returns-then-self : goal.returns-then-self
unfolding offset_of
returns-then-self c =
    let a = c.args.self in
    rw (c.new.ensures, c.if-self.true) (opposite (a.hours * 60 + a.minutes) (omega arith))

pub returns : goal.returns
unfolding offset_of
returns c =
    let a = c.args.self in
    rw (c.new-2.ensures, c.if-self.false) (whole (a.hours * 60 + a.minutes) (omega arith))
