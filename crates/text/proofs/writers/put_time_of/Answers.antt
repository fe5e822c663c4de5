-- `put_time_of` meets its contract: a part that a kind lacks takes no octets, and a `T` stands before the time behind a date. Assumes nothing.
use Rattle.std.proofs.Common.{◌≡◌, true, false, sym, ◌∙◌, arith}
use Rattle.format.specs.Values.{dated, timed}
use Rattle.text.proofs.Putting.{joint_stored}
use Rattle.text.proofs.TextWriters.{no_time, time_room}
use Rattle.text.proofs.writers.put_time_of.Given.{Over}
use Rattle.text.proofs.writers.put_time_of.Goals as goal
use Rattle.text.proofs.writers.put_time_of.Goals.{After-dated}

there : (g : Over) (c : After-dated g) → timed g.T.Stamp.kind ≡ true
there g c = rw c.kind.ensures at (sym c.if-not-timed.ensures)

date_is : (g : Over) (c : After-dated g) → dated g.T.Stamp.kind ≡ c.dated.result
date_is g c = rw c.kind-2.ensures at (sym c.dated.ensures)

pub returns-then-not-timed : goal.returns-then-not-timed
returns-then-not-timed g c = rw (← c.kind.ensures, ← c.if-not-timed.ensures) (no_time _ _ _ _ _)

pub put_joint-requires : goal.put_joint-requires
put_joint-requires g c =
    let p = (goal.at.put_joint-requires g c).After-dated in
    omega (arith, time_room g.T.Stamp.kind c.args.digits.number (there g p) true (date_is g p ∙ c.if-dated.true) c.requires.1)

pub put_time-requires : goal.put_time-requires
put_time-requires g c =
    let p = (goal.at.put_time-requires g c).After-dated in
    (rw (there g p) at c.requires.0, omega (arith, time_room g.T.Stamp.kind c.args.digits.number (there g p) true (date_is g p ∙ c.if-dated.true) c.requires.1, c.put_joint.auto.buf))

pub returns-then-dated : goal.returns-then-dated
returns-then-dated g c =
    let p = (goal.at.returns-then-dated g c).After-dated in
    c.put_time.ensures ∙ rw (there g p, date_is g p ∙ c.if-dated.true, c.put_joint.ensures) (joint_stored _ 10 _ _)

pub put_time-requires-2 : goal.put_time-requires-2
put_time-requires-2 g c =
    let p = (goal.at.put_time-requires-2 g c).After-dated in
    (rw (there g p) at c.requires.0, omega (arith, time_room g.T.Stamp.kind c.args.digits.number (there g p) false (date_is g p ∙ c.if-dated.false) c.requires.1))
