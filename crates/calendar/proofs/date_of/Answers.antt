-- `calendar::date_of` meets its contract: its one test is that of `day_asked`, and the years and days before the day make up its number. Assumes nothing.
use mathlib.Core.Path.{◌≡◌, ap}
use Prim.Native.Nat.{◌-◌}
use native.Mathlib.Omega.{arith}
use borrow.Author.Tests.{le-leb, lt-leb}
use Rattle.format.specs.Words.{accepted}
use Rattle.format.specs.Calendar.{last_number, day_asked}
use Rattle.calendar.specs.Steps.{to_january, day_count}
use Rattle.calendar.proofs.date_of.Goals as goal

pub returns-then-number-gt-LAST_NUMBER : goal.returns-then-number-gt-LAST_NUMBER
unfolding day_asked
returns-then-number-gt-LAST_NUMBER c = rw (lt-leb c.args.number last_number (omega (arith, c.if-number-gt-LAST_NUMBER.true)))

pub date_after-requires : goal.date_after-requires
date_after-requires c =
    let e = c.elapsed_at.ensures in
    (e.0, omega (arith, e.1), omega (arith, e.1, c.if-number-gt-LAST_NUMBER.false))

pub returns : goal.returns
unfolding day_asked
returns c =
    let n = c.args.number in
    let e : day_count c.elapsed_at.result - to_january ≡ n = omega (arith, c.elapsed_at.ensures.1) in
    rw (le-leb n last_number (omega (arith, c.if-number-gt-LAST_NUMBER.false))) (ap accepted (rw e at c.date_after.ensures))
