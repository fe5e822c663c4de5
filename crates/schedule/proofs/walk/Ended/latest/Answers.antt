-- `Ended::latest` meets its contract: the place of the last record of the channel, and what is there. Assumes nothing.
use mathlib.Core.Path.{◌≡◌}
use native.Mathlib.Omega.{arith}
use borrow.Author.Rules.{rules}
use Rattle.std.specs.Prelude.{None}
use Rattle.schedule.proofs.Finding.{last_place_le, latest_none, latest_some}
use Rattle.schedule.proofs.walk.Ended.latest.Goals as goal

pub last_of-requires : goal.last_of-requires
last_of-requires c = omega (arith, c.requires.few, c.args.card.counted)

pub shown-requires : goal.shown-requires
shown-requires c =
    let f = c.in_ok-place.ensures in
    (c.requires, f.0, omega (arith, f.1, last_place_le c.args.card.file.now c.args.channel c.args.self.passed))

pub returns-in_err-place : goal.returns-in_err-place
returns-in_err-place c =
    let e : c.from_residual.result ≡ None = search rules in
    rw e (latest_none c.args.card.file.now c.args.channel _ c.in_err-place.ensures)

pub returns : goal.returns
returns c = let f = c.in_ok-place.ensures in latest_some c.args.card.file.now c.args.channel _ _ _ f.0 f.1 c.shown.ensures
