-- `kind_in` meets its contract: the kind with the number, or the one that an either-or reader chooses. Assumes nothing.
use native.Mathlib.Omega.{arith}
use Rattle.format.specs.Words.{refused}
use Rattle.format.specs.EitherOr.{read_either}
use Rattle.boundary.specs.Boundary.{reading_of}
use Rattle.boundary.proofs.Numbered.{reading_at_lem, beyond}
use Rattle.boundary.proofs.kind_in.Goals as goal

pub returns-then-number-lt6 : goal.returns-then-number-lt6
returns-then-number-lt6 c =
    let h = c.if-number-lt6.true in
    reading_at_lem _ _ _ (λ e. omega (arith, h)) (λ e. omega (arith, h)) (λ e. omega (arith, h)) c.try_from.ensures

pub returns-in-6 : goal.returns-in-6
unfolding reading_of read_either
returns-in-6 c = rw (c.in-6.is, c.date_kind.ensures)

pub returns-in-7 : goal.returns-in-7
unfolding reading_of read_either
returns-in-7 c = rw (c.in-7.is, c.time_kind.ensures)

pub returns-in-8 : goal.returns-in-8
unfolding reading_of read_either
returns-in-8 c = rw (c.in-8.is, c.datetime_kind.ensures)

pub returns-in_default : goal.returns-in_default
returns-in_default c =
    let n = c.in_default.in_default-own.rest in
    reading_at_lem _ _ (refused 2) n.0.0.1 n.0.1 n.1 (beyond _ c.if-number-lt6.false)
