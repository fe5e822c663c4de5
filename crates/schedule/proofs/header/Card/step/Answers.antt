-- `step` meets its contract: the fields, then the stamp, then the order. Assumes nothing.
-- ---- what the parts tell
use mathlib.Core.Path.{◌≡◌, sym, ◌∙◌, ap}
use mathlib.Core.Bool.{true}
use Prim.Native.Nat.{◌+◌}
use native.Mathlib.Omega.{arith}
use lib.Dec.{eqb}
use mir.Syntax.{w64}
use mir.Facts.{to_z-of_z}
use Rattle.format.proofs.Cases.{not_true, not_false}
use Rattle.format.specs.Values.{DatetimeTz}
use Rattle.format.specs.Reading.{read}
use Rattle.card.specs.Header.{twelve}
use Rattle.card.specs.Records.{stamp_at}
use Rattle.schedule.specs.Steps.{fields_in, right, instant_in, timed}
use Rattle.schedule.proofs.Ranges.{late, in_order_lem}
use Rattle.schedule.proofs.Stepping.{fields_small, stamp_fits, step_bad, step_refused, step_timed}
use borrow.Author.Rules.{rules, sfits_of}
use Rattle.std.specs.Prelude.{Err}
use Rattle.schedule.specs.declared.Refusal.TheVariants as R
use Rattle.schedule.proofs.header.Card.step.Goals as goal
use Rattle.schedule.proofs.header.Card.step.Goals.{After-instant_at, Else-not-are_right}

right-fields : (c : Else-not-are_right) → (let a = c.args in right (fields_in a.self.file.now a.i) a.before.ended a.self.octets (eqb (a.i + 1) a.self.records) ≡ true)
right-fields c = rw c.fields-fields.ensures at (sym c.are_right.ensures ∙ not_false _ c.if-not-are_right.false-raw)

read-stamp : (c : After-instant_at) → (let a = c.args in timed c.instant_at.result ≡ instant_in (read DatetimeTz (stamp_at twelve a.self.file.now a.i)))
unfolding stamp_at
read-stamp c = rw (c.fields-fields.ensures, c.args.self.follow) at c.instant_at.ensures

pub are_right-requires : goal.are_right-requires
are_right-requires c = rw c.fields-fields.ensures (fields_small _ _ (c.args.self.in_octets))

pub returns-then-not-are_right : goal.returns-then-not-are_right
returns-then-not-are_right c =
    let a = c.args in
    sym (step_bad a.self a.i a.before (rw c.fields-fields.ensures at (sym c.are_right.ensures ∙ not_true _ c.if-not-are_right.true-raw)))

pub overflow_add-self : goal.overflow_add-self
overflow_add-self c =
    let a = c.args in
    let f = stamp_fits a.self a.i a.before (right-fields (goal.at.overflow_add-self c).Else-not-are_right) in
    rw c.fields-fields.ensures (record { fits = omega (arith, f) })

pub instant_at-requires : goal.instant_at-requires
instant_at-requires c =
    let a = c.args in
    rw c.fields-fields.ensures (stamp_fits a.self a.i a.before (right-fields (goal.at.instant_at-requires c).Else-not-are_right))

pub returns-then-instant-before : goal.returns-then-instant-before
returns-then-instant-before c =
    let a = c.args in
    let e = ap timed (sym c.in_ok-instant.was) ∙ read-stamp (goal.at.returns-then-instant-before c).After-instant_at in
    let o = late c.in_ok-instant.instant a.before.last (sfits_of (search rules)) (sfits_of (search rules)) c.if-instant-before.true in
    rw o at (sym (step_timed a.self a.i a.before c.in_ok-instant.instant (right-fields (goal.at.returns-then-instant-before c).Else-not-are_right) (sym e)))

pub returns : goal.returns
returns c =
    let a = c.args in
    let e = ap timed (sym c.in_ok-instant.was) ∙ read-stamp (goal.at.returns c).After-instant_at in
    let o = in_order_lem c.in_ok-instant.instant a.before.last (sfits_of (search rules)) (sfits_of (search rules)) c.if-instant-before.false in
    rw (c.fields-fields.ensures, to_z-of_z {w = w64} {z = c.in_ok-instant.instant} (sfits_of (search rules)))
    (rw o at (sym (step_timed a.self a.i a.before c.in_ok-instant.instant (right-fields (goal.at.returns c).Else-not-are_right) (sym e))))

pub returns-in_err-instant : goal.returns-in_err-instant
returns-in_err-instant c =
    let a = c.args in
    let e = ap timed (sym c.in_err-instant.was) ∙ read-stamp (goal.at.returns-in_err-instant c).After-instant_at in
    let r : c.from_residual.result ≡ Err (R.Base c.in_err-instant.field-0.0) = search rules in
    rw r (sym (step_refused a.self a.i a.before _ (right-fields (goal.at.returns-in_err-instant c).Else-not-are_right) (sym e)))
