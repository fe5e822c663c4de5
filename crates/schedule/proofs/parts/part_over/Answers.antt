-- `part_over` meets its contract: what holds in each of the two files, and what that chooses. Assumes nothing.
use mathlib.Core.Path.{sym, ◌∙◌}
use mir.Syntax.{w64}
use mir.Facts.{to_z-of_z}
use borrow.Author.Rules.{rules, sfits_of}
use Rattle.format.proofs.Cases.{not_true}
use Rattle.schedule.proofs.Parting.{chooses_no_channel, plan_refused, manual_refused, chooses_chosen}
use Rattle.schedule.proofs.parts.part_over.Goals as goal

pub returns-then-not-is_channel : goal.returns-then-not-is_channel
returns-then-not-is_channel c =
    let a = c.args in
    chooses_no_channel a.plan.now a.manual.now a.instant a.channel c.nothing.result (sym c.is_channel.ensures ∙ not_true _ c.if-not-is_channel.true-raw) c.nothing.ensures

pub returns-in_default : goal.returns-in_default
returns-in_default c =
    let a = c.args in
    plan_refused a.plan.now a.manual.now a.instant a.channel _ _ c.nothing-in_default.result
    (rw (to_z-of_z {w = w64} {z = a.instant.micros} (sfits_of (search rules))) at c.held_in.ensures) c.in_default.is c.nothing-in_default.ensures

pub returns-in_default-held_in : goal.returns-in_default-held_in
returns-in_default-held_in c =
    let a = c.args in
    let f = to_z-of_z {w = w64} {z = a.instant.micros} (sfits_of (search rules)) in
    manual_refused a.plan.now a.manual.now a.instant a.channel _ _ _ _ c.nothing-in_default-held_in.result
    (rw f at c.held_in.ensures) (rw f at c.held_in-2.ensures) c.in-Ok.is c.in_default-held_in.is c.nothing-in_default-held_in.ensures

pub returns : goal.returns
returns c =
    let a = c.args in
    let f = to_z-of_z {w = w64} {z = a.instant.micros} (sfits_of (search rules)) in
    chooses_chosen a.plan.now a.manual.now a.instant a.channel _ _ _ _ c.chosen.result
    (rw f at c.held_in.ensures) (rw f at c.held_in-2.ensures) c.in-Ok.is c.in-Ok-held_in.is c.chosen.ensures
