-- `held_in` meets its contract: the walk up to the instant, and the last record of the channel that it passed. Assumes nothing.
use mathlib.Core.Path.{◌≡◌, sym}
use mir.Syntax.{w64}
use mir.Facts.{to_z-of_z}
use borrow.Author.Rules.{rules}
use Rattle.std.specs.Prelude.{Ok, Err}
use Rattle.schedule.specs.Steps.{Walks}
use Rattle.schedule.proofs.Endings.{end_bad_header}
use Rattle.schedule.proofs.Answers.{bad_header, read_of, ends_by, asked_ended, asked_faulty}
use Rattle.schedule.proofs.parts.held_in.Goals as goal

pub returns-in_err-card : goal.returns-in_err-card
returns-in_err-card c =
    let a = c.args in
    let h = bad_header a.file.now _ _ _ c.in_err-card.ensures.value c.read.ensures in
    let e : c.from_residual.result ≡ Err c.in_err-card.field-0.0 = search rules in
    rw (e, h.1) (0, sym (asked_faulty a.file.now a.until a.channel c.requires _ _ (end_bad_header a.file.now a.until h.0)))

pub returns-in_err-ended : goal.returns-in_err-ended
returns-in_err-ended c =
    let a = c.args in
    let s = c.in_ok-card.card.file.now in
    let w : Walks s a.until (Err c.in_err-ended.field-0.0) = rw (to_z-of_z {w = w64} {z = a.until} c.ranges.until) at c.in_err-ended.ensures in
    let e : c.from_residual-in_err-ended.result ≡ Err c.in_err-ended.field-0.0.refusal = search rules in
    rw (e, ← read_of a.file.now _ _ _ c.in_ok-card.ensures.value c.read.ensures) (0, sym (asked_faulty s a.until a.channel c.requires _ _ w))

pub latest-requires : goal.latest-requires
latest-requires c =
    let a = c.args in
    let s = c.in_ok-card.card.file.now in
    let w : Walks s a.until (Ok c.in_ok-ended.ended) = rw (to_z-of_z {w = w64} {z = a.until} c.ranges.until) at c.in_ok-ended.ensures in
    ends_by s a.until _ w.0

pub returns : goal.returns
returns c =
    let a = c.args in
    let s = c.in_ok-card.card.file.now in
    let w : Walks s a.until (Ok c.in_ok-ended.ended) = rw (to_z-of_z {w = w64} {z = a.until} c.ranges.until) at c.in_ok-ended.ensures in
    rw (← read_of a.file.now _ _ _ c.in_ok-card.ensures.value c.read.ensures)
    (_, asked_ended s a.until a.channel _ w.0 _ c.latest.ensures c.requires w.1)
