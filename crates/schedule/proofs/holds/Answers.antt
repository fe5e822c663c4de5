-- `holds` meets its contract: the walk up to the instant, and the last record of the channel that it passed. Assumes nothing.
use mathlib.Core.Path.{◌≡◌, sym, ◌∙◌}
use mir.Syntax.{w64}
use mir.Facts.{to_z-of_z}
use borrow.Author.Rules.{rules, sfits_of}
use Rattle.std.specs.Prelude.{Ok, Err}
use Rattle.format.proofs.Cases.{not_true, not_false}
use Rattle.card.specs.Header.{twelve}
use Rattle.card.proofs.Asking.{bad_channel}
use Rattle.schedule.specs.Steps.{Walks}
use Rattle.schedule.proofs.Endings.{end_bad_header}
use Rattle.schedule.proofs.Answers.{bad_header, read_of, ends_by, asked_ended, asked_faulty, asks}
use Rattle.schedule.proofs.holds.Goals as goal

pub returns-then-not-is_channel : goal.returns-then-not-is_channel
returns-then-not-is_channel c =
    let a = c.args in
    asks a.file.now a.instant a.channel _ (sym (bad_channel twelve a.file.now a.instant.micros a.channel (sym c.is_channel.ensures ∙ not_true _ c.if-not-is_channel.true-raw)))

pub returns-in_err-card : goal.returns-in_err-card
returns-in_err-card c =
    let a = c.args in
    let h = bad_header a.file.now _ _ _ c.in_err-card.ensures.value c.read.ensures in
    let e : c.from_residual.result ≡ Err c.in_err-card.field-0.0 = search rules in
    rw (e, h.1)
    (asks a.file.now a.instant a.channel _ (sym (asked_faulty a.file.now a.instant.micros a.channel (sym c.is_channel.ensures ∙ not_false _ c.if-not-is_channel.false-raw) _ _
    (end_bad_header a.file.now a.instant.micros h.0))))

pub returns-in_err-ended : goal.returns-in_err-ended
returns-in_err-ended c =
    let a = c.args in
    let s = c.in_ok-card.card.file.now in
    let w : Walks s a.instant.micros (Err c.in_err-ended.field-0.0) = rw (to_z-of_z {w = w64} {z = a.instant.micros} (sfits_of (search rules))) at c.in_err-ended.ensures in
    let e : c.from_residual-in_err-ended.result ≡ Err c.in_err-ended.field-0.0.refusal = search rules in
    rw (e, ← read_of a.file.now _ _ _ c.in_ok-card.ensures.value c.read.ensures)
    (asks s a.instant a.channel _ (sym (asked_faulty s a.instant.micros a.channel (sym c.is_channel.ensures ∙ not_false _ c.if-not-is_channel.false-raw) _ _ w)))

pub latest-latest-requires : goal.latest-latest-requires
latest-latest-requires c =
    let a = c.args in
    let s = c.in_ok-card.card.file.now in
    let w : Walks s a.instant.micros (Ok c.in_ok-ended.ended) = rw (to_z-of_z {w = w64} {z = a.instant.micros} (sfits_of (search rules))) at c.in_ok-ended.ensures in
    ends_by s a.instant.micros _ w.0

pub returns : goal.returns
returns c =
    let a = c.args in
    let s = c.in_ok-card.card.file.now in
    let w : Walks s a.instant.micros (Ok c.in_ok-ended.ended) = rw (to_z-of_z {w = w64} {z = a.instant.micros} (sfits_of (search rules))) at c.in_ok-ended.ensures in
    rw (← read_of a.file.now _ _ _ c.in_ok-card.ensures.value c.read.ensures)
    (asks s a.instant a.channel _ (asked_ended s a.instant.micros a.channel _ w.0 _ c.latest-latest.ensures (sym c.is_channel.ensures ∙ not_false _ c.if-not-is_channel.false-raw) w.1))
