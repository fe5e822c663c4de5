-- `record_at` meets its contract: the walk up to the greatest number, and the record at the place, if it passed so many. Assumes nothing.
use mathlib.Core.Path.{◌≡◌, sym, ap, ◌∙◌}
use native.Mathlib.Omega.{arith}
use borrow.Author.Rules.{rules}
use Rattle.std.specs.Prelude.{Err}
use Rattle.format.specs.Words.{accepted}
use Rattle.card.specs.Header.{twelve}
use Rattle.card.specs.Reading.{record_asked}
use Rattle.card.proofs.Greatest.{greatest_asked}
use Rattle.schedule.proofs.Endings.{end_bad_header}
use Rattle.schedule.proofs.Answers.{bad_header, read_of, found_there, found_not, found_none, found_faulty}
use Rattle.schedule.proofs.record_at.Goals as goal

pub returns-in_err-card : goal.returns-in_err-card
returns-in_err-card c =
    let h = bad_header c.args.file.now _ _ _ c.in_err-card.ensures.value c.read.ensures in
    let e : c.from_residual.result ≡ Err c.in_err-card.field-0.0 = search rules in
    rw (e, h.1) (sym (found_faulty c.args.file.now (λ k. omega (arith, c.type_inv.file k)) c.args.place _ _ (end_bad_header c.args.file.now greatest_asked h.0)))

pub returns-in_err-ended : goal.returns-in_err-ended
returns-in_err-ended c =
    let card = c.in_ok-card.card in
    let e : c.from_residual-in_err-ended.result ≡ Err c.in_err-ended.field-0.0.refusal = search rules in
    rw (e, ← read_of c.args.file.now _ _ _ c.in_ok-card.ensures.value c.read.ensures) (sym (found_faulty card.file.now card.in_octets c.args.place _ _ c.in_err-ended.ensures))

pub returns-then-place-lt1 : goal.returns-then-place-lt1
returns-then-place-lt1 c =
    let card = c.in_ok-card.card in
    let w = c.in_ok-ended.ensures in
    let z : c.args.place ≡ 0 = omega (arith, c.if-place-lt1.true) in
    rw (← read_of c.args.file.now _ _ _ c.in_ok-card.ensures.value c.read.ensures)
    (sym (ap (record_asked twelve card.file.now) z ∙ found_none card.file.now card.in_octets _ w.0 w.1))

pub returns-then-ended-place : goal.returns-then-ended-place
returns-then-ended-place c =
    let card = c.in_ok-card.card in
    let w = c.in_ok-ended.ensures in
    rw (← read_of c.args.file.now _ _ _ c.in_ok-card.ensures.value c.read.ensures)
    (sym (found_not card.file.now card.in_octets _ w.0 w.1 c.args.place c.if-ended-place.true))

pub returns : goal.returns
returns c =
    let card = c.in_ok-card.card in
    let w = c.in_ok-ended.ensures in
    rw (← read_of c.args.file.now _ _ _ c.in_ok-card.ensures.value c.read.ensures)
    (ap accepted c.shown.ensures ∙ sym (found_there card.file.now card.in_octets _ w.0 w.1 c.args.place (omega arith) (omega arith)))
