-- `read` meets its contract: the header, and the walk up to the greatest number. Assumes nothing.
use mathlib.Core.Path.{◌≡◌, sym}
use native.Mathlib.Omega.{arith}
use borrow.Author.Rules.{rules}
use Rattle.std.specs.Prelude.{Err}
use Rattle.card.proofs.Greatest.{greatest_asked}
use Rattle.schedule.proofs.Endings.{end_bad_header}
use Rattle.schedule.proofs.Answers.{read_ended, read_faulty}
use Rattle.schedule.proofs.read.Goals as goal

pub returns-in_default : goal.returns-in_default
returns-in_default c = sym (read_faulty c.args.file.now (λ k. omega (arith, c.type_inv.file k)) _ _ (end_bad_header c.args.file.now greatest_asked c.in_default.ensures))

pub returns-in_err-ended : goal.returns-in_err-ended
returns-in_err-ended c =
    let card = c.in-Some.card in
    let e : c.from_residual.result ≡ Err c.in_err-ended.field-0.0 = search rules in
    rw (e, ← c.in-Some.ensures) (sym (read_faulty card.file.now card.in_octets _ _ c.in_err-ended.ensures))

pub returns : goal.returns
returns c =
    let card = c.in-Some.card in
    rw (← c.in-Some.ensures) (sym (read_ended card.file.now card.in_octets _ c.in_ok-ended.ensures.1))
