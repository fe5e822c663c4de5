-- `stamp_schedule_holds` meets its contract: what `holds` answers, handed over. Assumes nothing.
use mathlib.Core.Path.{◌≡◌, sym, ap, ◌∙◌}
use native.Mathlib.Omega.{arith}
use mir.Syntax.{w64}
use mir.Facts.{to_z-of_z}
use borrow.Author.Rules.{rules, sfits_of}
use Rattle.std.specs.Prelude.{Ok, Err}
use Rattle.card.specs.Header.{twelve}
use Rattle.format.specs.Promises.{number_of}
use Rattle.card.specs.Question.{question, records_read}
use Rattle.schedule.specs.Meaning.{asked}
use Rattle.boundary.specs.Utc.{after}
use Rattle.boundary.specs.Files.{asked_numbers, asked_in_words}
use Rattle.boundary.proofs.InWords.{question_in_words}
use Rattle.boundary.proofs.files.stamp_schedule_holds.Goals as goal

pub hand_held-requires : goal.hand_held-requires
hand_held-requires c =
    let a = c.args in
    let q : asked (Ok c.in-Ok.held) ≡ question twelve a.file.now a.instant a.channel = rw (c.new.ensures, to_z-of_z {w = w64} {z = a.instant} (sfits_of (search rules))) at c.in-Ok.ensures.answer in
    rw (sym q) at (question_in_words a.file.now (λ k. omega (arith, c.type_inv.file k)) a.instant a.channel)

pub returns-in-Ok : goal.returns-in-Ok
returns-in-Ok c =
    let a = c.args in
    let q : asked (Ok c.in-Ok.held) ≡ question twelve a.file.now a.instant a.channel = rw (c.new.ensures, to_z-of_z {w = w64} {z = a.instant} (sfits_of (search rules))) at c.in-Ok.ensures.answer in
    record { answer = record { number = ap number_of q; handed = c.hand_held.ensures ∙ ap (λ o. after asked_numbers o a.parts.now) q }; read = ap records_read q }

pub returns-in-Err : goal.returns-in-Err
returns-in-Err c =
    let a = c.args in
    let q : asked (Err c.in-Err.refusal) ≡ question twelve a.file.now a.instant a.channel = rw (c.new.ensures, to_z-of_z {w = w64} {z = a.instant} (sfits_of (search rules))) at c.in-Err.ensures.answer in
    record { answer = record { number = c.into.ensures ∙ ap number_of q; handed = ap (λ o. after asked_numbers o a.parts.now) q }; read = ap records_read q }
