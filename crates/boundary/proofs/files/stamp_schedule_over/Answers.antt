-- `stamp_schedule_over` meets its contract: the part that `part_over` answers, in numbers. Assumes nothing.
use mathlib.Core.Path.{◌≡◌, sym, ap, ◌∙◌}
use mathlib.Core.List.{List, [], ◌∷◌}
use Prim.Native.Nat.{ℕ}
use mir.Syntax.{w64}
use mir.Facts.{to_z-of_z}
use lib.IntN.{ℤ}
use Rattle.card.specs.Over.{Part as FilePart}
use Rattle.schedule.specs.declared.parts.Source.{Source}
use Rattle.schedule.specs.declared.parts.Source.TheVariants as S
use Rattle.schedule.specs.declared.parts.Part.{Part}
use Rattle.schedule.specs.Meaning.{source_from}
use Rattle.schedule.specs.Calls.{ChoosesPart}
use Rattle.boundary.specs.Files.{source_number, part_numbers, OverForC}
use borrow.Author.Rules.{rules, sfits_of}
use Rattle.boundary.proofs.files.stamp_schedule_over.Goals as goal
use Rattle.boundary.proofs.files.stamp_schedule_over.Goals.{After-part_over-found}

-- which file is known, and its number
numbered : (p m : List ℕ) (t : ℤ) (c : ℕ) (q : Part) (x : Source) → ChoosesPart p m (record { micros = t }) c q → q.source ≡ x → OverForC p m t c (source_number (source_from x)) (q.start ∷ q.length ∷ [])
numbered p m t c q x h e =
    record { source = ap (λ (y : Source). source_number (source_from y)) (sym e) ∙ ap (λ (y : FilePart). source_number y.source) h; part = ap part_numbers h }

chooses : (c : After-part_over-found) → (let a = c.args in ChoosesPart a.plan.now a.manual.now (record { micros = a.instant }) a.channel c.part_over-found.result)
chooses c = let a = c.args in rw (c.new.ensures, to_z-of_z {w = w64} {z = a.instant} (sfits_of (search rules))) at c.part_over-found.ensures

pub returns-in-Plan : goal.returns-in-Plan
returns-in-Plan c = numbered _ _ _ _ c.part_over-found.result S.Plan (chooses (goal.at.returns-in-Plan c).After-part_over-found) c.in-Plan.is

pub returns-in-Manual : goal.returns-in-Manual
returns-in-Manual c = numbered _ _ _ _ c.part_over-found.result S.Manual (chooses (goal.at.returns-in-Manual c).After-part_over-found) c.in-Manual.is
