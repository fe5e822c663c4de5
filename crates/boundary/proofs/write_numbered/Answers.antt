-- `write_numbered` meets its contract: no such kind, after the digits; or what the writer of that kind leaves. Assumes nothing.
use mathlib.Core.Path.{sym, ◌∙◌}
use Rattle.format.specs.Words.{accepted, refused}
use Rattle.format.proofs.Cases.{not_true, not_false}
use Rattle.values.proofs.Writes.{refuses}
use Rattle.boundary.proofs.Numbered.{writing_at}
use Rattle.boundary.proofs.write_numbered.Goals as goal

pub returns-then-not-in_range : goal.returns-then-not-in_range
returns-then-not-in_range c = rw (writing_at _ _ _ (refused 2) c.in_default.ensures, sym c.in_range.ensures ∙ not_true _ c.if-not-in_range.true-raw) (refuses 1 _)

pub returns-in_default : goal.returns-in_default
returns-in_default c = rw (writing_at _ _ _ (refused 2) c.in_default.ensures, sym c.in_range.ensures ∙ not_false _ c.if-not-in_range.false-raw) (refuses 2 _)

pub returns : goal.returns
returns c = rw (writing_at _ _ _ (accepted _) c.in-Ok.ensures) c.write_known.ensures
