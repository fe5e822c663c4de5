-- `octet_by_octet` meets its contract: the length first, then what was taken. Assumes nothing.
use mathlib.Core.Path.{sym, ◌∙◌}
use Rattle.compact.proofs.ReadingSteps.{no_length, by_taken}
use Rattle.compact.proofs.reading.octet_by_octet.Goals as goal

pub returns-then-not-has_length-clause-value : goal.returns-then-not-has_length-clause-value
returns-then-not-has_length-clause-value c = sym (no_length _ _ (sym c.if-not-has_length.ensures))

pub returns-clause-value : goal.returns-clause-value
returns-clause-value c = c.counted.ensures.value ∙ sym (by_taken _ _ _ (sym c.if-not-has_length.ensures) c.take.ensures)
