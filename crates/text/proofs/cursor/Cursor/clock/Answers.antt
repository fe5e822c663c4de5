-- `clock` meets its contract: the three pairs say the same, and eight octets are read. Assumes nothing.
use Rattle.std.proofs.Common.{sym, refl, ap, ◌∙◌}
use Rattle.text.specs.Pairs.{three_row}
use Rattle.text.proofs.cursor.Cursor.clock.Goals as goal

pub returns-in_err-hour : goal.returns-in_err-hour
returns-in_err-hour c = rw c.from_residual.ensures (sym (ap three_row c.in_err-hour.was) ∙ c.three_pairs.ensures, tt)

pub returns : goal.returns
returns c = (sym (ap three_row c.in_ok-hour.was) ∙ c.three_pairs.ensures, refl)
