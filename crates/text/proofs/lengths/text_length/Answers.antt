-- `text_length` meets its contract: only a time's length depends on the digits. Assumes nothing.
use Rattle.std.proofs.Common.{sym, ◌∙◌, arith}
use Rattle.values.specs.Meaning.{kind_from}
use Rattle.text.proofs.Wholes.{fraction_narrow}
use Rattle.text.proofs.DigitsFound.{length_digits, length_plain, whole_small}
use Rattle.text.proofs.lengths.text_length.Goals as goal

pub overflow_add-result : goal.overflow_add-result
overflow_add-result c = omega (arith, c.whole_length-whole.ensures, whole_small (kind_from c.args.kind), c.fraction_length.ensures, fraction_narrow c.args.digits.number, c.args.digits.few)

pub returns-then-timed : goal.returns-then-timed
returns-then-timed c = omega (arith, length_digits (kind_from c.args.kind) c.args.digits.number (sym c.if-timed.ensures), c.whole_length-whole.ensures, c.fraction_length.ensures)

pub returns : goal.returns
returns c = c.whole_length-whole.ensures ∙ sym (length_plain (kind_from c.args.kind) c.args.digits.number (sym c.if-timed.ensures))
