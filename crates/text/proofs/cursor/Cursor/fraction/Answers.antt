-- `fraction` meets its contract: three digits as a word, others one by one, and as many octets as the field is wide. Assumes nothing.
use Rattle.std.proofs.Common.{◌≡◌, sym, ap, ◌∙◌, arith}
use Rattle.format.specs.Fields.{width}
use Rattle.text.specs.Putting.{fraction_field}
use Rattle.text.specs.Pairs.{number_row}
use Rattle.text.proofs.PartLaws.{part_width}
use Rattle.text.proofs.cursor.Cursor.fraction.Goals as goal
use Rattle.text.proofs.cursor.Cursor.fraction.Goals.{Then-digits-eq3}

-- three digits and their point
wide : (c : Then-digits-eq3) → width (fraction_field c.before.before.args.digits.number) ≡ 4
wide c = part_width c.before.before.args.digits.number (omega (arith, c.if-digits-eq3.true)) ∙ rw c.if-digits-eq3.true

pub thousandths-requires : goal.thousandths-requires
thousandths-requires c = omega (arith, c.requires, wide (goal.at.thousandths-requires c).Then-digits-eq3)

pub returns-then-digits-eq3 : goal.returns-then-digits-eq3
returns-then-digits-eq3 c =
    (sym (ap number_row c.in_ok-micros.was) ∙ c.thousandths.ensures ∙ rw c.if-digits-eq3.true, omega (arith, wide (goal.at.returns-then-digits-eq3 c).Then-digits-eq3))
