-- `date` meets its contract: the century, and the three pairs behind it. Assumes nothing.
use Rattle.std.proofs.Common.{sym, refl, ap, ◌∙◌, arith}
use Rattle.text.specs.Pairs.{number_row, three_row}
use Rattle.text.proofs.PartLaws.{date_no_century, date_no_rest, date_done, century_small, three_small}
use Rattle.text.proofs.cursor.Cursor.date.Goals as goal

pub returns-in_err-century : goal.returns-in_err-century
returns-in_err-century c = rw c.from_residual.ensures (date_no_century _ _ 6 (sym c.pair.ensures ∙ ap number_row c.in_err-century.was), tt)

pub returns-in_err-year : goal.returns-in_err-year
returns-in_err-year c = rw c.from_residual-in_err-year.ensures (date_no_rest _ _ 6 (sym c.three_pairs.ensures ∙ ap three_row c.in_err-year.was), tt)

pub overflow_mul-century : goal.overflow_mul-century
overflow_mul-century c = omega (arith, century_small _ _ _ (sym c.pair.ensures ∙ ap number_row c.in_ok-century.was))

pub overflow_add-century : goal.overflow_add-century
overflow_add-century c =
    omega (
      arith,
      century_small _ _ _ (sym c.pair.ensures ∙ ap number_row c.in_ok-century.was),
      (three_small _ _ _ _ _ _ (sym c.three_pairs.ensures ∙ ap three_row c.in_ok-year.was)).first,
    )

pub returns : goal.returns
returns c =
    (rw c.new.ensures (date_done _ _ _ _ _ _ (sym c.pair.ensures ∙ ap number_row c.in_ok-century.was) (sym c.three_pairs.ensures ∙ ap three_row c.in_ok-year.was)), refl)
