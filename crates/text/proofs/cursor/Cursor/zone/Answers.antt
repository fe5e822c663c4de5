-- `zone` meets its contract: the sign, and the two pairs behind it. Assumes nothing.
use Rattle.std.proofs.Common.{sym, refl, ap, ◌∙◌}
use Rattle.text.specs.Pairs.{two_row}
use Rattle.text.proofs.PartLaws.{zone_no_sign, zone_no_rest, zone_done}
use Rattle.text.proofs.cursor.Cursor.zone.Goals as goal

pub returns-then-not-is_sign : goal.returns-then-not-is_sign
returns-then-not-is_sign c = (zone_no_sign _ _ (sym c.if-not-is_sign.ensures), tt)

pub returns-in_err-hours : goal.returns-in_err-hours
returns-in_err-hours c = rw c.from_residual.ensures (zone_no_rest _ _ 6 (sym c.two_pairs.ensures ∙ ap two_row c.in_err-hours.was), tt)

pub returns : goal.returns
returns c =
    (zone_done _ _ _ _ _ c.is_minus.ensures (sym c.if-not-is_sign.ensures) (sym c.two_pairs.ensures ∙ ap two_row c.in_ok-hours.was), refl)
