-- `locate` meets its contract: the form that is chosen, and what its reader answers. Assumes nothing.
use mathlib.Core.Path.{sym, ◌∙◌}
use borrow.Author.Tests.{eq-eqb, ne_eqb}
use Rattle.format.specs.Values.{DatetimeTz}
use Rattle.format.specs.Extended.{head_bits}
use Rattle.format.specs.Reading.{first_bits}
use Rattle.stamp.proofs.Choosing.{as_compact, as_extended, as_text}
use Rattle.schedule.proofs.stamps.locate.Goals as goal

pub returns-then-stamp-longest : goal.returns-then-stamp-longest
returns-then-stamp-longest c = rw (as_compact DatetimeTz _ (rw c.longest.ensures at c.if-stamp-longest.true)) c.locate_datetime_tz.ensures

pub returns-then-stamp-head_bits : goal.returns-then-stamp-head_bits
unfolding first_bits head_bits
returns-then-stamp-head_bits c =
    rw (as_extended DatetimeTz _ (rw c.longest.ensures at c.if-stamp-longest.false) (eq-eqb _ _ (c.if-stamp-head_bits.true ∙ c.head_bits.ensures))) c.locate_datetime_tz-then-stamp-head_bits.ensures

pub returns : goal.returns
unfolding first_bits head_bits
returns c =
    rw (as_text DatetimeTz _ (rw c.longest.ensures at c.if-stamp-longest.false) (ne_eqb _ _ (λ p. c.if-stamp-head_bits.false (p ∙ sym c.head_bits.ensures)))) c.locate_datetime_tz-2.ensures
