-- `within_month::restate` meets its contract: where the day stays in its month, the law of clocks (`stays`); elsewhere it says nothing. Assumes nothing.
use Rattle.std.proofs.Common.{◌≡◌, ◌-◌, true, refl, sym, ap, ◌∙◌, arith}
use Rattle.format.specs.Calendar.{leap}
use Rattle.format.specs.Values.{DatetimeTz, in_range}
use Rattle.format.proofs.Dates.{parts, short_month}
use Rattle.values.specs.Meaning.{datetime_tz_value}
use Rattle.moments.proofs.Stamps.{good}
use Rattle.instants.proofs.Clocks.{stays}
use Rattle.instants.proofs.within_month.restate.Goals as goal
use Rattle.instants.proofs.within_month.restate.Goals.{Else-not-in_range}

known : (c : Else-not-in_range) → in_range DatetimeTz (datetime_tz_value c.args.stamp) ≡ true
known c = sym (ap (in_range DatetimeTz) c.parts.ensures) ∙ sym c.if-not-in_range.ensures

pub reads-read-requires : goal.reads-read-requires
reads-read-requires c =
    let g = good _ (known (goal.at.reads-read-requires c).Else-not-in_range) in
    (g.time, g.offset, sym c.if-not-in_range-2.ensures)

pub overflow_cast-day-2 : goal.overflow_cast-day-2
overflow_cast-day-2 c =
    let d = (datetime_tz_value c.args.stamp).date in
    let p = parts d (good _ (known (goal.at.overflow_cast-day-2 c).Else-not-in_range)).day in
    let m = short_month (leap d.year) (d.month - 1) in
    record { fits = omega (arith, p.day_high, c.whole_days-days.ensures, c.reads-read.ensures.1) }

pub returns : goal.returns
returns c =
    rw (c.new-date.ensures, c.new.ensures)
    (stays _ _ _ _ _ (known (goal.at.returns c).Else-not-in_range) (sym c.if-not-in_range-2.ensures) refl c.whole_days-days.ensures c.reads-read.ensures.0 (rw c.new-date.ensures at (sym c.if-not-in_range-3.ensures)))
