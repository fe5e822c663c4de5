-- `over` meets its contract: what `part_over` answers, cut out of the file that it names. Assumes nothing.
use Rattle.schedule.proofs.Parting.{within_plan, within_manual, hands_plan, hands_manual}
use Rattle.schedule.proofs.parts.over.Goals as goal

pub cut-requires : goal.cut-requires
cut-requires c =
    let a = c.args in
    within_plan a.plan.now a.manual.now a.instant a.channel c.part_over-part.result c.part_over-part.ensures c.in-Plan.is

pub cut-requires-in-Manual : goal.cut-requires-in-Manual
cut-requires-in-Manual c =
    let a = c.args in
    within_manual a.plan.now a.manual.now a.instant a.channel c.part_over-part.result c.part_over-part.ensures c.in-Manual.is

pub returns-in-Plan : goal.returns-in-Plan
returns-in-Plan c =
    let a = c.args in
    hands_plan a.plan a.manual a.instant a.channel c.part_over-part.result c.cut.result c.part_over-part.ensures c.in-Plan.is c.cut.ensures

pub returns-in-Manual : goal.returns-in-Manual
returns-in-Manual c =
    let a = c.args in
    hands_manual a.plan a.manual a.instant a.channel c.part_over-part.result c.cut-in-Manual.result c.part_over-part.ensures c.in-Manual.is c.cut-in-Manual.ensures
