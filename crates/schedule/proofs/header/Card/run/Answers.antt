-- `run` meets its contract: each turn passes one record more, and what is left comes to the same. Assumes nothing.
use mathlib.Core.Path.{◌≡◌, sym, ap, ◌∙◌}
use mathlib.Core.Bool.{not}
use Prim.Native.Nat.{suc, ◌+◌, ◌<◌}
use native.Mathlib.Omega.{arith}
use mir.Syntax.{w64}
use mir.Facts.{to_z-of_z}
use borrow.Author.Rules.{rules, sfits_of}
use Rattle.card.specs.Header.{count_of}
use Rattle.schedule.specs.Steps.{before_from, taken}
use Rattle.schedule.proofs.Ranges.{late, in_order_lem}
use Rattle.schedule.proofs.Walking.{step_took, step_bad, taken_is, taken_small}
use Rattle.schedule.proofs.Endings.{end_all, end_bad, end_stop, Far, far_on, stands_all, stands_late, turned}
use Rattle.schedule.proofs.header.Card.run.Goals as goal

pub returns-then-until-taken : goal.returns-then-until-taken
returns-then-until-taken c =
    let octets = c.args.self.in_octets in
    let some_left : c.loop-i.i < c.args.self.records = omega arith in
    let below : c.loop-i.i < count_of c.args.self.file.now = omega (arith, some_left, c.args.self.counted) in
    let far : Far c.args.self.file.now c.args.until c.args.from c.loop-i.i c.loop-i.before.last = rw (to_z-of_z {w = w64} {z = c.args.until} c.ranges.until) at c.loop-i.invariant.0 in
    let a = c.args in
    let s = a.self.file.now in
    let l = c.loop-i in
    let t = c.in-Ok.taken in
    let b = before_from l.before in
    let k : l.i + 1 ≡ suc l.i = omega arith in
    let u = late a.until t.instant c.ranges.until (sfits_of (search rules)) c.if-until-taken.true in
    let e = step_took s l.i b t _ c.in-Ok.is c.step.ensures in
    let v = rw (to_z-of_z {w = w64} {z = a.until} c.ranges.until) at l.invariant.1 in
    rw (to_z-of_z {w = w64} {z = l.before.last} (sfits_of (search rules)), to_z-of_z {w = w64} {z = t.instant} (sfits_of (search rules))) (
      stands_late s a.until a.from octets l.i _ far b t e below u,
      rw k (sym v ∙ end_stop s a.until (count_of s) l.i b (taken l.i t) below e (ap not u)),
    )

pub end-requires : goal.end-requires
end-requires c =
    let octets = c.args.self.in_octets in
    let s = c.args.self.file.now in
    let l = c.loop-i in
    let t = c.in-Ok.taken in
    let b = before_from l.before in
    let e = step_took s l.i b t _ c.in-Ok.is c.step.ensures in
    taken_small s l.i t octets (taken_is s l.i b t e)

pub loop-i-preserved : goal.loop-i-preserved
loop-i-preserved c =
    let octets = c.args.self.in_octets in
    let some_left : c.loop-i.i < c.args.self.records = omega arith in
    let below : c.loop-i.i < count_of c.args.self.file.now = omega (arith, some_left, c.args.self.counted) in
    let far : Far c.args.self.file.now c.args.until c.args.from c.loop-i.i c.loop-i.before.last = rw (to_z-of_z {w = w64} {z = c.args.until} c.ranges.until) at c.loop-i.invariant.0 in
    let a = c.args in
    let s = a.self.file.now in
    let l = c.loop-i in
    let t = c.in-Ok.taken in
    let b = before_from l.before in
    let e = step_took s l.i b t _ c.in-Ok.is c.step.ensures in
    let u = in_order_lem a.until t.instant c.ranges.until (sfits_of (search rules)) c.if-until-taken.false in
    let v = rw (to_z-of_z {w = w64} {z = a.until} c.ranges.until) at l.invariant.1 in
    rw (c.end.ensures, to_z-of_z {w = w64} {z = a.until} c.ranges.until, to_z-of_z {w = w64} {z = t.instant} (sfits_of (search rules))) (
      far_on s a.until a.from octets l.i _ far b t e below u,
      turned s a.until a.from octets l.i _ far b t e below u ∙ v,
    )

pub returns-in-Err : goal.returns-in-Err
returns-in-Err c =
    let some_left : c.loop-i.i < c.args.self.records = omega arith in
    let below : c.loop-i.i < count_of c.args.self.file.now = omega (arith, some_left, c.args.self.counted) in
    let s = c.args.self.file.now in
    let l = c.loop-i in
    let k : l.i + 1 ≡ suc l.i = omega arith in
    let e = step_bad s l.i (before_from l.before) _ _ c.in-Err.is c.step.ensures in
    rw k
    (sym (rw (to_z-of_z {w = w64} {z = c.args.until} c.ranges.until) at l.invariant.1)
    ∙ end_bad s c.args.until (count_of s) l.i (before_from l.before) _ below e)

pub returns : goal.returns
returns c =
    let s = c.args.self.file.now in
    let l = c.loop-i in
    let f : Far s c.args.until c.args.from l.i l.before.last = rw (to_z-of_z {w = w64} {z = c.args.until} c.ranges.until) at l.invariant.0 in
    let z : c.args.self.records ≡ l.i = omega arith in
    rw (to_z-of_z {w = w64} {z = l.before.last} (sfits_of (search rules)), z) (
      stands_all s c.args.until c.args.from l.i l.before.last f,
      sym (rw (to_z-of_z {w = w64} {z = c.args.until} c.ranges.until) at l.invariant.1)
          ∙ end_all s c.args.until (count_of s) l.i (before_from l.before) (omega (arith, c.args.self.counted)),
    )
