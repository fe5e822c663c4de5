-- `Ended::last_of` meets its contract: from behind, the first record of the channel is the last one. Assumes nothing.
use mathlib.Core.Path.{◌≡◌, sym, ap, ◌∙◌}
use Prim.Native.Nat.{◌+◌, ◌-◌}
use native.Mathlib.Omega.{arith}
use Rattle.schedule.specs.Steps.{last_place}
use Rattle.schedule.proofs.Finding.{last_here, last_below, last_none}
use Rattle.schedule.proofs.walk.Ended.last_of.Goals as goal

pub returns-then-fields-channel : goal.returns-then-fields-channel
returns-then-fields-channel c =
    let l = c.loop-i in
    let z : l.i - 1 + 1 ≡ l.i = omega arith in
    let e = sym (ap (λ x. x.channel) c.fields.ensures) ∙ c.if-fields-channel.true in
    (omega arith, sym l.invariant ∙ last_here c.args.card.file.now c.args.channel l.i (omega arith) e ∙ sym z)

pub loop-i-preserved : goal.loop-i-preserved
loop-i-preserved c =
    let l = c.loop-i in
    last_below c.args.card.file.now c.args.channel l.i (omega arith) (λ e. c.if-fields-channel.false (ap (λ x. x.channel) c.fields.ensures ∙ e)) ∙ l.invariant

pub returns : goal.returns
returns c =
    let l = c.loop-i in
    let z : l.i ≡ 0 = omega arith in
    sym l.invariant ∙ ap (last_place c.args.card.file.now c.args.channel) z ∙ last_none c.args.card.file.now c.args.channel
