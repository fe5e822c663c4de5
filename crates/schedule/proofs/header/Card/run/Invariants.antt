-- `run` meets its contract: each turn passes one record more, and what is left comes to the same. Assumes nothing.
use mathlib.Core.Path.{◌≡◌}
use Prim.Native.Nat.{◌-◌}
use Rattle.card.specs.Header.{twelve, count_of}
use Rattle.card.specs.Reading.{walk}
use Rattle.card.specs.Question.{later}
use Rattle.schedule.specs.Steps.{before_from, ending}
use Rattle.schedule.proofs.Endings.{Far}
use Rattle.schedule.proofs.header.Card.run.Given as goal

abbrev pub invariant-loop-i : goal.invariant-loop-i
invariant-loop-i l =
    Far l.self.file.now l.until l.from l.i l.before.last
    × (ending l.i (walk twelve l.self.file.now (later l.until) l.i (count_of l.self.file.now - l.i) (before_from l.before))
    ≡ ending l.from (walk twelve l.self.file.now (later l.until) l.from (count_of l.self.file.now - l.from) (before_from l.initial.before)))
