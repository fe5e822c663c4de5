-- `Ended::last_of` meets its contract. Assumes nothing.
use mathlib.Core.Path.{◌≡◌}
use Rattle.schedule.specs.Steps.{last_place}
use Rattle.schedule.proofs.walk.Ended.last_of.Given as goal

abbrev pub invariant-loop-i : goal.invariant-loop-i
invariant-loop-i l = last_place l.card.file.now l.channel l.i ≡ last_place l.card.file.now l.channel l.initial.i
