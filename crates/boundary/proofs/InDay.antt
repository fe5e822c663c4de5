-- What the calls on instants state has a time of the day: never at 24:00, so its cast keeps it. Assumes nothing.
use mathlib.Core.Path.{◌≡◌, refl}
use native.Mathlib.Omega.{arith}
use lib.IntN.{ℤ}
use Rattle.format.specs.Words.{Outcome, accepted, refused}
use Rattle.format.specs.Values.{Value}
use Rattle.moments.specs.Calls.{at, restate}
use Rattle.moments.proofs.Restating.{was_at, restated}
use Rattle.boundary.specs.Utc.{in_day}

pub at_in_day : (i o : ℤ) → in_day (at i o)
at_in_day i o = go (at i o) refl
  where
    go : (x : Outcome Value) → at i o ≡ x → in_day x
    go (accepted w) e = omega (arith, (was_at i o w e).2.time)
    go (refused n) e = tt

pub restate_in_day : (v : Value) (o : ℤ) → in_day (restate v o)
restate_in_day v o = go (restate v o) refl
  where
    go : (x : Outcome Value) → restate v o ≡ x → in_day x
    go (accepted w) e = omega (arith, (restated v o w e).2.time)
    go (refused n) e = tt
