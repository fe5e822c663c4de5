-- `instant_at` meets its contract: the part of the file is so many octets from there on. Assumes nothing.
use mathlib.Core.Path.{◌≡◌}
use Prim.Native.Nat.{◌+◌, ◌-◌}
use native.Mathlib.Omega.{arith}
use Rattle.schedule.proofs.stamps.instant_at.Goals as goal

pub returns : goal.returns
returns c =
    let a = c.args in
    let e : (a.from + a.length) - a.from ≡ a.length = omega arith in
    rw e at c.instant.ensures
