-- `cut` meets its contract: the octets, the memory of the file and the place in it. Assumes nothing.
use mathlib.Core.Path.{◌≡◌, refl}
use Prim.Native.Nat.{◌+◌, ◌-◌}
use native.Mathlib.Nat.{add_comm}
use native.Mathlib.Omega.{arith}
use Rattle.card.proofs.Slices.{slice_length}
use Rattle.schedule.proofs.parts.cut.Goals as goal

pub returns : goal.returns
returns c =
    let a = c.args in
    let e : (a.start + a.count) - a.start ≡ a.count = omega arith in
    record { count = rw e (slice_length a.file.now a.start a.count c.requires); octets = rw e; memory = refl; place = add_comm a.start a.file.ref_ptr.1 }
