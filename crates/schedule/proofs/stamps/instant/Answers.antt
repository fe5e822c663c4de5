-- `instant` meets its contract: the local reading of a stamp less its offset. Assumes nothing.
use mathlib.Core.Path.{sym}
use native.Mathlib.Omega.{arith}
use mir.Syntax.{w64}
use mir.Facts.{to_z-of_z}
use Rattle.schedule.proofs.Timing.{Told, told}
use Rattle.schedule.proofs.stamps.instant.Goals as goal
use Rattle.schedule.proofs.stamps.instant.Goals.{In_ok-located}

known : (c : In_ok-located) → Told c.args.stamp.now c.in_ok-located.located.local c.in_ok-located.located.offset.minutes
known c = told c.args.stamp.now _ _ (λ i. omega (arith, c.shared_slice_known-1.given i)) c.in_ok-located.ensures

pub in_utc-requires : goal.in_utc-requires
in_utc-requires c = let t = known (goal.at.in_utc-requires c).In_ok-located in (t.few, t.offset)

pub returns : goal.returns
returns c = rw (to_z-of_z {w = w64} {z = c.in_utc.result} (record { sfits = c.in_utc.type_inv }), c.in_utc.ensures) (sym (known (goal.at.returns c).In_ok-located).instant)
