-- `hand` meets its contract: what was read has a time in range, so that its cast keeps it. Assumes nothing.
use mathlib.Core.Path.{ap}
use native.Mathlib.Omega.{arith}
use Rattle.format.specs.Values.{Value}
use Rattle.boundary.proofs.Parts.{in_day_lem}
use Rattle.boundary.proofs.handing.hand.Goals as goal

pub put_parts-requires : goal.put_parts-requires
put_parts-requires g c = rw (ap (λ (v : Value). v.micros) c.value.ensures) (in_day_lem g.T.Stamp.kind _ c.in-Ok.decoded (λ i. omega (arith, c.type_inv.octets i)) c.in-Ok.ensures)
