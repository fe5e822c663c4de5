-- `read` meets its contract: what the reader of the chosen form found, under the kind. Assumes nothing.
use native.Mathlib.Omega.{arith}
use Rattle.stamp.proofs.Decoding.{under_kind}
use Rattle.stamp.proofs.readers.read.Goals as goal

pub returns : goal.returns
returns g c = rw (c.decoded.ensures, c.of.ensures) (under_kind _ _ _ _ (λ i. omega (arith, c.type_inv.s i)) c.in_ok-value.ensures)
