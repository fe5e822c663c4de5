-- `octets::put_signed_in`: what is still to be stored, stored, gives what the contract says. Assumes nothing.
use Rattle.std.proofs.Common.{◌≡◌}
use lib.Seq.{sets}
use Rattle.format.specs.Octets.{signed_octets}
use Rattle.octets.proofs.put_signed_in.Given as goal

abbrev pub invariant-loop-i : goal.invariant-loop-i
invariant-loop-i l = sets l.buf l.at (signed_octets l.i l.v) ≡ sets l.initial.buf l.at (signed_octets l.n l.x)
