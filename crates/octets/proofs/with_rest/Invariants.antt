-- `octets::with_rest`: the loop's number is that of the octets passed. Assumes nothing.
use Rattle.std.proofs.Common.{◌≡◌, ◌+◌}
use Rattle.octets.specs.Words.{so_far}
use Rattle.octets.proofs.with_rest.Given as goal

abbrev pub invariant-loop-octet : goal.invariant-loop-octet
invariant-loop-octet l = l.v ≡ so_far l.s l.at (l.passed + l.octet-index)
