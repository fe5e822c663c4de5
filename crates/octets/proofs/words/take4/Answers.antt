-- `octets::take4` meets its contract: octet by octet, most significant first. Assumes nothing.
use Rattle.std.proofs.Common.{◌≡◌, ◌+◌, arith}
use Rattle.format.specs.Octets.{unsigned_at}
use Rattle.octets.proofs.words.take4.Goals as goal

pub returns : goal.returns
unfolding unsigned_at
returns c = let z : c.args.at + 0 ≡ c.args.at = omega arith in rw z (omega (arith, c.from_be_bytes.ensures))
