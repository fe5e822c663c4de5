-- `octets::fewest_octets` meets its contract: the count by leading zeros is the least. Assumes nothing.
use Rattle.std.proofs.Common.{ap, ◌∙◌, to_z-of_z}
use lib.Signed.{mag}
use Rattle.octets.proofs.Counting.{fewest_by_zeros}
use Rattle.octets.proofs.fewest_octets.Goals as goal

pub returns : goal.returns
returns c = rw (c.magnitude.ensures ∙ ap mag (to_z-of_z c.ranges.x)) (fewest_by_zeros c.args.x c.ranges.x.sfits)
