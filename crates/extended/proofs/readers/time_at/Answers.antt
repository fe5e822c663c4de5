-- `time_at` meets its contract: an octet and four are the five. Assumes nothing.
use Rattle.extended.proofs.Places.{octets, five}
use Rattle.extended.proofs.readers.time_at.Goals as goal

pub returns : goal.returns
returns c = rw (c.new.ensures, c.take4.ensures) (five _ (octets _ c.type_inv.s) c.args.at)
