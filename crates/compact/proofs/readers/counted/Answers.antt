-- `counted` meets its contract: what was seen at a glance is what was taken; of a rare length, what `octet_by_octet` says. Assumes nothing.
use Rattle.compact.proofs.ReadingSteps.{by_seen}
use Rattle.compact.proofs.readers.counted.Goals as goal

pub returns-in-Some-clause-value : goal.returns-in-Some-clause-value
returns-in-Some-clause-value c = by_seen _ _ _ c.in-Some.ensures c.counted.ensures.value
