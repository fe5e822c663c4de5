-- `calendar::years::elapsed_at` meets its contract: both quotients by one product. Assumes nothing.
use mathlib.Core.Path.{refl}
use Rattle.calendar.proofs.March.{elapsed}
use Rattle.calendar.proofs.years.elapsed_at.Goals as goal

pub returns : goal.returns
returns c = elapsed _ _ _ c.requires c.centuries_before-centuries.ensures refl refl
