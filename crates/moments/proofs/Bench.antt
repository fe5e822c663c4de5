-- The bench, computed from the definitions. Assumes nothing.
-- A check reports this file before the laws: a definition that is changed wrongly fails here by a value, before a proof no longer fits.
use mathlib.Core.Path.{refl}
use Rattle.format.specs.Walk.{sum_from, place}
use Rattle.format.specs.Calendar.{leap, year_length, month_length, is_day, day_number, day_of}
use Rattle.format.specs.Values.{in_range, time_in_range, offset_in_range}
use Rattle.moments.specs.Instant.{local_of, ahead, instant_of, is_instant, local_at, stamp_of}
use Rattle.moments.specs.Calls.{instant, add, difference, at, restate}
use Rattle.moments.specs.Bench.{OfStamps, OfSums, OfRestating}

pub of_stamps : OfStamps
unfolding instant in_range is_day leap month_length time_in_range offset_in_range instant_of local_of day_number sum_from year_length ahead
of_stamps = (refl, refl, refl, refl, refl, refl, refl, refl, refl, refl)

pub of_sums : OfSums
unfolding add difference is_instant
of_sums = (refl, refl, refl, refl, refl, refl, refl, refl, refl, refl, refl, refl)

pub of_restating : OfRestating
unfolding restate at in_range is_day leap month_length time_in_range offset_in_range instant_of is_instant local_at stamp_of local_of day_number day_of place sum_from year_length ahead
of_restating = (refl, refl, refl, refl, refl, refl, refl, refl, refl, refl, refl, refl, refl, refl, refl, refl, refl)
