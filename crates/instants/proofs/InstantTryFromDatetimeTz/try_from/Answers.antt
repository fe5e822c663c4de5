-- `Instant::try_from` meets its contract: the difference of a local reading and an offset fits. Assumes nothing.
use Rattle.std.proofs.Common.{◌≡◌, ◌-ℤ◌, sym, ap, ◌∙◌, arith, w64, to_z, of_z}
use Rattle.std.proofs.lemmas.Int.{ints}
use Rattle.format.specs.Values.{DatetimeTz, rest_in_range}
use Rattle.calendar.specs.Meaning.{number_answered}
use Rattle.instants.proofs.Tests.{instant_known}
use Rattle.instants.proofs.InstantTryFromDatetimeTz.try_from.Goals as goal

pub returns : goal.returns
returns c =
    let day = sym (ap number_answered c.in_ok-day.ensures.ok_part) ∙ c.day_number.ensures in
    let rest = sym (ap (rest_in_range DatetimeTz) c.parts.ensures) ∙ sym c.if-not-rest_in_range.ensures in
    let less : to_z w64 (of_z w64 (to_z w64 (of_z w64 c.local_reading.result) -ℤ to_z w64 (of_z w64 c.ahead_of_utc.result))) ≡ c.local_reading.result -ℤ c.ahead_of_utc.result = omega (arith, ints) in
    rw (less, c.local_reading.ensures.value, c.ahead_of_utc.ensures.value) (sym (instant_known _ _ day rest))
