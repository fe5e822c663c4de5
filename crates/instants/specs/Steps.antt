-- What the code of this crate works with besides the definitions of `moments`.
--
--   two_days, five_days   so many days in microseconds
--   Restated r o          where r is a stamp, restating comes to it: o is what restating comes to
use Rattle.std.specs.Prelude.{◌≡◌, ℕ, Option, Some, None}
use Rattle.format.specs.Words.{Outcome, accepted}
use Rattle.format.specs.Values.{Value}
use Rattle.values.specs.declared.kinds.DatetimeTz.{DatetimeTz}
use Rattle.values.specs.Meaning.{datetime_tz_value}

abbrev pub two_days : ℕ
two_days = 172800000000

abbrev pub five_days : ℕ
five_days = 432000000000

abbrev pub Restated : Option DatetimeTz → Outcome Value → Type 0
Restated (Some v) o = o ≡ accepted (datetime_tz_value v)
Restated None o = Unit {0}
