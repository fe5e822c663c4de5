-- A count since 0001-01-01 is a local reading in milliseconds. Assumes nothing.
use mathlib.Core.Path.{◌≡◌, refl}
use mathlib.Core.Bool.{true}
use Prim.Native.Nat.{ℕ, ◌+◌, ◌*◌, ◌/◌, ◌%◌, ◌≤◌}
use native.Mathlib.Omega.{arith}
use lib.IntN.{ℤ}
use Rattle.format.specs.Calendar.{last_number}
use Rattle.format.specs.Values.{Kind, DatetimeTz, dated}
use Rattle.format.specs.Local.{day_part}
use Rattle.format.specs.Compact.{millis_per_day, per_day}
use Rattle.format.specs.CompactReading.{compact_value}
use Rattle.format.proofs.Dates.{number_date}
use Rattle.values.specs.Answers.{local_and_offset}
use Rattle.compact.proofs.Flags.{units_timed}

whole : (n : ℕ) → n / 86400000 * 86400000000 + n % 86400000 * 1000 ≡ n * 1000
whole n = omega arith

pub small : (n : ℕ) → n / 86400000 ≤ 3652058 → n * 1000 ≤ 315537897600000000
small n h = omega arith

pub located_at : (n : ℕ) (o : ℤ) → n / millis_per_day ≤ 3652058 → (n * 1000, o) ≡ local_and_offset (compact_value DatetimeTz n o)
unfolding compact_value per_day
located_at n o h = rw ((number_date (n / millis_per_day) (omega arith)).1, whole n)

-- the days of a count in its range
pub in_days : (k : Kind) (n : ℕ) → k ≡ DatetimeTz → (dated k ≡ true → day_part (per_day k) n ≤ last_number) → n / millis_per_day ≤ 3652058
in_days k n e h = rw (e, units_timed DatetimeTz refl) at h refl
