-- What the parts of a text mean. The legend:
--
--   counted n r          r is the number n of fraction digits, or None where it is above 6
--   clock_in_day m n u   minute m and second n are at most 59, and the microseconds u of the whole time at most a day
--   minus_of b           the number of a sign: 1 for `-`
--   offset_of z          the offset in minutes: the sign is that of the whole
use Rattle.std.specs.Prelude.{◌≡◌, ℕ, ◌+◌, ◌*◌, ◌<◌, Bool, ℤ, pos, neg_ℤ, nat_le, Option, Some, None}
use Rattle.format.specs.Words.{pick, both}
use Rattle.format.specs.Values.{time_in_range}
use Rattle.text.specs.declared.fraction.Digits.{Digits}
use Rattle.text.specs.declared.parts.Zone.{Zone}

abbrev pub counted : ℕ → Option Digits → Type 0
counted n (Some d) = d.number ≡ n
counted n None = 6 < n

abbrev pub clock_in_day : ℕ → ℕ → ℕ → Bool
clock_in_day m n u = both (nat_le m 59) (both (nat_le n 59) (time_in_range u))

abbrev pub minus_of : Bool → ℕ
minus_of b = pick b 1 0

unfoldable pub offset_of : Zone → ℤ
offset_of z = pick z.minus (neg_ℤ (pos (z.hours * 60 + z.minutes))) (pos (z.hours * 60 + z.minutes))
