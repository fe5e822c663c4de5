-- Instants: the instant of a DatetimeTz value, which numbers are instants, and the stamp of an instant at an offset. (02, request 2.)
-- `format/specs/Words.antt` has the legend of what is not ours; here also `a -ℤ b`, a less b, and `le_z a b`, a ≤ b, of integers.
--
--   local_of v                   the local reading of v: microseconds from 0001-01-01T00:00 on the stamp's own clock; 24:00 is the next day's start in it
--   minute                       a minute in microseconds
--   ahead o                      an offset of o minutes in microseconds, below 0 for a clock behind UTC
--   instant_of v                 the instant of v: its local reading less its offset
--   least_instant, greatest_instant   the instants of 0001-01-01T00:00+23:59 and of 9999-12-31T24:00-23:59
--   is_instant i                 i is an instant: one of the numbers from the least to the greatest. That these are the instants that some stamp has is
--                                claimed (`TheInstants`)
--   local_at i o                 what a clock that is o minutes ahead of UTC reads at the instant i
--   end_of_years                 the local reading of 10000-01-01T00:00, the first that no date has
--   in_years x                   the local reading x is one of the years 1 to 9999
--   stamp_of n o                 the value with local reading n and offset o, its time below 24:00
--   next_start v                 the start of the day after v's, at v's offset
use Rattle.std.specs.Prelude.{ℕ, suc, Bool, false, ℤ, pos, negsuc, neg_ℤ, ◌+ℤ◌, ◌-ℤ◌, ◌*ℤ◌, ltb}
use Rattle.std.specs.Int.Signed.{le_z}
use Rattle.format.specs.Words.{both}
use Rattle.format.specs.Calendar.{last_number, day_number, day_of}
use Rattle.format.specs.Local.{join, day_part, rest_part}
use Rattle.format.specs.Values.{Value, end_of_day}

-- "24:00 counts as the next day's start"
unfoldable pub local_of : Value → ℕ
local_of v = join end_of_day (day_number v.date) v.micros

abbrev pub minute : ℕ
minute = 60000000

unfoldable pub ahead : ℤ → ℤ
ahead o = o *ℤ pos minute

-- "microseconds from 0001-01-01T00:00 UTC, signed, as local reading less offset": 00:30 at +01:00 on the first day is -1,800,000,000
unfoldable pub instant_of : Value → ℤ
instant_of v = pos (local_of v) -ℤ ahead v.offset

-- 00:00 on the first day, 23:59 ahead of UTC
abbrev pub least_instant : ℤ
least_instant = neg_ℤ (pos 86340000000)

-- 24:00 on the last day, 23:59 behind UTC
abbrev pub greatest_instant : ℤ
greatest_instant = pos 315537983940000000

unfoldable pub is_instant : ℤ → Bool
is_instant i = both (le_z least_instant i) (le_z i greatest_instant)

unfoldable pub local_at : ℤ → ℤ → ℤ
local_at i o = i +ℤ ahead o

abbrev pub end_of_years : ℕ
end_of_years = join end_of_day (suc last_number) 0

-- "a local reading outside years 1 to 9999": before 0001-01-01T00:00, or from 10000-01-01T00:00 on
abbrev pub in_years : ℤ → Bool
in_years (pos n) = ltb n end_of_years
in_years (negsuc n) = false

-- "the result never uses 24:00"
unfoldable pub stamp_of : ℕ → ℤ → Value
stamp_of n o = record { date = day_of (day_part end_of_day n); micros = rest_part end_of_day n; offset = o }

abbrev pub next_start : Value → Value
next_start v = record { date = day_of (suc (day_number v.date)); micros = 0; offset = v.offset }
