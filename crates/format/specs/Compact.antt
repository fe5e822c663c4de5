-- The compact form, written: two octets of offset where it is carried, then one number as a BER integer. (01, Compact.)
--
--   millis_per_day, epoch     86,400,000; the day number of 2020-01-01
--   per_day k                 a day's units: its milliseconds where there is a time, else the day itself
--   start k                   2020-01-01T00:00 in these units, since 0001-01-01; 0 where there is no date
--   count k v                 the value in these units, since 0001-01-01
--   number k v                the number that is written: the same since 2020-01-01, so negative before it
--   greatest k front          the greatest number that is written; `front`: behind an offset
--   carried k v               the offset is written in front
--   has_compact k v           the value has a compact form
--   padded_to k front         the number takes at least so many octets
--   number_octets k front x   how many octets the number x takes: as few as hold it, but no fewer than that
--   compact_image k v         the octets
use Rattle.std.specs.Prelude.{ℕ, ◌+◌, ◌*◌, ◌/◌, max, List, ◌++◌, Bool, not, ℤ, nat_abs, leb, eqb}
use Rattle.std.proofs.Math.IntN.{sub_ℕ}
use Rattle.format.specs.Words.{pick, both, needs, if_any}
use Rattle.format.specs.Calendar.{day_number}
use Rattle.format.specs.Values.{Kind, dated, timed, zoned, Value}
use Rattle.format.specs.Octets.{signed_octets, fewest_octets}
use Rattle.format.specs.Local.{join}

abbrev pub millis_per_day : ℕ
millis_per_day = 86400000

abbrev pub epoch : ℕ
epoch = 737424

-- ---- the number

unfoldable pub per_day : Kind → ℕ
per_day k = pick (timed k) millis_per_day 1

unfoldable pub start : Kind → ℕ
start k = if_any (dated k) (epoch * per_day k)

-- days; whole milliseconds of the day, cut; or both: floor before 2020 too, since it is the day's milliseconds that are cut (case M)
unfoldable pub count : Kind → Value → ℕ
count k v = join (per_day k) (if_any (dated k) (day_number v.date)) (if_any (timed k) (v.micros / 1000))

-- Date, DateTz: days from 2020-01-01. Time, TimeTz: milliseconds of the day. Datetime, DatetimeTz: T.
unfoldable pub number : Kind → Value → ℤ
number k v = sub_ℕ (count k v) (start k)

-- T is at most 140,737,488,355,327 without an offset, 251,824,463,999,999 with one; days end at 2,914,634, milliseconds at 24:00
unfoldable pub greatest : Kind → Bool → ℕ
greatest k front =
    pick (dated k) (pick (timed k) (pick front 251824463999999 140737488355327) 2914634) millis_per_day

-- DateTz: offset, zero too. TimeTz, DatetimeTz: only where it is not zero.
unfoldable pub carried : Kind → Value → Bool
carried k v = both (zoned k) (needs (timed k) (not (eqb (nat_abs v.offset) 0)))

-- beyond the limits is refusal 3
unfoldable pub has_compact : Kind → Value → Bool
has_compact k v = leb (count k v) (start k + greatest k (carried k v))

-- ---- the image

-- behind an offset days take at least 2 octets (000), milliseconds 3 and T 5 (settled by 01: without it 3 octets of a TimeTz could mean two things)
unfoldable pub padded_to : Kind → Bool → ℕ
padded_to k front = pick front (pick (timed k) (pick (dated k) 5 3) 2) 1

unfoldable pub number_octets : Kind → Bool → ℤ → ℕ
number_octets k front x = max (padded_to k front) (fewest_octets x)

-- an offset is always two octets, two's complement
unfoldable pub compact_image : Kind → Value → List ℕ
compact_image k v =
    signed_octets (if_any (carried k v) 2) v.offset ++ signed_octets (number_octets k (carried k v) (number k v)) (number k v)
