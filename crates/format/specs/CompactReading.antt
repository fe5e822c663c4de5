-- The compact form, read. (01, Compact, How a reader chooses, Refusal numbers.)
--
--   longest k                    up to so many octets are read as compact
--   shortest k                   and from so many on they have a length that compact can have
--   longest_plain k              the most octets that a number without an offset takes
--   carried_in k n               n octets have an offset in front
--   not_before b x, counted b x  b + x is not below zero; and b + x
--   number_in_range k front x    the number is that of a value
--   usual k front o n x          n octets are as many as x takes, and the offset o in front is one that is written
--   compact_value k n o          the value of a count n since 0001-01-01 and an offset
--   read_compact k s             what reading s as compact comes to
use Rattle.std.specs.Prelude.{ℕ, suc, ◌+◌, ◌-◌, ◌*◌, List, Bool, true, not, ℤ, pos, negsuc, nat_abs, leb, ltb, eqb, length, take, drop}
use Rattle.format.specs.Words.{pick, both, needs, if_any, Outcome, accepted, unless}
use Rattle.format.specs.Calendar.{no_date, day_of}
use Rattle.format.specs.Values.{Kind, Date, DateTz, Time, TimeTz, Datetime, DatetimeTz, dated, timed, zoned, Value, offset_in_range}
use Rattle.format.specs.Octets.{signed_of}
use Rattle.format.specs.Local.{day_part, rest_part}
use Rattle.format.specs.Compact.{millis_per_day, per_day, start, greatest, number_octets}

-- the column 'Compact' of 01's table
abbrev pub longest : Kind → ℕ
longest Date = 3
longest DateTz = 5
longest Time = 4
longest TimeTz = 6
longest Datetime = 6
longest DatetimeTz = 9

-- DateTz below 4 is refusal 5, and zero octets always
unfoldable pub shortest : Kind → ℕ
shortest k = pick (both (zoned k) (not (timed k))) 4 1

unfoldable pub longest_plain : Kind → ℕ
longest_plain k = pick (dated k) (pick (timed k) 6 3) 4

-- always in a DateTz; TimeTz exactly at lengths 5 and 6, DatetimeTz exactly at 7 to 9: where they are too many for a number alone
unfoldable pub carried_in : Kind → ℕ → Bool
carried_in k n = both (zoned k) (needs (timed k) (ltb (longest_plain k) n))

abbrev pub not_before : ℕ → ℤ → Bool
not_before b (pos a) = true
not_before b (negsuc a) = ltb a b

abbrev pub counted : ℕ → ℤ → ℕ
counted b (pos a) = a + b
counted b (negsuc a) = b - suc a

-- not before 0001-01-01 (a time: not before 00:00), and not beyond the limit of what is written
unfoldable pub number_in_range : Kind → Bool → ℤ → Bool
number_in_range k front x = both (not_before (start k) x) (leb (counted (start k) x) (start k + greatest k front))

-- refusal 7: a BER integer longer than fewest_or_padded; offset zero in TimeTz of 5 or 6, DatetimeTz of 7 to 9
unfoldable pub usual : Kind → Bool → ℤ → ℕ → ℤ → Bool
usual k front offset n x =
    both (leb n (number_octets k front x)) (needs (both front (timed k)) (not (eqb (nat_abs offset) 0)))

unfoldable pub compact_value : Kind → ℕ → ℤ → Value
compact_value k n offset =
    record {
      date = pick (dated k) (day_of (day_part (per_day k) n)) no_date;
      micros = if_any (timed k) (pick (dated k) (rest_part millis_per_day n) n * 1000);
      offset = offset;
    }

-- 7, 8, with an offset in front or none
unfoldable pub read_number : Kind → Bool → List ℕ → Outcome Value
read_number k front s =
    let offset = signed_of (take (if_any front 2) s) in
    let octets = drop (if_any front 2) s in
    let x = signed_of octets in
    unless (usual k front offset (length octets) x) 7
    (unless (both (offset_in_range offset) (number_in_range k front x)) 8
    (accepted (compact_value k (counted (start k) x) offset)))

-- 5
unfoldable pub read_compact : Kind → List ℕ → Outcome Value
read_compact k s =
    unless (both (leb (shortest k) (length s)) (leb (length s) (longest k))) 5
    (read_number k (carried_in k (length s)) s)
