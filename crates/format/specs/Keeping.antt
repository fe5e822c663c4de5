-- What a form keeps of a value: the value that is read where this one was written. (Demand 3: cut to what its form keeps.)
--
--   own k ..     a value with the parts that the kind has; the others are 0
--   owned k v    the same of a value
--   down u m     m cut down to a multiple of u
--   cut k f v    what the form f keeps of v
use Rattle.std.specs.Prelude.{ℕ, ◌+◌, ◌*◌, ◌/◌, ℤ, pos, eqb}
use Rattle.format.specs.Words.{pick, both, if_any}
use Rattle.format.specs.Calendar.{Day, no_date, day_number, day_of}
use Rattle.format.specs.Values.{Kind, dated, timed, zoned, Value, end_of_day, Form, text, compact, extended}
use Rattle.format.specs.Text.{fraction_unit}

unfoldable pub own : Kind → Day → ℕ → ℤ → Value
own k date micros offset =
    record {
      date = pick (dated k) date no_date;
      micros = if_any (timed k) micros;
      offset = pick (zoned k) offset (pos 0);
    }

abbrev pub owned : Kind → Value → Value
owned k v = own k v.date v.micros v.offset

unfoldable pub down : ℕ → ℕ → ℕ
down unit micros = micros / unit * unit

-- Text keeps its digits of the second, compact the milliseconds, extended all. Compact date-time: the end of a day reads as the start of the
-- next; a compact time of 24:00 stays 24:00. The microseconds of the day are cut, so it is a floor before 2020 too.
unfoldable pub cut : Kind → Form → Value → Value
cut k (text d) v = own k v.date (down (fraction_unit d) v.micros) v.offset
cut k compact v =
    pick (both (both (dated k) (timed k)) (eqb v.micros end_of_day))
    (own k (day_of (day_number v.date + 1)) 0 v.offset)
    (own k v.date (down 1000 v.micros) v.offset)
cut k extended v = own k v.date v.micros v.offset
