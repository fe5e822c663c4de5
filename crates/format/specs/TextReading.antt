-- The text form, read. (01, Text and Refusal numbers.) The fields are unchecked numbers until the whole row fits; then 7, then the ranges.
--
--   digits_found k n       the number of fraction digits with which a text of this kind has n octets; 7 where there is none
--   Numbers, named         the ten numbers of a row by their names
--   minus_zero n           the offset is `-00:00`
--   clock_in_range n       hour, minute and second are in range; hour 24 only with nothing after it
--   numbers_in_range k n   every number is
--   text_value d n         the value that the numbers say
--   read_text k d s        what reading s as a text with d digits comes to
use Rattle.std.specs.Prelude.{ℕ, zero, suc, ◌+◌, ◌*◌, List, Bool, true, false, not, pos, neg_ℤ, leb, eqb, get_or}
use Rattle.format.specs.Words.{pick, both, either, needs, Outcome, accepted, unless}
use Rattle.format.specs.Calendar.{Day, is_day}
use Rattle.format.specs.Values.{Kind, dated, Value, most_digits}
use Rattle.format.specs.Fields.{fit, says}
use Rattle.format.specs.Text.{layout, text_length, fraction_unit}

-- the first of d, d + 1, .. digits, f of them tried, that gives the length
unfoldable pub digits_from : Kind → ℕ → ℕ → ℕ → ℕ
digits_from k n zero d = d
digits_from k n (suc f) d = elim (eqb (text_length k d) n) [ true ↦ d | false ↦ digits_from k n f (suc d) ]

unfoldable pub digits_found : Kind → ℕ → ℕ
digits_found k n = digits_from k n 7 0

pub record Numbers : Type 0 where
  pub year : ℕ
  pub month : ℕ
  pub day : ℕ
  pub hour : ℕ
  pub minute : ℕ
  pub second : ℕ
  pub fraction : ℕ
  pub minus : ℕ
  pub hours : ℕ
  pub minutes : ℕ

abbrev pub named : List ℕ → Numbers
named ns =
    record {
      year = get_or ns 0 0;
      month = get_or ns 1 0;
      day = get_or ns 2 0;
      hour = get_or ns 3 0;
      minute = get_or ns 4 0;
      second = get_or ns 5 0;
      fraction = get_or ns 6 0;
      minus = get_or ns 7 0;
      hours = get_or ns 8 0;
      minutes = get_or ns 9 0;
    }

-- refusal 7: text offset `-00:00`, these six octets only
unfoldable pub minus_zero : Numbers → Bool
minus_zero n = both (eqb n.minus 1) (both (eqb n.hours 0) (eqb n.minutes 0))

-- refusal 8: hour above 24 or 24 with anything after it (not the offset), minute or second above 59
unfoldable pub clock_in_range : Numbers → Bool
clock_in_range n =
    both (leb n.minute 59) (both (leb n.second 59)
    (either (leb n.hour 23)
    (both (eqb n.hour 24) (both (eqb n.minute 0) (both (eqb n.second 0) (eqb n.fraction 0))))))

abbrev pub day_named : Numbers → Day
day_named n = record { year = n.year; month = n.month; day = n.day }

-- and: no such day, year 0000; text offset hour above 23 or minute above 59. The calendar is asked here and nowhere else.
unfoldable pub numbers_in_range : Kind → Numbers → Bool
numbers_in_range k n =
    both (needs (dated k) (is_day (day_named n))) (both (clock_in_range n) (both (leb n.hours 23) (leb n.minutes 59)))

-- the sign is that of the whole offset, hours and minutes
unfoldable pub text_value : ℕ → Numbers → Value
text_value d n =
    record {
      date = day_named n;
      micros = (n.hour * 3600 + n.minute * 60 + n.second) * 1000000 + n.fraction * fraction_unit d;
      offset = pick (eqb n.minus 0) (pos (n.hours * 60 + n.minutes)) (neg_ℤ (pos (n.hours * 60 + n.minutes)));
    }

-- 6, 7, 8, each over the whole input before the next
unfoldable pub read_fields : Kind → ℕ → List ℕ → Outcome Value
read_fields k d s =
    let n = named (says (layout k d) s 0) in
    unless (fit (layout k d) s 0) 6
    (unless (not (minus_zero n)) 7
    (unless (numbers_in_range k n) 8
    (accepted (text_value d n))))

-- 5: the length is that of no text of this kind
unfoldable pub read_text : Kind → ℕ → List ℕ → Outcome Value
read_text k d s = unless (leb d most_digits) 5 (read_fields k d s)
