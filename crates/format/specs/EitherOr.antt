-- The three either-or readers. (01, How a reader chooses: either-or, first rule that fits; 02, request 1.)
--
--   Family            Date or DateTz; Time or TimeTz; Datetime or DatetimeTz
--   kind_by01 f s     the kind by 01's rules alone
--   kind_in f s       the kind that is chosen: by 01's rules and the rule of request 1
--   read_either f s   what the either-or reader answers
--   family_of k       the family of a kind, and plain_of k its plain kind
--   excepted k f v    the exception of demand 3: what is written so does not read back as its own kind
use Rattle.std.specs.Prelude.{ℕ, List, Bool, false, not, nat_abs, leb, eqb, length, get_or}
use Rattle.format.specs.Words.{pick, both, either, Outcome}
use Rattle.format.specs.Values.{Kind, Date, DateTz, Time, TimeTz, Datetime, DatetimeTz, timed, zoned, Value, Form, text, compact, extended, Answer}
use Rattle.format.specs.Fields.{is_sign}
use Rattle.format.specs.Reading.{first_bits, read}

pub data Family : Type 0 where
  DateOrTz : Family
  TimeOrTz : Family
  DatetimeOrTz : Family

-- 8 is bits 1000, 9 is bits 1001; a time looks at them at 7 octets only, a date-time at every length above 9
unfoldable pub kind_by01 : Family → List ℕ → Kind
kind_by01 DateOrTz s =
    pick (leb (length s) 3) Date
    (pick (leb (length s) 5) DateTz
    (pick (leb (length s) 10) Date
    DateTz))
kind_by01 TimeOrTz s =
    pick (leb (length s) 4) Time
    (pick (leb (length s) 6) TimeTz
    (pick (both (eqb (length s) 7) (eqb (first_bits s) 8)) Time
    (pick (both (eqb (length s) 7) (eqb (first_bits s) 9)) TimeTz
    (pick (leb (length s) 15) Time
    TimeTz))))
kind_by01 DatetimeOrTz s =
    pick (leb (length s) 6) Datetime
    (pick (leb (length s) 9) DatetimeTz
    (pick (eqb (first_bits s) 8) Datetime
    (pick (eqb (first_bits s) 9) DatetimeTz
    (pick (leb (length s) 26) Datetime
    DatetimeTz))))

-- 02, request 1: "14 octets whose ninth is `+` or `-` are chosen as TimeTz, and 25 octets whose twentieth is `+` or `-` as DatetimeTz, each directly ahead of
-- the rule for up to 15 or up to 26". What stands ahead of these rules is about fewer octets, but for a date-time's first bits; where those fit, 01's rules stand.
unfoldable pub kind_in : Family → List ℕ → Kind
kind_in DateOrTz s = kind_by01 DateOrTz s
kind_in TimeOrTz s =
    pick (both (eqb (length s) 14) (is_sign (get_or s 8 0))) TimeTz
    (kind_by01 TimeOrTz s)
kind_in DatetimeOrTz s =
    pick (both (both (eqb (length s) 25) (is_sign (get_or s 19 0))) (not (either (eqb (first_bits s) 8) (eqb (first_bits s) 9)))) DatetimeTz
    (kind_by01 DatetimeOrTz s)

-- the chosen kind's reader then answers, refusals included
unfoldable pub read_either : Family → List ℕ → Outcome Answer
read_either f s = read (kind_in f s) s

abbrev pub family_of : Kind → Family
family_of Date = DateOrTz
family_of DateTz = DateOrTz
family_of Time = TimeOrTz
family_of TimeTz = TimeOrTz
family_of Datetime = DatetimeOrTz
family_of DatetimeTz = DatetimeOrTz

abbrev pub plain_of : Kind → Kind
plain_of Date = Date
plain_of DateTz = Date
plain_of Time = Time
plain_of TimeTz = Time
plain_of Datetime = Datetime
plain_of DatetimeTz = Datetime

-- a zoned time or date-time, compact, with offset zero
unfoldable pub excepted : Kind → Form → Value → Bool
excepted k (text d) v = false
excepted k compact v = both (both (zoned k) (timed k)) (eqb (nat_abs v.offset) 0)
excepted k extended v = false
