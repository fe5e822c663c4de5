-- 01, Slips we have seen, and what comes instead: each a case that a wrong reading of 01 would get wrong, computed (`proofs/Bench.antt`).
-- The bench has M, which gives -1 and not 0, and O, which has no 7-octet T without an offset.
--
--   Slips        reading and writing
--   SlipsText    texts, written and read
--   SlipsBinary  the other two forms, written and read
--   SlipsForms   the form that is written, at 01's version and digits and just below them
--   SlipsKept    what a form keeps
--   SlipsChosen  the kind that an either-or reader chooses, and where it is not the one that was written
--   SlipsDays    leap years, month ends and year starts
use Rattle.std.specs.Prelude.{ℕ, suc, ◌≡◌, Bool, true, false, not, List, [], ◌∷◌, pos, negsuc}
use Rattle.format.specs.Words.{both, Outcome, accepted, refused}
use Rattle.format.specs.Octets.{tight}
use Rattle.format.specs.Calendar.{Day, year_start, is_day, day_number, day_of}
use Rattle.format.specs.Values.{Kind, Date, DateTz, Time, TimeTz, Datetime, DatetimeTz, Value, Settings, Form, text, compact, extended, Answer}
use Rattle.format.specs.Choice.{form_for, settings_for}
use Rattle.format.specs.Writing.{encode}
use Rattle.format.specs.Reading.{read}
use Rattle.format.specs.EitherOr.{TimeOrTz, DatetimeOrTz, kind_by01, kind_in, read_either, excepted}
use Rattle.format.specs.Keeping.{cut}
use Rattle.format.specs.Bench.{ascii, of}

abbrev pub reads : Kind → Form → Value → Outcome Answer
reads k f v = accepted (record { kind = k; form = f; value = v })

abbrev pub Slips : Type 0
Slips =
    -- 00 00 is a Date with a redundant octet: refusal 7
    (read Date (0 ∷ 0 ∷ []) ≡ refused 7)
    -- the offset's sign is not the hour's: -00:30 is 30 minutes behind
    × (read TimeTz (ascii "12:00:00.0-00:30") ≡ reads TimeTz (text 1) (of 0 0 0 43200000000 (negsuc 29)))
    -- and -00:00 is refusal 7
    × (read TimeTz (ascii "12:00:00.0-00:00") ≡ refused 7)
    -- the 12-bit offset is signed: -30
    × (read TimeTz (0x9F ∷ 0xE2 ∷ 0 ∷ 0 ∷ 0 ∷ 0 ∷ 1 ∷ []) ≡ reads TimeTz extended (of 0 0 0 1 (negsuc 29)))
    -- the 16-bit offset is signed: -30
    × (read TimeTz (0xFF ∷ 0xE2 ∷ 0 ∷ 0 ∷ 1 ∷ []) ≡ reads TimeTz compact (of 0 0 0 1000 (negsuc 29)))
    -- 2019-12-31T24:00 is the start of 2020, not of its own day
    × (encode Datetime (settings_for compact) (of 2019 12 31 86400000000 (pos 0)) ≡ accepted (0 ∷ []))
    -- 5 microseconds are `.000005`, not `.5`
    × (encode Time (settings_for (text 6)) (of 0 0 0 5 (pos 0)) ≡ accepted (ascii "00:00:00.000005"))
    -- a fraction is cut: 12:34:56.789012 with digits 2 ends in `.78`
    × (encode Time (settings_for (text 2)) (of 0 0 0 45296789012 (pos 0)) ≡ accepted (ascii "12:34:56.78"))
    -- 00 80 has no redundant sign octet, 00 7F and FF 80 have one
    × (tight (0x00 ∷ 0x80 ∷ []) ≡ true) × (tight (0x00 ∷ 0x7F ∷ []) ≡ false) × (tight (0xFF ∷ 0x80 ∷ []) ≡ false)

-- a text written, and the same octets read as what it says
abbrev pub TextOf : Kind → ℕ → Value → List ℕ → Value → Type 0
TextOf k d v s w = (encode k (settings_for (text d)) v ≡ accepted s) × (read k s ≡ reads k (text d) w)

abbrev pub SlipsText : Type 0
SlipsText =
    -- `T` joins date and time
    TextOf Datetime 3 (of 2019 12 31 86399987654 (pos 0)) (ascii "2019-12-31T23:59:59.987") (of 2019 12 31 86399987000 (pos 0))
    × TextOf DatetimeTz 0 (of 2020 2 29 45296789012 (negsuc 29)) (ascii "2020-02-29T12:34:56-00:30") (of 2020 2 29 45296000000 (negsuc 29))
    -- 24:00 is not 00:00
    × TextOf Time 0 (of 0 0 0 86400000000 (pos 0)) (ascii "24:00:00") (of 0 0 0 86400000000 (pos 0))
    -- offsets: the greatest, whole hours, and zero with a plus
    × TextOf DateTz 0 (of 2020 1 1 0 (pos 1439)) (ascii "2020-01-01+23:59") (of 2020 1 1 0 (pos 1439))
    × TextOf DateTz 0 (of 2020 1 1 0 (negsuc 599)) (ascii "2020-01-01-10:00") (of 2020 1 1 0 (negsuc 599))
    × TextOf DateTz 0 (of 2020 1 1 0 (pos 0)) (ascii "2020-01-01+00:00") (of 2020 1 1 0 (pos 0))
    -- the octets next to `0` and `9` are no digits
    × (read Date (ascii "202/-01-01") ≡ refused 6)
    × (read Date (ascii "202:-01-01") ≡ refused 6)

abbrev pub SlipsBinary : Type 0
SlipsBinary =
    -- T behind an offset, from case O on, to the last microsecond of 9999; an offset of zero is left out
    (encode DatetimeTz (settings_for compact) (of 6479 10 17 9955328000 (pos 1)) ≡ accepted (0x00 ∷ 0x01 ∷ 0x00 ∷ 0x80 ∷ 0x00 ∷ 0x00 ∷ 0x00 ∷ 0x00 ∷ 0x00 ∷ []))
    × (encode DatetimeTz (settings_for compact) (of 9999 12 31 86399999999 (pos 1)) ≡ accepted (0x00 ∷ 0x01 ∷ 0x00 ∷ 0xE5 ∷ 0x08 ∷ 0x73 ∷ 0xB8 ∷ 0xF3 ∷ 0xFF ∷ []))
    × (encode DatetimeTz (settings_for compact) (of 9999 12 31 86400000000 (pos 1)) ≡ refused 3)
    × (encode TimeTz (settings_for compact) (of 0 0 0 1000 (pos 0)) ≡ accepted (0x01 ∷ []))
    -- 80 is the least number of one octet
    × (read Date (0x80 ∷ []) ≡ reads Date compact (of 2019 8 26 0 (pos 0)))
    -- cases H, L and M, read
    × (read Time (0x80 ∷ 0x00 ∷ 0x14 ∷ 0x1D ∷ 0xD7 ∷ 0x60 ∷ 0x00 ∷ []) ≡ reads Time extended (of 0 0 0 86400000000 (pos 0)))
    × (read Datetime (0x80 ∷ 0x00 ∷ 0x0B ∷ 0x40 ∷ 0x90 ∷ 0x00 ∷ 0x00 ∷ 0x00 ∷ 0x00 ∷ 0x01 ∷ []) ≡ reads Datetime extended (of 2020 1 1 1 (pos 0)))
    × (read DatetimeTz (0xFE ∷ 0xF2 ∷ 0xFF ∷ 0xFF ∷ 0xFF ∷ 0xFF ∷ 0xFF ∷ []) ≡ reads DatetimeTz compact (of 2019 12 31 86399999000 (negsuc 269)))

-- the settings of a binary form
abbrev pub binary : ℕ → ℕ → Settings
binary version digits = record { binary = true; version = version; digits = digits }

-- at that version: 12:00 with digits 5 and 6, then 24:00 with digits 5 and 6
abbrev pub forms_at : Kind → ℕ → List Form
forms_at k n =
    form_for k (binary n 5) (of 2020 1 1 43200000000 (pos 0))
    ∷ form_for k (binary n 6) (of 2020 1 1 43200000000 (pos 0))
    ∷ form_for k (binary n 5) (of 2020 1 1 86400000000 (pos 0))
    ∷ form_for k (binary n 6) (of 2020 1 1 86400000000 (pos 0))
    ∷ []

-- "Binary, version at least 35,500, and digits 6 or time 24:00: extended. Otherwise binary: compact."
abbrev pub SlipsForms : Type 0
SlipsForms =
    (forms_at Time 35499 ≡ (compact ∷ compact ∷ compact ∷ compact ∷ []))
    × (forms_at Time 35500 ≡ (compact ∷ extended ∷ extended ∷ extended ∷ []))
    -- Date and DateTz have text and compact only, and their text no digits
    × (forms_at Date 35500 ≡ (compact ∷ compact ∷ compact ∷ compact ∷ []))
    × (forms_at DateTz 35500 ≡ (compact ∷ compact ∷ compact ∷ compact ∷ []))
    × (form_for Time (settings_for (text 5)) (of 0 0 0 86400000000 (pos 0)) ≡ text 5)
    × (form_for Date (settings_for (text 5)) (of 2020 1 1 0 (pos 0)) ≡ text 0)
    × (form_for DateTz (settings_for (text 5)) (of 2020 1 1 0 (pos 0)) ≡ text 0)

abbrev pub SlipsKept : Type 0
SlipsKept =
    -- compact date-time: the end of a day reads as the start of the next; compact time: 24:00 stays
    (cut Datetime compact (of 2019 12 31 86400000000 (pos 0)) ≡ of 2020 1 1 0 (pos 0))
    × (cut Time compact (of 0 0 0 86400000000 (pos 0)) ≡ of 0 0 0 86400000000 (pos 0))
    -- text with digits 2 keeps 12:34:56.78 of 12:34:56.789012
    × (cut Time (text 2) (of 0 0 0 45296789012 (pos 0)) ≡ of 0 0 0 45296780000 (pos 0))

-- 02, request 1: "01's 14-octet case reads as TimeTz; other choices stand"
abbrev pub SlipsChosen : Type 0
SlipsChosen =
    -- a zoned text without fraction is its own kind, whichever sign it has
    (read_either TimeOrTz (ascii "12:00:00+04:30") ≡ reads TimeTz (text 0) (of 0 0 0 43200000000 (pos 270)))
    × (read_either TimeOrTz (ascii "12:00:00-04:30") ≡ reads TimeTz (text 0) (of 0 0 0 43200000000 (negsuc 269)))
    × (read_either DatetimeOrTz (ascii "2020-02-29T12:34:56+04:30") ≡ reads DatetimeTz (text 0) (of 2020 2 29 45296000000 (pos 270)))
    × (read_either DatetimeOrTz (ascii "2020-02-29T12:34:56-00:30") ≡ reads DatetimeTz (text 0) (of 2020 2 29 45296000000 (negsuc 29)))
    -- by 01's rules alone it was plain
    × (kind_by01 TimeOrTz (ascii "12:00:00+04:30") ≡ Time)
    × (kind_by01 DatetimeOrTz (ascii "2020-02-29T12:34:56-00:30") ≡ Datetime)
    -- as many octets with a point are plain, whatever stands behind it; nor is a comma a sign
    × (read_either TimeOrTz (ascii "12:00:00.00001") ≡ reads Time (text 5) (of 0 0 0 43200000010 (pos 0)))
    × (read_either TimeOrTz (ascii "12:00:00.+4:30") ≡ refused 6)
    × (kind_in TimeOrTz (ascii "12:00:00,04:30") ≡ Time)
    × (read_either DatetimeOrTz (ascii "2020-02-29T12:34:56.00001") ≡ reads Datetime (text 5) (of 2020 2 29 45296000010 (pos 0)))
    × (kind_in DatetimeOrTz (ascii "2020-02-29T12:34:56,04:30") ≡ Datetime)
    -- an octet less or more is plain, as before
    × (kind_in TimeOrTz (ascii "12:00:00+04:3") ≡ Time)
    × (kind_in TimeOrTz (ascii "12:00:00+04:300") ≡ Time)
    × (kind_in DatetimeOrTz (ascii "2020-02-29T12:34:56+04:3") ≡ Datetime)
    × (kind_in DatetimeOrTz (ascii "2020-02-29T12:34:56+04:300") ≡ Datetime)
    -- what is damaged elsewhere is refused as the zoned kind
    × (read_either TimeOrTz (ascii "99:00:00+04:30") ≡ refused 8)
    × (read_either TimeOrTz (ascii "12:00:00-00:00") ≡ refused 7)
    × (read_either DatetimeOrTz (ascii "2020-02-30T12:34:56+04:30") ≡ refused 8)
    × (read_either DatetimeOrTz (ascii "2020-02-29T12:34:56-00:00") ≡ refused 7)
    × (kind_in DatetimeOrTz (ascii "x020-02-29T12:34:56-00:30") ≡ DatetimeTz)
    -- 14 octets with a sign and the first bits 1000 are a text, with 1001 extended; of 25 octets these bits come first
    × (read_either TimeOrTz (0x80 ∷ ascii "2:00:00+04:30") ≡ refused 6)
    × (read_either TimeOrTz (0x90 ∷ ascii "2:00:00+04:30") ≡ refused 5)
    × (kind_in DatetimeOrTz (0x8F ∷ ascii "020-02-29T12:34:56-00:30") ≡ Datetime)
    -- the exception: compact with offset zero, not with -00:30; never text, never extended
    × (excepted DatetimeTz compact (of 2020 1 1 0 (pos 0)) ≡ true)
    × (excepted DatetimeTz compact (of 2020 1 1 0 (negsuc 29)) ≡ false)
    × (excepted TimeTz (text 0) (of 0 0 0 0 (pos 0)) ≡ false)
    × (excepted DatetimeTz extended (of 2020 1 1 0 (pos 0)) ≡ false)

abbrev pub day : ℕ → ℕ → ℕ → Day
day y m d = record { year = y; month = m; day = d }

-- month m of the year y ends with the day n, the next month with the next number, and so on
abbrev pub months_end : ℕ → ℕ → List ℕ → Bool
months_end y m [] = true
months_end y m (n ∷ ns) = both (both (is_day (day y m n)) (not (is_day (day y m (suc n))))) (months_end y (suc m) ns)

abbrev pub SlipsDays : Type 0
SlipsDays =
    -- 2000-02-29 is a day, 1900-02-29 is none
    (is_day (day 2000 2 29) ≡ true)
    × (is_day (day 1900 2 29) ≡ false)
    -- a common year and a leap year, month by month
    × (months_end 2019 1 (31 ∷ 28 ∷ 31 ∷ 30 ∷ 31 ∷ 30 ∷ 31 ∷ 31 ∷ 30 ∷ 31 ∷ 30 ∷ 31 ∷ []) ≡ true)
    × (months_end 2020 1 (31 ∷ 29 ∷ 31 ∷ 30 ∷ 31 ∷ 30 ∷ 31 ∷ 31 ∷ 30 ∷ 31 ∷ 30 ∷ 31 ∷ []) ≡ true)
    -- the years are 1 to 9999
    × (is_day (day 0 12 31) ≡ false)
    × (is_day (day 10000 1 1) ≡ false)
    -- the first of February 2020 lies 31 days after 2020-01-01, and 60 days after it is the first of March; and the last day
    × (day_number (day 2020 2 1) ≡ 737455)
    × (day_of 737484 ≡ day 2020 3 1)
    × (day_of 3652058 ≡ day 9999 12 31)
    -- the year after the first century starts 100 * 365 + 25 - 1 days on
    × (year_start 100 ≡ 36524)
