-- Values and settings: the six kinds, what a value of each has, what is in range, and how a writer can be set. (01, Values and settings.)
--
--   dated, timed, zoned k        the kind has a date; a time; an offset
--   Value                        the parts of a value of any kind: a writer does not look at parts that the kind lacks; in an answer they are 0
--   end_of_day                   24:00 in microseconds: the largest time, and not the same as 00:00
--   time_in_range, offset_in_range, in_range   a time is; an offset is; each part that the kind has is
--   Settings                     binary or not; the version; the digits of a text's fraction (6 of them also ask for the extended form)
--   permitted t                  the settings are ones that may be given
--   defaults                     the settings where nothing is said
--   Form                         text with its number of fraction digits, compact, extended
--   Answer                       what a reader answers: kind, form and value
use Rattle.std.specs.Prelude.{ℕ, Bool, true, false, ℤ, nat_abs, leb}
use Rattle.format.specs.Words.{both, needs}
use Rattle.format.specs.Calendar.{Day, is_day}

pub data Kind : Type 0 where
  Date : Kind
  DateTz : Kind
  Time : Kind
  TimeTz : Kind
  Datetime : Kind
  DatetimeTz : Kind

abbrev pub dated : Kind → Bool
dated Date = true
dated DateTz = true
dated Time = false
dated TimeTz = false
dated Datetime = true
dated DatetimeTz = true

abbrev pub timed : Kind → Bool
timed Date = false
timed DateTz = false
timed Time = true
timed TimeTz = true
timed Datetime = true
timed DatetimeTz = true

abbrev pub zoned : Kind → Bool
zoned Date = false
zoned DateTz = true
zoned Time = false
zoned TimeTz = true
zoned Datetime = false
zoned DatetimeTz = true

-- the date, the microseconds of the day, the minutes ahead of UTC
pub record Value : Type 0 where
  pub date : Day
  pub micros : ℕ
  pub offset : ℤ

-- Time: 0 to 86,400,000,000 microseconds
abbrev pub end_of_day : ℕ
end_of_day = 86400000000

unfoldable pub time_in_range : ℕ → Bool
time_in_range micros = leb micros end_of_day

-- Offset: -1,439 to 1,439 minutes, with any time, 24:00 too
abbrev pub greatest_offset : ℕ
greatest_offset = 1439

unfoldable pub offset_in_range : ℤ → Bool
offset_in_range minutes = leb (nat_abs minutes) greatest_offset

-- the time and the offset; and all parts
abbrev pub rest_in_range : Kind → Value → Bool
rest_in_range k v = both (needs (timed k) (time_in_range v.micros)) (needs (zoned k) (offset_in_range v.offset))

unfoldable pub in_range : Kind → Value → Bool
in_range k v = both (needs (dated k) (is_day v.date)) (rest_in_range k v)

pub record Settings : Type 0 where
  pub binary : Bool
  pub version : ℕ
  pub digits : ℕ

-- Settings: digits, 0 to 6
abbrev pub most_digits : ℕ
most_digits = 6

abbrev pub digits_in_range : ℕ → Bool
digits_in_range digits = leb digits most_digits

-- version, any unsigned 32-bit number
unfoldable pub permitted : Settings → Bool
permitted t = both (digits_in_range t.digits) (leb t.version 4294967295)

-- the defaults: text, version 0, digits 3
abbrev pub defaults : Settings
defaults = record { binary = false; version = 0; digits = 3 }

-- a text's digits are 0 for Date and DateTz
pub data Form : Type 0 where
  text : ℕ → Form
  compact : Form
  extended : Form

-- a decoded answer names its kind and form and carries that kind's parts
pub record Answer : Type 0 where
  pub kind : Kind
  pub form : Form
  pub value : Value
