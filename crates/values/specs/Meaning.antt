-- What the code's types mean in the paper's terms: the numbers, settings and values of `format`.
--
--   refusal_number r   the number of a refusal, 1 to 8 (01, Refusal numbers)
--   form_from f        a form, with its digits where it is text
--   settings_from t    the settings: binary, version and digits, by name
--   kind_from k        a kind
--   kind_numbered n    the kind with the number n: 0 Date, 1 DateTz, 2 Time, 3 TimeTz, 4 Datetime, 5 DatetimeTz; no such kind is refusal 2
--   kind_number k      the number of a kind, 0 to 5
--   kind_found r       what is answered where a number is looked up: a kind, or refusal 2
--   value_from v       a value by its parts, whatever its kind
--   date_value d, ..   a value of each kind by its parts; those that the kind lacks are 0
use Rattle.std.specs.Prelude.{ℕ, pos, eqb, Result, Ok, Err}
use Rattle.format.specs.Words.{pick, Outcome, accepted, refused}
use Rattle.format.specs.Calendar.{no_date}
use Rattle.format.specs.Values as format
use Rattle.calendar.specs.declared.Date.{Date}
use Rattle.calendar.specs.Meaning.{day_from}
use Rattle.values.specs.declared.parts.Time.{Time}
use Rattle.values.specs.declared.kinds.DateTz.{DateTz}
use Rattle.values.specs.declared.kinds.TimeTz.{TimeTz}
use Rattle.values.specs.declared.kinds.Datetime.{Datetime}
use Rattle.values.specs.declared.kinds.DatetimeTz.{DatetimeTz}
use Rattle.values.specs.declared.kinds.Kind.{Kind}
use Rattle.values.specs.declared.kinds.Kind.TheVariants as K
use Rattle.values.specs.declared.kinds.NoSuchKind.{NoSuchKind}
use Rattle.values.specs.declared.kinds.Value.{Value}
use Rattle.values.specs.declared.refusal.Refusal.{Refusal}
use Rattle.values.specs.declared.refusal.Refusal.TheVariants as R
use Rattle.values.specs.declared.settings.Form.{Form}
use Rattle.values.specs.declared.settings.Form.TheVariants as F
use Rattle.values.specs.declared.settings.Settings.{Settings}

abbrev pub refusal_number : Refusal → ℕ
refusal_number R.Digits = 1
refusal_number R.Value = 2
refusal_number R.NoCompact = 3
refusal_number R.Buffer = 4
refusal_number R.Length = 5
refusal_number R.Octet = 6
refusal_number R.Redundant = 7
refusal_number R.Range = 8

abbrev pub form_from : Form → format.Form
form_from (F.Text d) = format.text d
form_from F.Compact = format.compact
form_from F.Extended = format.extended

abbrev pub settings_from : Settings → format.Settings
settings_from t = record { binary = t.binary; version = t.version; digits = t.digits }

-- ---- kinds and values

abbrev pub kind_from : Kind → format.Kind
kind_from K.Date = format.Date
kind_from K.DateTz = format.DateTz
kind_from K.Time = format.Time
kind_from K.TimeTz = format.TimeTz
kind_from K.Datetime = format.Datetime
kind_from K.DatetimeTz = format.DatetimeTz

unfoldable pub kind_numbered : ℕ → Outcome format.Kind
kind_numbered n =
    pick (eqb n 0) (accepted format.Date)
    (pick (eqb n 1) (accepted format.DateTz)
    (pick (eqb n 2) (accepted format.Time)
    (pick (eqb n 3) (accepted format.TimeTz)
    (pick (eqb n 4) (accepted format.Datetime)
    (pick (eqb n 5) (accepted format.DatetimeTz)
    (refused 2))))))

abbrev pub kind_number : format.Kind → ℕ
kind_number format.Date = 0
kind_number format.DateTz = 1
kind_number format.Time = 2
kind_number format.TimeTz = 3
kind_number format.Datetime = 4
kind_number format.DatetimeTz = 5

abbrev pub kind_found : Result Kind NoSuchKind → Outcome format.Kind
kind_found (Ok k) = accepted (kind_from k)
kind_found (Err e) = refused 2

abbrev pub value_from : Value → format.Value
value_from v = record { date = day_from v.date; micros = v.time.micros; offset = v.offset.minutes }

abbrev pub date_value : Date → format.Value
date_value v = record { date = day_from v; micros = 0; offset = pos 0 }

abbrev pub date_tz_value : DateTz → format.Value
date_tz_value v = record { date = day_from v.date; micros = 0; offset = v.offset.minutes }

abbrev pub time_value : Time → format.Value
time_value v = record { date = no_date; micros = v.micros; offset = pos 0 }

abbrev pub time_tz_value : TimeTz → format.Value
time_tz_value v = record { date = no_date; micros = v.time.micros; offset = v.offset.minutes }

abbrev pub datetime_value : Datetime → format.Value
datetime_value v = record { date = day_from v.date; micros = v.time.micros; offset = pos 0 }

abbrev pub datetime_tz_value : DatetimeTz → format.Value
datetime_tz_value v = record { date = day_from v.date; micros = v.time.micros; offset = v.offset.minutes }
