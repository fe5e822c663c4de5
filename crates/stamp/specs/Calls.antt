-- What each public call promises, whatever it is given: the legend. A contract cites the name, and so does the theorem of one answer
-- (proofs/OneAnswer). Settings t, value v, octets s; `lent` is the buffer as it was lent, `left` as it was left, r the answer.
--
--   WritesStamp k f t v lent r left   `write` of the kind k, whose values mean what f says: what `encode` says of the kind, the settings and the value, and
--                                     every octet of the buffer
--   WritesDate t v lent r left, ..    the same of `write::<Date>` and the other five
--   ReadsStamp k s r                  `read` of the kind k: what `read` says of the kind and the octets
--   ReadsDate s r, ..                 the same of `read::<Date>` and the other five
--   ReadsDateOrDateTz s r, ..         `read_date_or_date_tz` and the other two: what `read_either` says of the two kinds and the octets
--   ChoosesDate s r, ..               `date_kind` and the other two: the kind that the either-or reader chooses
use Rattle.std.specs.Prelude.{ℕ, ◌≡◌, List, Result}
use Rattle.format.specs.Values as format
use Rattle.format.specs.Writing.{encode}
use Rattle.format.specs.Reading.{read}
use Rattle.format.specs.EitherOr.{DateOrTz, TimeOrTz, DatetimeOrTz, kind_in, read_either}
use Rattle.calendar.specs.declared.Date.{Date}
use Rattle.values.specs.declared.parts.Time.{Time}
use Rattle.values.specs.declared.kinds.DateTz.{DateTz}
use Rattle.values.specs.declared.kinds.TimeTz.{TimeTz}
use Rattle.values.specs.declared.kinds.Datetime.{Datetime}
use Rattle.values.specs.declared.kinds.DatetimeTz.{DatetimeTz}
use Rattle.values.specs.declared.kinds.Kind.{Kind}
use Rattle.values.specs.declared.settings.Settings.{Settings}
use Rattle.values.specs.declared.answers.Decoded.{Decoded}
use Rattle.values.specs.declared.refusal.Refusal.{Refusal}
use Rattle.values.specs.Meaning.{settings_from, kind_from, date_value, date_tz_value, time_value, time_tz_value, datetime_value, datetime_tz_value}
use Rattle.values.specs.Promise.{Writes, Reads}

-- ---- writers

-- any kind
abbrev pub WritesStamp : {T : Type 0} → format.Kind → (T → format.Value) → Settings → T → List ℕ → Result ℕ Refusal → List ℕ → Type 0
WritesStamp k f t v lent r left = Writes (encode k (settings_from t) (f v)) lent r left

-- a date
abbrev pub WritesDate : Settings → Date → List ℕ → Result ℕ Refusal → List ℕ → Type 0
WritesDate t v lent r left = WritesStamp format.Date date_value t v lent r left

-- a date with offset
abbrev pub WritesDateTz : Settings → DateTz → List ℕ → Result ℕ Refusal → List ℕ → Type 0
WritesDateTz t v lent r left = WritesStamp format.DateTz date_tz_value t v lent r left

-- a time
abbrev pub WritesTime : Settings → Time → List ℕ → Result ℕ Refusal → List ℕ → Type 0
WritesTime t v lent r left = WritesStamp format.Time time_value t v lent r left

-- a time with offset
abbrev pub WritesTimeTz : Settings → TimeTz → List ℕ → Result ℕ Refusal → List ℕ → Type 0
WritesTimeTz t v lent r left = WritesStamp format.TimeTz time_tz_value t v lent r left

-- a date and time
abbrev pub WritesDatetime : Settings → Datetime → List ℕ → Result ℕ Refusal → List ℕ → Type 0
WritesDatetime t v lent r left = WritesStamp format.Datetime datetime_value t v lent r left

-- a date and time with offset
abbrev pub WritesDatetimeTz : Settings → DatetimeTz → List ℕ → Result ℕ Refusal → List ℕ → Type 0
WritesDatetimeTz t v lent r left = WritesStamp format.DatetimeTz datetime_tz_value t v lent r left

-- ---- readers

-- any kind
abbrev pub ReadsStamp : format.Kind → List ℕ → Result Decoded Refusal → Type 0
ReadsStamp k s r = Reads (read k s) r

-- a date
abbrev pub ReadsDate : List ℕ → Result Decoded Refusal → Type 0
ReadsDate s r = ReadsStamp format.Date s r

-- a date with offset
abbrev pub ReadsDateTz : List ℕ → Result Decoded Refusal → Type 0
ReadsDateTz s r = ReadsStamp format.DateTz s r

-- a time
abbrev pub ReadsTime : List ℕ → Result Decoded Refusal → Type 0
ReadsTime s r = ReadsStamp format.Time s r

-- a time with offset
abbrev pub ReadsTimeTz : List ℕ → Result Decoded Refusal → Type 0
ReadsTimeTz s r = ReadsStamp format.TimeTz s r

-- a date and time
abbrev pub ReadsDatetime : List ℕ → Result Decoded Refusal → Type 0
ReadsDatetime s r = ReadsStamp format.Datetime s r

-- a date and time with offset
abbrev pub ReadsDatetimeTz : List ℕ → Result Decoded Refusal → Type 0
ReadsDatetimeTz s r = ReadsStamp format.DatetimeTz s r

-- a date, with or without offset
abbrev pub ReadsDateOrDateTz : List ℕ → Result Decoded Refusal → Type 0
ReadsDateOrDateTz s r = Reads (read_either DateOrTz s) r

-- a time, with or without offset
abbrev pub ReadsTimeOrTimeTz : List ℕ → Result Decoded Refusal → Type 0
ReadsTimeOrTimeTz s r = Reads (read_either TimeOrTz s) r

-- a date and time, with or without offset
abbrev pub ReadsDatetimeOrDatetimeTz : List ℕ → Result Decoded Refusal → Type 0
ReadsDatetimeOrDatetimeTz s r = Reads (read_either DatetimeOrTz s) r

-- ---- the kind that an either-or reader chooses

abbrev pub ChoosesDate : List ℕ → Kind → Type 0
ChoosesDate s r = kind_from r ≡ kind_in DateOrTz s

abbrev pub ChoosesTime : List ℕ → Kind → Type 0
ChoosesTime s r = kind_from r ≡ kind_in TimeOrTz s

abbrev pub ChoosesDatetime : List ℕ → Kind → Type 0
ChoosesDatetime s r = kind_from r ≡ kind_in DatetimeOrTz s
