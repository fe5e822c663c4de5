-- No two different answers meet the promise that a public call's contract cites (specs/Calls): of a writer neither answer nor buffer is left
-- open. Each is the law of all writers or of all readers (crate values), at the call's promise. Assumes nothing.
use mathlib.Core.Path.{◌≡◌}
use mathlib.Core.List.{List}
use Prim.Native.Nat.{ℕ}
use Rattle.std.specs.Prelude.{Result}
use Rattle.format.specs.Values as format
use Rattle.format.specs.Promises.{OneAnswer}
use Rattle.calendar.specs.declared.Date.{Date}
use Rattle.values.specs.declared.parts.Time.{Time}
use Rattle.values.specs.declared.kinds.DateTz.{DateTz}
use Rattle.values.specs.declared.kinds.TimeTz.{TimeTz}
use Rattle.values.specs.declared.kinds.Datetime.{Datetime}
use Rattle.values.specs.declared.kinds.DatetimeTz.{DatetimeTz}
use Rattle.values.specs.declared.settings.Settings.{Settings}
use Rattle.values.specs.declared.refusal.Refusal.{Refusal}
use Rattle.values.specs.Meaning.{date_value, date_tz_value, time_value, time_tz_value, datetime_value, datetime_tz_value}
use Rattle.values.proofs.OneAnswer.{one_writing, one_reading, one_kind}
use Rattle.stamp.specs.Calls.{WritesStamp, WritesDate, WritesDateTz, WritesTime, WritesTimeTz, WritesDatetime, WritesDatetimeTz}
use Rattle.stamp.specs.Calls.{ReadsStamp, ReadsDate, ReadsDateTz, ReadsTime, ReadsTimeTz, ReadsDatetime, ReadsDatetimeTz}
use Rattle.stamp.specs.Calls.{ReadsDateOrDateTz, ReadsTimeOrTimeTz, ReadsDatetimeOrDatetimeTz, ChoosesDate, ChoosesTime, ChoosesDatetime}

-- ---- writers

pub one_write : {T : Type 0} (k : format.Kind) (f : T → format.Value) (t : Settings) (v : T) (lent : List ℕ) (r r' : Result ℕ Refusal) (left left' : List ℕ)
    → WritesStamp k f t v lent r left → WritesStamp k f t v lent r' left' → (r ≡ r') × (left ≡ left')
one_write k f t v = one_writing _

pub one_write_date : (t : Settings) (v : Date) (lent : List ℕ) (r r' : Result ℕ Refusal) (left left' : List ℕ)
    → WritesDate t v lent r left → WritesDate t v lent r' left' → (r ≡ r') × (left ≡ left')
one_write_date = one_write format.Date date_value

pub one_write_date_tz : (t : Settings) (v : DateTz) (lent : List ℕ) (r r' : Result ℕ Refusal) (left left' : List ℕ)
    → WritesDateTz t v lent r left → WritesDateTz t v lent r' left' → (r ≡ r') × (left ≡ left')
one_write_date_tz = one_write format.DateTz date_tz_value

pub one_write_time : (t : Settings) (v : Time) (lent : List ℕ) (r r' : Result ℕ Refusal) (left left' : List ℕ)
    → WritesTime t v lent r left → WritesTime t v lent r' left' → (r ≡ r') × (left ≡ left')
one_write_time = one_write format.Time time_value

pub one_write_time_tz : (t : Settings) (v : TimeTz) (lent : List ℕ) (r r' : Result ℕ Refusal) (left left' : List ℕ)
    → WritesTimeTz t v lent r left → WritesTimeTz t v lent r' left' → (r ≡ r') × (left ≡ left')
one_write_time_tz = one_write format.TimeTz time_tz_value

pub one_write_datetime : (t : Settings) (v : Datetime) (lent : List ℕ) (r r' : Result ℕ Refusal) (left left' : List ℕ)
    → WritesDatetime t v lent r left → WritesDatetime t v lent r' left' → (r ≡ r') × (left ≡ left')
one_write_datetime = one_write format.Datetime datetime_value

pub one_write_datetime_tz : (t : Settings) (v : DatetimeTz) (lent : List ℕ) (r r' : Result ℕ Refusal) (left left' : List ℕ)
    → WritesDatetimeTz t v lent r left → WritesDatetimeTz t v lent r' left' → (r ≡ r') × (left ≡ left')
one_write_datetime_tz = one_write format.DatetimeTz datetime_tz_value

-- ---- readers

pub one_read : (k : format.Kind) (s : List ℕ) → OneAnswer (ReadsStamp k s)
one_read k s = one_reading _

pub one_read_date : (s : List ℕ) → OneAnswer (ReadsDate s)
one_read_date = one_read format.Date

pub one_read_date_tz : (s : List ℕ) → OneAnswer (ReadsDateTz s)
one_read_date_tz = one_read format.DateTz

pub one_read_time : (s : List ℕ) → OneAnswer (ReadsTime s)
one_read_time = one_read format.Time

pub one_read_time_tz : (s : List ℕ) → OneAnswer (ReadsTimeTz s)
one_read_time_tz = one_read format.TimeTz

pub one_read_datetime : (s : List ℕ) → OneAnswer (ReadsDatetime s)
one_read_datetime = one_read format.Datetime

pub one_read_datetime_tz : (s : List ℕ) → OneAnswer (ReadsDatetimeTz s)
one_read_datetime_tz = one_read format.DatetimeTz

pub one_read_date_or_date_tz : (s : List ℕ) → OneAnswer (ReadsDateOrDateTz s)
one_read_date_or_date_tz s = one_reading _

pub one_read_time_or_time_tz : (s : List ℕ) → OneAnswer (ReadsTimeOrTimeTz s)
one_read_time_or_time_tz s = one_reading _

pub one_read_datetime_or_datetime_tz : (s : List ℕ) → OneAnswer (ReadsDatetimeOrDatetimeTz s)
one_read_datetime_or_datetime_tz s = one_reading _

-- ---- the kind that an either-or reader chooses

pub one_date_kind : (s : List ℕ) → OneAnswer (ChoosesDate s)
one_date_kind s = one_kind _

pub one_time_kind : (s : List ℕ) → OneAnswer (ChoosesTime s)
one_time_kind s = one_kind _

pub one_datetime_kind : (s : List ℕ) → OneAnswer (ChoosesDatetime s)
one_datetime_kind s = one_kind _
