-- What the code's answers mean in the paper's terms.
--
--   written_number r     the number of what a writer answered: 0, or the refusal's
--   written_count r      its count of octets: 0 after a refusal
--   outcome f r          what a reader answered: what it found, in the terms of f, or the refusal's number and nothing else
--   answered k value a   what was read, of the kind k, whose values mean what `value` says: kind, form with its digits, value
--   decoded d            a decoded stamp: the same, under its kind
--   local_found l        what a reader found that makes no date: the local reading and the offset
--   local_in o           the local reading and the offset of what was read
use Rattle.std.specs.Prelude.{ℕ, ℤ, Result, Ok, Err}
use Rattle.format.specs.Words.{Outcome, accepted, refused}
use Rattle.format.specs.Calendar.{day_number}
use Rattle.format.specs.Local.{join}
use Rattle.format.specs.Values as format
use Rattle.values.specs.declared.answers.Answer.{Answer}
use Rattle.values.specs.declared.answers.Decoded.{Decoded}
use Rattle.values.specs.declared.answers.Decoded.TheVariants as D
use Rattle.values.specs.declared.answers.Located.{Located}
use Rattle.values.specs.declared.refusal.Refusal.{Refusal}
use Rattle.values.specs.Meaning.{refusal_number, form_from, date_value, date_tz_value, time_value, time_tz_value, datetime_value, datetime_tz_value}

abbrev pub written_number : Result ℕ Refusal → ℕ
written_number (Ok n) = 0
written_number (Err r) = refusal_number r

abbrev pub written_count : Result ℕ Refusal → ℕ
written_count (Ok n) = n
written_count (Err r) = 0

abbrev pub outcome : {T A : Type 0} → (T → A) → Result T Refusal → Outcome A
outcome f (Ok t) = accepted (f t)
outcome f (Err r) = refused (refusal_number r)

abbrev pub answered : {T : Type 0} → format.Kind → (T → format.Value) → Answer T → format.Answer
answered k value a = record { kind = k; form = form_from a.form; value = value a.value }

abbrev pub decoded : Decoded → format.Answer
decoded (D.Date a) = answered format.Date date_value a
decoded (D.DateTz a) = answered format.DateTz date_tz_value a
decoded (D.Time a) = answered format.Time time_value a
decoded (D.TimeTz a) = answered format.TimeTz time_tz_value a
decoded (D.Datetime a) = answered format.Datetime datetime_value a
decoded (D.DatetimeTz a) = answered format.DatetimeTz datetime_tz_value a

abbrev pub local_found : Located → ℕ × ℤ
local_found l = (l.local, l.offset.minutes)

-- 24:00 is the next day's 00:00 in it
abbrev pub local_and_offset : format.Value → ℕ × ℤ
local_and_offset v = (join format.end_of_day (day_number v.date) v.micros, v.offset)

abbrev pub local_in : Outcome format.Answer → Outcome (ℕ × ℤ)
local_in (accepted a) = accepted (local_and_offset a.value)
local_in (refused n) = refused n
