-- What is claimed of the code, over the promises that the public calls are proved to keep (`values/specs/Promise.antt`, `stamp/specs/Calls.antt`):
-- the first demand, "bad input gets the first refusal that applies; then no value comes back, the count is zero, the lent buffer is unchanged", and the
-- second, "for all six kinds the octets written and the value read are those of the format".
--
-- o is what writing or reading comes to by the format, `lent` the buffer as it was lent, `left` as it was left, r the code's answer. `Ok n` is a
-- writer's 'n octets', `Ok d` a reader's stamp, `D.Date` .. the kind that it names, and `Err f` a refusal.
use Rattle.std.specs.Prelude.{ℕ, ◌<◌, ◌≤◌, ◌≡◌, ◌↔◌, true, false, List, ◌++◌, ℤ, length, take, drop, Result, Ok, Err}
use Rattle.format.specs.Words.{Outcome, accepted, refused}
use Rattle.format.specs.Octets.{Octets}
use Rattle.format.specs.Values as format
use Rattle.format.specs.Choice.{form_for}
use Rattle.format.specs.Writing.{image_in, has_form, encode}
use Rattle.format.specs.EitherOr.{excepted}
use Rattle.format.specs.Keeping.{cut}
use Rattle.calendar.specs.declared.Date.{Date}
use Rattle.values.specs.declared.parts.Time.{Time}
use Rattle.values.specs.declared.kinds.DateTz.{DateTz}
use Rattle.values.specs.declared.kinds.TimeTz.{TimeTz}
use Rattle.values.specs.declared.kinds.Datetime.{Datetime}
use Rattle.values.specs.declared.kinds.DatetimeTz.{DatetimeTz}
use Rattle.values.specs.declared.refusal.Refusal.{Refusal}
use Rattle.values.specs.declared.settings.Settings.{Settings}
use Rattle.values.specs.declared.answers.Answer.{Answer}
use Rattle.values.specs.declared.answers.Decoded.{Decoded}
use Rattle.values.specs.declared.answers.Decoded.TheVariants as D
use Rattle.values.specs.Meaning.{refusal_number, settings_from, date_value, date_tz_value, time_value, time_tz_value, datetime_value, datetime_tz_value}
use Rattle.values.specs.Answers.{written_number, written_count, outcome, decoded}
use Rattle.values.specs.Promise.{Writes, Reads}
use Rattle.values.specs.Calls.{SettingsForForm}
use Rattle.stamp.specs.Calls.{WritesDate, WritesDateTz, WritesTime, WritesTimeTz, WritesDatetime, WritesDatetimeTz}
use Rattle.stamp.specs.Calls.{ReadsDate, ReadsDateTz, ReadsTime, ReadsTimeTz, ReadsDatetime, ReadsDatetimeTz}
use Rattle.stamp.specs.Calls.{ReadsDateOrDateTz, ReadsTimeOrTimeTz, ReadsDatetimeOrDatetimeTz}
use Rattle.boundary.specs.Boundary.{writing, reading_of, parts_of, WritesNumbered, ReadsNumbered}
use Rattle.claims.specs.Claims.{said}

-- Refused, nothing happens: the count is zero and every octet is as lent; a refused reading has the refusal's number and no value.
abbrev pub RefusedNothingHappens : Type 0
RefusedNothingHappens =
    ((o : Outcome (List ℕ)) (lent left : List ℕ) (r : Result ℕ Refusal) → Writes o lent r left → (written_number r ≡ 0 → ⊥)
    → (written_count r ≡ 0) × (left ≡ lent))
    × ((n : ℕ) (r : Result Decoded Refusal) → Reads (refused n) r → (f : Refusal) × (r ≡ Err f) × (refusal_number f ≡ n))

-- Accepted otherwise: the number is 0 exactly where no test fails; then the count is the image's length, the image stands in front, and the rest is as lent.
abbrev pub AcceptedOtherwise : Type 0
AcceptedOtherwise =
    (k : format.Kind) (t : format.Settings) (v : format.Value) (lent left : List ℕ) (r : Result ℕ Refusal) → Writes (encode k t v) lent r left
    → (let image = image_in k (form_for k t v) v in
    ((written_number r ≡ 0)
    ↔ ((format.digits_in_range t.digits ≡ true) × (format.in_range k v ≡ true) × (has_form k (form_for k t v) v ≡ true) × (length image ≤ length lent)))
    × (written_number r ≡ 0 → (written_count r ≡ length image) × (left ≡ image ++ drop (length image) lent)))

-- What C gets, in 01's own numbers (0 for none): "A refused read returns its number and no value; a refused write its number and count 0, and the lent buffer stays as
-- lent. An accepted write returns the image's length; octets past it stay as lent." `writing n t v`, `reading_of n s` are what it comes to at the kind with the number n, and
-- `parts_of a` the eight parts of an answer (`boundary/specs/Boundary.antt`).
abbrev pub AnsweredToC : Type 0
AnsweredToC =
    ((n : ℕ) (t : format.Settings) (v : format.Value) (lent : List ℕ) (r count : ℕ) (left : List ℕ) → WritesNumbered n t v lent r count left
    → ((m : ℕ) → writing n t v ≡ refused m → (r ≡ m) × (count ≡ 0) × (left ≡ lent))
    × ((image : List ℕ) → writing n t v ≡ accepted image → length lent < length image → (r ≡ 4) × (count ≡ 0) × (left ≡ lent))
    × ((image : List ℕ) → writing n t v ≡ accepted image → length image ≤ length lent → (r ≡ 0) × (count ≡ length image) × (left ≡ image ++ drop (length image) lent)))
    × ((n : ℕ) (s : List ℕ) (lent : List ℤ) (r : ℕ) (left : List ℤ) → ReadsNumbered n s lent r left
    → ((m : ℕ) → reading_of n s ≡ refused m → (r ≡ m) × (left ≡ lent))
    × ((a : format.Answer) → reading_of n s ≡ accepted a → (r ≡ 0) × (left ≡ parts_of a)))

-- What our writer of a kind wrote, our reader of that kind reads back as the value, cut to what its form keeps:
abbrev pub kept : format.Kind → Settings → format.Value → Outcome format.Answer
kept k t v = accepted (said k (form_for k (settings_from t) v) (cut k (form_for k (settings_from t) v) v))

-- over n octets that were written and then read
abbrev pub ReadsBack : (List ℕ → Result ℕ Refusal → List ℕ → Type 0) → (List ℕ → Result Decoded Refusal → Type 0) → Outcome format.Answer → Type 0
ReadsBack Wrote Reader o = (lent left : List ℕ) (n : ℕ) (r : Result Decoded Refusal) → Wrote lent (Ok n) left → Reader (take n left) r → outcome decoded r ≡ o

abbrev pub OwnReaderReadsBack : Type 0
OwnReaderReadsBack =
    ((t : Settings) (v : Date) → ReadsBack (WritesDate t v) ReadsDate (kept format.Date t (date_value v)))
    × ((t : Settings) (v : DateTz) → ReadsBack (WritesDateTz t v) ReadsDateTz (kept format.DateTz t (date_tz_value v)))
    × ((t : Settings) (v : Time) → ReadsBack (WritesTime t v) ReadsTime (kept format.Time t (time_value v)))
    × ((t : Settings) (v : TimeTz) → ReadsBack (WritesTimeTz t v) ReadsTimeTz (kept format.TimeTz t (time_tz_value v)))
    × ((t : Settings) (v : Datetime) → ReadsBack (WritesDatetime t v) ReadsDatetime (kept format.Datetime t (datetime_value v)))
    × ((t : Settings) (v : DatetimeTz) → ReadsBack (WritesDatetimeTz t v) ReadsDatetimeTz (kept format.DatetimeTz t (datetime_tz_value v)))

-- and so does our either-or reader, as its own kind, but for the exception (`TheException`): a text is read back always.
abbrev pub NotExcepted : format.Kind → Settings → format.Value → Type 0
NotExcepted k t v = excepted k (form_for k (settings_from t) v) v ≡ false

abbrev pub EitherReaderReadsBack : Type 0
EitherReaderReadsBack =
    ((t : Settings) (v : Date) → NotExcepted format.Date t (date_value v) → ReadsBack (WritesDate t v) ReadsDateOrDateTz (kept format.Date t (date_value v)))
    × ((t : Settings) (v : DateTz) → NotExcepted format.DateTz t (date_tz_value v) → ReadsBack (WritesDateTz t v) ReadsDateOrDateTz (kept format.DateTz t (date_tz_value v)))
    × ((t : Settings) (v : Time) → NotExcepted format.Time t (time_value v) → ReadsBack (WritesTime t v) ReadsTimeOrTimeTz (kept format.Time t (time_value v)))
    × ((t : Settings) (v : TimeTz) → NotExcepted format.TimeTz t (time_tz_value v) → ReadsBack (WritesTimeTz t v) ReadsTimeOrTimeTz (kept format.TimeTz t (time_tz_value v)))
    × ((t : Settings) (v : Datetime) → NotExcepted format.Datetime t (datetime_value v)
    → ReadsBack (WritesDatetime t v) ReadsDatetimeOrDatetimeTz (kept format.Datetime t (datetime_value v)))
    × ((t : Settings) (v : DatetimeTz) → NotExcepted format.DatetimeTz t (datetime_tz_value v)
    → ReadsBack (WritesDatetimeTz t v) ReadsDatetimeOrDatetimeTz (kept format.DatetimeTz t (datetime_tz_value v)))

-- And what our reader of a kind accepted, our writer writes again, octet for octet, under `Settings::for_form` of the form found.
abbrev pub WritesAgain : List ℕ → (List ℕ → Result ℕ Refusal → List ℕ → Type 0) → Type 0
WritesAgain s Wrote =
    (lent left : List ℕ) (r : Result ℕ Refusal) → Wrote lent r left → length s ≤ length lent → (r ≡ Ok (length s)) × (left ≡ s ++ drop (length s) lent)

abbrev pub OwnWriterWritesAgain : Type 0
OwnWriterWritesAgain =
    (s : List ℕ) (t : Settings) → Octets s
    → ((a : Answer Date) → ReadsDate s (Ok (D.Date a)) → SettingsForForm a.form t → WritesAgain s (WritesDate t a.value))
    × ((a : Answer DateTz) → ReadsDateTz s (Ok (D.DateTz a)) → SettingsForForm a.form t → WritesAgain s (WritesDateTz t a.value))
    × ((a : Answer Time) → ReadsTime s (Ok (D.Time a)) → SettingsForForm a.form t → WritesAgain s (WritesTime t a.value))
    × ((a : Answer TimeTz) → ReadsTimeTz s (Ok (D.TimeTz a)) → SettingsForForm a.form t → WritesAgain s (WritesTimeTz t a.value))
    × ((a : Answer Datetime) → ReadsDatetime s (Ok (D.Datetime a)) → SettingsForForm a.form t → WritesAgain s (WritesDatetime t a.value))
    × ((a : Answer DatetimeTz) → ReadsDatetimeTz s (Ok (D.DatetimeTz a)) → SettingsForForm a.form t → WritesAgain s (WritesDatetimeTz t a.value))
