-- What each public call promises, whatever it is given: the legend. A contract cites the name, and so does the theorem of one answer
-- (proofs/OneAnswer).
--
--   TimeNew m r              `Time::new`: the number of microseconds, right or wrong
--   TimeEndOfDay r           `Time::end_of_day`: 24:00
--   TimeIsEndOfDay t r       `Time::is_end_of_day`: whether it is 24:00, which 00:00 is not
--   TimeInRange t r          `Time::in_range`: whether it is at most 24:00
--   OffsetNew m r            `Offset::new`: the number of minutes, right or wrong
--   OffsetInRange o r        `Offset::in_range`: whether it is at most 23:59, either way
--   KindDated k r            `Kind::dated`: whether the kind has a date
--   KindTimed k r            `Kind::timed`: whether it has a time
--   KindZoned k r            `Kind::zoned`: whether it has an offset
--   KindOfNumber n r         `Kind::try_from(number)`: the kind with that number, or none
--   KindNumber k r           `u32::from(kind)`: its number, 0 to 5
--   ValueRestInRange v k r   `Value::rest_in_range`: whether time and offset are in range, where the kind has them
--   ValueInRange v k r       `Value::in_range`: whether each part is that the kind has
--   DecodedKind d r          `Decoded::kind`: the kind of a decoded stamp
--   DecodedForm d r          `Decoded::form`: the form in which it stood
--   DecodedValue d r         `Decoded::value`: its parts; those that its kind lacks are 0
--   RefusalNumber f r        `u32::from(refusal)`: 1 to 8
--   SettingsNew b n d r      `Settings::new`: binary, version and digits, right or wrong
--   SettingsDefault r        `Settings::default`: text with milliseconds
--   SettingsForForm f r      `Settings::for_form`: settings under which a value that has the form is written in it
--   SettingsForm t k v r     `Settings::form`: the form that a value is written in
--   SettingsInRange t r      `Settings::in_range`: whether there are at most 6 digits
use Rattle.std.specs.Prelude.{ℕ, ℤ, eqb, ◌≡◌, Bool, Result}
use Rattle.format.specs.Values as format
use Rattle.format.specs.Choice.{form_for, settings_for}
use Rattle.values.specs.declared.parts.Time.{Time}
use Rattle.values.specs.declared.parts.Offset.{Offset}
use Rattle.values.specs.declared.kinds.Kind.{Kind}
use Rattle.values.specs.declared.kinds.NoSuchKind.{NoSuchKind}
use Rattle.values.specs.declared.kinds.Value.{Value}
use Rattle.values.specs.declared.answers.Decoded.{Decoded}
use Rattle.values.specs.declared.refusal.Refusal.{Refusal}
use Rattle.values.specs.declared.settings.Form.{Form}
use Rattle.values.specs.declared.settings.Settings.{Settings}
use Rattle.values.specs.Meaning.{refusal_number, form_from, settings_from, kind_from, kind_numbered, kind_number, kind_found, value_from}
use Rattle.values.specs.Answers.{decoded}

-- ---- times

-- the time of any number of microseconds
abbrev pub TimeNew : ℕ → Time → Type 0
TimeNew m r = r ≡ record { micros = m }

-- 24:00
abbrev pub TimeEndOfDay : Time → Type 0
TimeEndOfDay r = r ≡ record { micros = format.end_of_day }

-- whether it is 24:00
abbrev pub TimeIsEndOfDay : Time → Bool → Type 0
TimeIsEndOfDay t r = r ≡ eqb t.micros format.end_of_day

-- whether it is at most 24:00
abbrev pub TimeInRange : Time → Bool → Type 0
TimeInRange t r = r ≡ format.time_in_range t.micros

-- ---- offsets

-- the offset of any number of minutes
abbrev pub OffsetNew : ℤ → Offset → Type 0
OffsetNew m r = r ≡ record { minutes = m }

-- whether it is at most 23:59, either way
abbrev pub OffsetInRange : Offset → Bool → Type 0
OffsetInRange o r = r ≡ format.offset_in_range o.minutes

-- ---- kinds and values

-- whether the kind has a date
abbrev pub KindDated : Kind → Bool → Type 0
KindDated k r = r ≡ format.dated (kind_from k)

-- whether the kind has a time
abbrev pub KindTimed : Kind → Bool → Type 0
KindTimed k r = r ≡ format.timed (kind_from k)

-- whether the kind has an offset
abbrev pub KindZoned : Kind → Bool → Type 0
KindZoned k r = r ≡ format.zoned (kind_from k)

-- the kind with a number
abbrev pub KindOfNumber : ℕ → Result Kind NoSuchKind → Type 0
KindOfNumber n r = kind_found r ≡ kind_numbered n

-- the number of a kind
abbrev pub KindNumber : Kind → ℕ → Type 0
KindNumber k r = r ≡ kind_number (kind_from k)

-- whether time and offset are in range, where the kind has them
abbrev pub ValueRestInRange : Value → Kind → Bool → Type 0
ValueRestInRange v k r = r ≡ format.rest_in_range (kind_from k) (value_from v)

-- whether each part is in range that the kind has
abbrev pub ValueInRange : Value → Kind → Bool → Type 0
ValueInRange v k r = r ≡ format.in_range (kind_from k) (value_from v)

-- ---- decoded stamps

-- the kind
abbrev pub DecodedKind : Decoded → Kind → Type 0
DecodedKind d r = kind_from r ≡ (decoded d).kind

-- the form
abbrev pub DecodedForm : Decoded → Form → Type 0
DecodedForm d r = form_from r ≡ (decoded d).form

-- the parts
abbrev pub DecodedValue : Decoded → Value → Type 0
DecodedValue d r = value_from r ≡ (decoded d).value

-- ---- refusals

-- the number of a refusal
abbrev pub RefusalNumber : Refusal → ℕ → Type 0
RefusalNumber f r = r ≡ refusal_number f

-- ---- settings

-- the settings of any binary, version and digits
abbrev pub SettingsNew : Bool → ℕ → ℕ → Settings → Type 0
SettingsNew b n d r = settings_from r ≡ record { binary = b; version = n; digits = d }

-- the settings of whoever sets nothing
abbrev pub SettingsDefault : Settings → Type 0
SettingsDefault r = settings_from r ≡ format.defaults

-- the settings to write with again after a read
abbrev pub SettingsForForm : Form → Settings → Type 0
SettingsForForm f r = settings_from r ≡ settings_for (form_from f)

-- the form that a value of the kind is written in (01, Choice of form)
abbrev pub SettingsForm : Settings → Kind → Value → Form → Type 0
SettingsForm t k v r = form_from r ≡ form_for (kind_from k) (settings_from t) (value_from v)

-- whether there are at most 6 digits
abbrev pub SettingsInRange : Settings → Bool → Type 0
SettingsInRange t r = r ≡ format.digits_in_range t.digits
