-- No two different answers meet one promise: of any writer, of any reader, and of each public call, at the promise that its contract cites
-- (specs/Calls). What an answer means can be undone, a clause for each case. Assumes nothing.
use mathlib.Core.Path.{◌≡◌, refl, sym, ap, ◌∙◌}
use mathlib.Core.Bool.{Bool}
use mathlib.Core.List.{List}
use Prim.Native.Nat.{ℕ}
use lib.IntN.{ℤ}
use lib.Dec.{eqb}
use Rattle.format.specs.Words.{pick, Outcome, accepted, refused}
use Rattle.format.specs.Values as format
use Rattle.format.specs.Promises.{OneAnswer}
use Rattle.format.proofs.Promises.{equal_one, meaning_one}
use Rattle.values.specs.declared.parts.Time.{Time}
use Rattle.values.specs.declared.parts.Offset.{Offset}
use Rattle.values.specs.declared.kinds.Kind.{Kind}
use Rattle.values.specs.declared.kinds.Kind.TheVariants as K
use Rattle.values.specs.declared.kinds.NoSuchKind.{NoSuchKind}
use Rattle.values.specs.declared.kinds.Value.{Value}
use Rattle.values.specs.declared.refusal.Refusal.{Refusal}
use Rattle.values.specs.declared.refusal.Refusal.TheVariants as R
use Rattle.values.specs.declared.settings.Form.{Form}
use Rattle.values.specs.declared.settings.Form.TheVariants as F
use Rattle.values.specs.declared.settings.Settings.{Settings}
use Rattle.std.specs.Prelude.{Result, Ok, Err}
use Rattle.values.specs.declared.answers.Answer.{Answer}
use Rattle.values.specs.declared.answers.Decoded.{Decoded}
use Rattle.values.specs.declared.answers.Decoded.TheVariants as D
use Rattle.values.specs.Meaning.{refusal_number, form_from, settings_from, kind_from, kind_found, value_from}
use Rattle.values.specs.Answers.{written_number, written_count, outcome, answered, decoded}
use Rattle.values.specs.Promise.{Left, Writes, Reads, ReadsAs}
use Rattle.values.specs.Calls.{TimeNew, TimeEndOfDay, TimeIsEndOfDay, TimeInRange, OffsetNew, OffsetInRange}
use Rattle.values.specs.Calls.{KindDated, KindTimed, KindZoned, KindOfNumber, KindNumber, ValueRestInRange, ValueInRange, DecodedKind, DecodedForm, DecodedValue, RefusalNumber}
use Rattle.values.specs.Calls.{SettingsNew, SettingsDefault, SettingsForForm, SettingsForm, SettingsInRange}

-- ---- meanings undone

-- the numbers of no refusal go anywhere
pub refusal_of : ℕ → Refusal
refusal_of n =
    pick (eqb n 1) R.Digits (pick (eqb n 2) R.Value (pick (eqb n 3) R.NoCompact (pick (eqb n 4) R.Buffer
    (pick (eqb n 5) R.Length (pick (eqb n 6) R.Octet (pick (eqb n 7) R.Redundant R.Range))))))

pub refusal_back : (r : Refusal) → refusal_of (refusal_number r) ≡ r
unfolding refusal_of
refusal_back R.Digits = refl
refusal_back R.Value = refl
refusal_back R.NoCompact = refl
refusal_back R.Buffer = refl
refusal_back R.Length = refl
refusal_back R.Octet = refl
refusal_back R.Redundant = refl
refusal_back R.Range = refl

form_of : format.Form → Form
form_of (format.text d) = F.Text d
form_of format.compact = F.Compact
form_of format.extended = F.Extended

form_back : (f : Form) → form_of (form_from f) ≡ f
unfolding form_of
form_back (F.Text d) = refl
form_back F.Compact = refl
form_back F.Extended = refl

kind_of : format.Kind → Kind
kind_of format.Date = K.Date
kind_of format.DateTz = K.DateTz
kind_of format.Time = K.Time
kind_of format.TimeTz = K.TimeTz
kind_of format.Datetime = K.Datetime
kind_of format.DatetimeTz = K.DatetimeTz

kind_back : (k : Kind) → kind_of (kind_from k) ≡ k
unfolding kind_of
kind_back K.Date = refl
kind_back K.DateTz = refl
kind_back K.Time = refl
kind_back K.TimeTz = refl
kind_back K.Datetime = refl
kind_back K.DatetimeTz = refl

settings_of : format.Settings → Settings
settings_of t = record { binary = t.binary; version = t.version; digits = t.digits }

settings_back : (t : Settings) → settings_of (settings_from t) ≡ t
unfolding settings_of
settings_back t = refl

value_of : format.Value → Value
value_of v = record { date = record { year = v.date.year; month = v.date.month; day = v.date.day }; time = record { micros = v.micros }; offset = record { minutes = v.offset } }

value_back : (v : Value) → value_of (value_from v) ≡ v
unfolding value_of
value_back v = refl

-- a count is a writer's only where the number is 0
written_of : ℕ → ℕ → Result ℕ Refusal
written_of n k = pick (eqb n 0) (Ok k) (Err (refusal_of n))

written_back : (r : Result ℕ Refusal) → written_of (written_number r) (written_count r) ≡ r
unfolding written_of refusal_of
written_back (Ok n) = refl
written_back (Err R.Digits) = refl
written_back (Err R.Value) = refl
written_back (Err R.NoCompact) = refl
written_back (Err R.Buffer) = refl
written_back (Err R.Length) = refl
written_back (Err R.Octet) = refl
written_back (Err R.Redundant) = refl
written_back (Err R.Range) = refl

decoded_of : format.Kind → Form → format.Value → Decoded
decoded_of format.Date f v = D.Date (record { value = record { year = v.date.year; month = v.date.month; day = v.date.day }; form = f })
decoded_of format.DateTz f v =
    D.DateTz (record { value = record { date = record { year = v.date.year; month = v.date.month; day = v.date.day }; offset = record { minutes = v.offset } }; form = f })
decoded_of format.Time f v = D.Time (record { value = record { micros = v.micros }; form = f })
decoded_of format.TimeTz f v = D.TimeTz (record { value = record { time = record { micros = v.micros }; offset = record { minutes = v.offset } }; form = f })
decoded_of format.Datetime f v =
    D.Datetime (record { value = record { date = record { year = v.date.year; month = v.date.month; day = v.date.day }; time = record { micros = v.micros } }; form = f })
decoded_of format.DatetimeTz f v =
    D.DatetimeTz (record {
      value = record { date = record { year = v.date.year; month = v.date.month; day = v.date.day }; time = record { micros = v.micros }; offset = record { minutes = v.offset } };
      form = f;
    })

under_kind : format.Answer → Decoded
under_kind a = decoded_of a.kind (form_of a.form) a.value

decoded_back : (d : Decoded) → under_kind (decoded d) ≡ d
unfolding under_kind decoded_of
decoded_back (D.Date a) = rw (form_back a.form)
decoded_back (D.DateTz a) = rw (form_back a.form)
decoded_back (D.Time a) = rw (form_back a.form)
decoded_back (D.TimeTz a) = rw (form_back a.form)
decoded_back (D.Datetime a) = rw (form_back a.form)
decoded_back (D.DatetimeTz a) = rw (form_back a.form)

-- what a reader found, where what it means can be undone
found_of : {T A : Type 0} → (A → T) → Outcome A → Result T Refusal
found_of g (accepted a) = Ok (g a)
found_of g (refused n) = Err (refusal_of n)

found_back : {T A : Type 0} (f : T → A) (g : A → T) → ((t : T) → g (f t) ≡ t) → (r : Result T Refusal) → found_of g (outcome f r) ≡ r
unfolding found_of
found_back f g b (Ok t) = ap Ok (b t)
found_back f g b (Err r) = rw (refusal_back r)

-- ---- writers and readers, of all kinds

-- number, count and buffer are settled
pub one_left : (o : Outcome (List ℕ)) (lent : List ℕ) (n n' k k' : ℕ) (left left' : List ℕ)
    → Left o lent n k left → Left o lent n' k' left' → (n ≡ n') × (k ≡ k') × (left ≡ left')
one_left o lent n n' k k' left left' p q =
    (p.number ∙ sym q.number, p.count ∙ sym q.count, p.buffer ∙ sym q.buffer)

pub one_writing : (o : Outcome (List ℕ)) (lent : List ℕ) (r r' : Result ℕ Refusal) (left left' : List ℕ)
    → Writes o lent r left → Writes o lent r' left' → (r ≡ r') × (left ≡ left')
one_writing o lent r r' left left' p q =
    let s = one_left o lent _ _ _ _ left left' p q in
    (sym (written_back r) ∙ rw (s.0, s.1) (written_back r'), s.2)

pub one_reading : (o : Outcome format.Answer) → OneAnswer (Reads o)
one_reading = meaning_one (outcome decoded) (found_of under_kind) (found_back decoded under_kind decoded_back)

-- the reader of one kind: the kind's own parts of a value are the value
answer_of : {T : Type 0} → (format.Value → T) → format.Answer → Answer T
answer_of g a = record { value = g a.value; form = form_of a.form }

answer_back : {T : Type 0} (k : format.Kind) (f : T → format.Value) (g : format.Value → T) → ((v : T) → g (f v) ≡ v) → (a : Answer T) → answer_of g (answered k f a) ≡ a
unfolding answer_of
answer_back k f g b a = rw (b a.value, form_back a.form)

pub one_reading_as : {T : Type 0} (k : format.Kind) (f : T → format.Value) (g : format.Value → T) → ((v : T) → g (f v) ≡ v) → (o : Outcome format.Answer) → OneAnswer (ReadsAs k f o)
one_reading_as k f g b = meaning_one (outcome (answered k f)) (found_of (answer_of g)) (found_back (answered k f) (answer_of g) (answer_back k f g b))

-- a kind that is chosen
pub one_kind : (k : format.Kind) → OneAnswer (λ (r : Kind). kind_from r ≡ k)
one_kind = meaning_one kind_from kind_of kind_back

-- ---- each public call, at the promise that its contract cites

pub one_time_new : (micros : ℕ) → OneAnswer (TimeNew micros)
one_time_new micros = equal_one _

pub one_end_of_day : OneAnswer TimeEndOfDay
one_end_of_day = equal_one _

pub one_is_end_of_day : (t : Time) → OneAnswer (TimeIsEndOfDay t)
one_is_end_of_day t = equal_one _

pub one_time_in_range : (t : Time) → OneAnswer (TimeInRange t)
one_time_in_range t = equal_one _

pub one_offset_new : (minutes : ℤ) → OneAnswer (OffsetNew minutes)
one_offset_new minutes = equal_one _

pub one_offset_in_range : (o : Offset) → OneAnswer (OffsetInRange o)
one_offset_in_range o = equal_one _

pub one_dated : (k : Kind) → OneAnswer (KindDated k)
one_dated k = equal_one _

pub one_timed : (k : Kind) → OneAnswer (KindTimed k)
one_timed k = equal_one _

pub one_zoned : (k : Kind) → OneAnswer (KindZoned k)
one_zoned k = equal_one _

found_kind : Outcome format.Kind → Result Kind NoSuchKind
found_kind (accepted k) = Ok (kind_of k)
found_kind (refused n) = Err record {}

kind_found_back : (r : Result Kind NoSuchKind) → found_kind (kind_found r) ≡ r
unfolding found_kind
kind_found_back (Ok k) = ap Ok (kind_back k)
kind_found_back (Err e) = refl

pub one_kind_of_number : (n : ℕ) → OneAnswer (KindOfNumber n)
one_kind_of_number n = meaning_one kind_found found_kind kind_found_back _

pub one_kind_number : (k : Kind) → OneAnswer (KindNumber k)
one_kind_number k = equal_one _

pub one_rest_in_range : (v : Value) (k : Kind) → OneAnswer (ValueRestInRange v k)
one_rest_in_range v k = equal_one _

pub one_value_in_range : (v : Value) (k : Kind) → OneAnswer (ValueInRange v k)
one_value_in_range v k = equal_one _

pub one_decoded_kind : (d : Decoded) → OneAnswer (DecodedKind d)
one_decoded_kind d = one_kind _

pub one_decoded_form : (d : Decoded) → OneAnswer (DecodedForm d)
one_decoded_form d = meaning_one form_from form_of form_back _

pub one_decoded_value : (d : Decoded) → OneAnswer (DecodedValue d)
one_decoded_value d = meaning_one value_from value_of value_back _

pub one_refusal_number : (f : Refusal) → OneAnswer (RefusalNumber f)
one_refusal_number f = equal_one _

pub one_settings_new : (binary : Bool) (version digits : ℕ) → OneAnswer (SettingsNew binary version digits)
one_settings_new binary version digits = meaning_one settings_from settings_of settings_back _

pub one_settings_default : OneAnswer SettingsDefault
one_settings_default = meaning_one settings_from settings_of settings_back _

pub one_settings_for_form : (f : Form) → OneAnswer (SettingsForForm f)
one_settings_for_form f = meaning_one settings_from settings_of settings_back _

pub one_settings_form : (t : Settings) (k : Kind) (v : Value) → OneAnswer (SettingsForm t k v)
one_settings_form t k v = meaning_one form_from form_of form_back _

pub one_settings_in_range : (t : Settings) → OneAnswer (SettingsInRange t)
one_settings_in_range t = equal_one _
