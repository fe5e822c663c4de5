-- One answer: no two different answers meet the promise of a public call, whatever it is given. (01, What the promises have to say.)
-- Each promise has the name that the call's contract cites (`specs/Calls.antt` of `calendar`, `values`, `stamp`, `instants` and `schedule`, `specs/Boundary.antt`, `specs/Utc.antt` and `specs/Files.antt` of `boundary`); `OneAnswer P`
-- says that no two different answers meet P, and `OneWriting P` the same of a writer's answer and every octet of the buffer that it leaves; `OnePart P` of a part that is handed
-- back; `OneWritingForC`, `OneReadingForC`, `OneNumberForC`, `OneCountForC`, `OneHoldingForC`, `OnePartForC` of the C functions.
use Rattle.std.specs.Prelude.{ℕ, ◌≡◌, Bool, List, ℤ, Result}
use Rattle.std.specs.Borrow.{Bor}
use Rattle.format.specs.Promises.{OneAnswer}
use Rattle.calendar.specs.declared.Date.{Date}
use Rattle.calendar.specs.Calls.{DateNew, DateInRange, DayNumber, DateOf, YearStart}
use Rattle.values.specs.declared.parts.Time.{Time}
use Rattle.values.specs.declared.parts.Offset.{Offset}
use Rattle.values.specs.declared.kinds.DateTz.{DateTz}
use Rattle.values.specs.declared.kinds.TimeTz.{TimeTz}
use Rattle.values.specs.declared.kinds.Datetime.{Datetime}
use Rattle.values.specs.declared.kinds.DatetimeTz.{DatetimeTz}
use Rattle.values.specs.declared.kinds.Kind.{Kind}
use Rattle.values.specs.declared.kinds.Value.{Value}
use Rattle.values.specs.declared.answers.Decoded.{Decoded}
use Rattle.values.specs.declared.refusal.Refusal.{Refusal}
use Rattle.values.specs.declared.settings.Form.{Form}
use Rattle.values.specs.declared.settings.Settings.{Settings}
use Rattle.values.specs.Calls as values
use Rattle.stamp.specs.Calls as stamp
use Rattle.instants.specs.declared.Instant.{Instant}
use Rattle.instants.specs.declared.Refusal.{Refusal as InstantsRefusal}
use Rattle.instants.specs.Calls as instants
use Rattle.schedule.specs.declared.Refusal.{Refusal as ScheduleRefusal}
use Rattle.schedule.specs.declared.Fault.{Fault as ScheduleFault}
use Rattle.schedule.specs.Calls as schedule
use Rattle.format.specs.Values as format
use Rattle.boundary.specs.Boundary as boundary
use Rattle.boundary.specs.Utc as utc
use Rattle.boundary.specs.Files as files

abbrev pub OneWriting : (List ℕ → Result ℕ Refusal → List ℕ → Type 0) → Type 0
OneWriting P = (lent : List ℕ) (r r' : Result ℕ Refusal) (left left' : List ℕ) → P lent r left → P lent r' left' → (r ≡ r') × (left ≡ left')

abbrev pub CalendarAnswers : Type 0
CalendarAnswers =
    ((y m d : ℕ) → OneAnswer (DateNew y m d))
    × ((d : Date) → OneAnswer (DateInRange d))
    × ((d : Date) → OneAnswer (DayNumber d))
    × ((n : ℕ) → OneAnswer (DateOf n))
    × ((y : ℕ) → OneAnswer (YearStart y))

abbrev pub PartsAnswers : Type 0
PartsAnswers =
    ((m : ℕ) → OneAnswer (values.TimeNew m))
    × OneAnswer values.TimeEndOfDay
    × ((t : Time) → OneAnswer (values.TimeIsEndOfDay t))
    × ((t : Time) → OneAnswer (values.TimeInRange t))
    × ((m : ℤ) → OneAnswer (values.OffsetNew m))
    × ((o : Offset) → OneAnswer (values.OffsetInRange o))
    × ((k : Kind) → OneAnswer (values.KindDated k))
    × ((k : Kind) → OneAnswer (values.KindTimed k))
    × ((k : Kind) → OneAnswer (values.KindZoned k))
    × ((n : ℕ) → OneAnswer (values.KindOfNumber n))
    × ((k : Kind) → OneAnswer (values.KindNumber k))
    × ((v : Value) (k : Kind) → OneAnswer (values.ValueRestInRange v k))
    × ((v : Value) (k : Kind) → OneAnswer (values.ValueInRange v k))
    × ((d : Decoded) → OneAnswer (values.DecodedKind d))
    × ((d : Decoded) → OneAnswer (values.DecodedForm d))
    × ((d : Decoded) → OneAnswer (values.DecodedValue d))
    × ((f : Refusal) → OneAnswer (values.RefusalNumber f))

abbrev pub SettingsAnswers : Type 0
SettingsAnswers =
    ((b : Bool) (n d : ℕ) → OneAnswer (values.SettingsNew b n d))
    × OneAnswer values.SettingsDefault
    × ((f : Form) → OneAnswer (values.SettingsForForm f))
    × ((t : Settings) (k : Kind) (v : Value) → OneAnswer (values.SettingsForm t k v))
    × ((t : Settings) → OneAnswer (values.SettingsInRange t))

abbrev pub WritersAnswers : Type 0
WritersAnswers =
    ((t : Settings) (v : Date) → OneWriting (stamp.WritesDate t v))
    × ((t : Settings) (v : DateTz) → OneWriting (stamp.WritesDateTz t v))
    × ((t : Settings) (v : Time) → OneWriting (stamp.WritesTime t v))
    × ((t : Settings) (v : TimeTz) → OneWriting (stamp.WritesTimeTz t v))
    × ((t : Settings) (v : Datetime) → OneWriting (stamp.WritesDatetime t v))
    × ((t : Settings) (v : DatetimeTz) → OneWriting (stamp.WritesDatetimeTz t v))

abbrev pub ReadersAnswers : Type 0
ReadersAnswers =
    ((s : List ℕ) → OneAnswer (stamp.ReadsDate s))
    × ((s : List ℕ) → OneAnswer (stamp.ReadsDateTz s))
    × ((s : List ℕ) → OneAnswer (stamp.ReadsTime s))
    × ((s : List ℕ) → OneAnswer (stamp.ReadsTimeTz s))
    × ((s : List ℕ) → OneAnswer (stamp.ReadsDatetime s))
    × ((s : List ℕ) → OneAnswer (stamp.ReadsDatetimeTz s))
    × ((s : List ℕ) → OneAnswer (stamp.ReadsDateOrDateTz s))
    × ((s : List ℕ) → OneAnswer (stamp.ReadsTimeOrTimeTz s))
    × ((s : List ℕ) → OneAnswer (stamp.ReadsDatetimeOrDatetimeTz s))
    × ((s : List ℕ) → OneAnswer (stamp.ChoosesDate s))
    × ((s : List ℕ) → OneAnswer (stamp.ChoosesTime s))
    × ((s : List ℕ) → OneAnswer (stamp.ChoosesDatetime s))

abbrev pub InstantsAnswers : Type 0
InstantsAnswers =
    ((f : InstantsRefusal) → OneAnswer (instants.RefusalNumber f))
    × ((m : ℤ) → OneAnswer (instants.InstantNew m))
    × ((i : Instant) → OneAnswer (instants.InstantInRange i))
    × ((v : DatetimeTz) → OneAnswer (instants.InstantOf v))
    × ((i : Instant) (n : ℤ) → OneAnswer (instants.InstantAdd i n))
    × ((a b : Instant) → OneAnswer (instants.InstantDifference a b))
    × ((i : Instant) (o : Offset) → OneAnswer (instants.InstantAt i o))
    × ((v : DatetimeTz) (o : Offset) → OneAnswer (instants.Restates v o))

abbrev pub ScheduleAnswers : Type 0
ScheduleAnswers =
    ((f : ScheduleRefusal) → OneAnswer (schedule.RefusalNumber f))
    × ((f : Refusal) → OneAnswer (schedule.RefusalOfStamp f))
    × ((f : ScheduleFault) → OneAnswer (schedule.RefusalOfFault f))
    × ((s : List ℕ) → OneAnswer (schedule.ReadsFile s))
    × ((s : List ℕ) (p : ℕ) → OneAnswer (schedule.FindsRecord s p))
    × ((s : List ℕ) (i : Instant) (c : ℕ) → OneAnswer (schedule.AsksFile s i c))

-- manual over plan, which is prepared: by itself
-- its octets, the memory that they are in, and their place there: all of a reference but the name by which the logic keeps account of it, which no program sees
abbrev pub OnePart : (Bor (List ℕ) → Type 0) → Type 0
OnePart P = (r r' : Bor (List ℕ)) → P r → P r' → (r.now ≡ r'.now) × (r.ref_ptr ≡ r'.ref_ptr)

abbrev pub OverAnswers : Type 0
OverAnswers =
    ((p m : List ℕ) (i : Instant) (c : ℕ) → OneAnswer (schedule.ChoosesPart p m i c))
    × ((p m : Bor (List ℕ)) (i : Instant) (c : ℕ) → OnePart (schedule.HandsBack p m i c))

-- the C functions: the number, the count and every octet; the number and all parts; the number and the number handed over; the number and both counts; the number, the
-- count and all parts; the number and both numbers of a part
abbrev pub OneWritingForC : (List ℕ → ℕ → ℕ → List ℕ → Type 0) → Type 0
OneWritingForC P =
    (lent : List ℕ) (r r' count count' : ℕ) (left left' : List ℕ) → P lent r count left → P lent r' count' left'
    → (r ≡ r') × (count ≡ count') × (left ≡ left')

abbrev pub OneReadingForC : (List ℤ → ℕ → List ℤ → Type 0) → Type 0
OneReadingForC P = (lent : List ℤ) (r r' : ℕ) (left left' : List ℤ) → P lent r left → P lent r' left' → (r ≡ r') × (left ≡ left')

abbrev pub OneNumberForC : (ℤ → ℕ → ℤ → Type 0) → Type 0
OneNumberForC P = (lent : ℤ) (r r' : ℕ) (left left' : ℤ) → P lent r left → P lent r' left' → (r ≡ r') × (left ≡ left')

abbrev pub OneCountForC : (ℕ → ℕ → ℕ → Type 0) → Type 0
OneCountForC P = (r r' count count' place place' : ℕ) → P r count place → P r' count' place' → (r ≡ r') × (count ≡ count') × (place ≡ place')

abbrev pub OneHoldingForC : (List ℤ → ℕ → ℕ → List ℤ → Type 0) → Type 0
OneHoldingForC P =
    (lent : List ℤ) (r r' count count' : ℕ) (left left' : List ℤ) → P lent r count left → P lent r' count' left'
    → (r ≡ r') × (count ≡ count') × (left ≡ left')

abbrev pub OnePartForC : (ℕ → List ℕ → Type 0) → Type 0
OnePartForC P = (r r' : ℕ) (left left' : List ℕ) → P r left → P r' left' → (r ≡ r') × (left ≡ left')

abbrev pub BoundaryAnswers : Type 0
BoundaryAnswers =
    ((n : ℕ) (t : format.Settings) (v : format.Value) → OneWritingForC (boundary.WritesNumbered n t v))
    × ((n : ℕ) (s : List ℕ) → OneReadingForC (boundary.ReadsNumbered n s))
    × ((v : format.Value) → OneNumberForC (utc.InstantForC v))
    × ((i n : ℤ) → OneNumberForC (utc.AddForC i n))
    × ((a b : ℤ) → OneNumberForC (utc.DifferenceForC a b))
    × ((i o : ℤ) → OneReadingForC (utc.AtForC i o))
    × ((v : format.Value) (o : ℤ) → OneReadingForC (utc.RestateForC v o))
    × ((s : List ℕ) → OneCountForC (files.ReadForC s))
    × ((s : List ℕ) (p : ℕ) → OneReadingForC (files.RecordForC s p))
    × ((s : List ℕ) (t : ℤ) (c : ℕ) → OneHoldingForC (files.HoldsForC s t c))

abbrev pub OverForCAnswers : Type 0
OverForCAnswers = (p m : List ℕ) (t : ℤ) (c : ℕ) → OnePartForC (files.OverForC p m t c)
