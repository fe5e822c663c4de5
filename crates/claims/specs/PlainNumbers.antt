-- What is claimed of limits, defaults and choices, in the documents' own numbers: each stands here as a literal and not by its name in the definitions, so
-- that a definition with another number would make a claim false. (`ReaderRefusals.antt` has the numbers of the readers' questions in the same way.)
--
--   in_range k v           each part that the kind has is in its range; `needs (zoned k) ..`: asked only where the kind has an offset
--   permitted t            the settings may be given
--   form_for k t v         the form that a writer chooses
--   has_form k compact v   the value has a compact form; where not, refusal 3
--   number k v             the number that compact writes: days, milliseconds, T
--   kind_in e s            the kind that an either-or reader chooses; `kind_by01 e s`: that it chose before request 1 of document 02
--   between a b n          n is from a to b; `signed_between a b x`: x is from -a to b
use Rattle.std.specs.Prelude.{ℕ, ◌≤◌, ◌≡◌, ◌↔◌, Bool, true, false, not, List, ℤ, pos, negsuc, nat_abs, leb, eqb, length, get_or}
use Rattle.format.specs.Words.{both, either, needs, if_any, accepted}
use Rattle.format.specs.Octets.{Octets}
use Rattle.format.specs.Calendar.{is_day}
use Rattle.format.specs.Values as format
use Rattle.format.specs.Values.{Kind, Date, DateTz, Time, TimeTz, Datetime, DatetimeTz, dated, timed, zoned, Value, in_range, permitted, text, compact, extended, Answer}
use Rattle.format.specs.Choice.{form_for}
use Rattle.format.specs.Compact.{number}
use Rattle.format.specs.Writing.{has_form}
use Rattle.format.specs.Reading.{read}
use Rattle.format.specs.EitherOr.{Family, DateOrTz, TimeOrTz, DatetimeOrTz, kind_by01, kind_in, read_either}
use Rattle.values.specs.declared.settings.Settings.{Settings}
use Rattle.values.specs.Calls.{SettingsDefault}
use Rattle.claims.specs.ReaderRefusals.{between, signed_between}

-- "Time: 0 to 86,400,000,000 microseconds." "Offset: -1,439 to 1,439 minutes": a value is in range where every part is that its kind has. (For dates see
-- `NumbersAndDates` and `TheDays`.) "Settings: .. version, any unsigned 32-bit number; digits, 0 to 6." And an octet is 0 to 255.
abbrev pub TheLimits : Type 0
TheLimits =
    ((k : Kind) (v : Value)
    → in_range k v
    ≡ both (needs (dated k) (is_day v.date)) (both (needs (timed k) (leb v.micros 86400000000)) (needs (zoned k) (signed_between 1439 1439 v.offset))))
    × ((t : format.Settings) → permitted t ≡ both (leb t.digits 6) (leb t.version 4294967295))
    × ((s : List ℕ) → Octets s ↔ ((i : ℕ) → get_or s i 0 ≤ 255))

-- "the defaults (text, version 0, digits 3)": of the definition, and of what `Settings::default` answers
abbrev pub TheDefaults : Type 0
TheDefaults =
    (format.defaults ≡ record { binary = false; version = 0; digits = 3 })
    × ((r : Settings) → SettingsDefault r → (r.binary ≡ false) × (r.version ≡ 0) × (r.digits ≡ 3))

-- "Not binary: text. Binary, version at least 35,500, and digits 6 or time 24:00: extended. Otherwise binary: compact. Date and DateTz have text and compact
-- only, by the binary setting alone." (`timed k`: it is not one of these two. Their text has no digits.)
abbrev pub WrittenForm : Type 0
WrittenForm =
    (k : Kind) (t : format.Settings) (v : Value)
    → (let new = both (leb 35500 t.version) (either (eqb t.digits 6) (eqb v.micros 86400000000)) in
    (t.binary ≡ false → form_for k t v ≡ text (if_any (timed k) t.digits))
    × (t.binary ≡ true → both (timed k) new ≡ true → form_for k t v ≡ extended)
    × (t.binary ≡ true → both (timed k) new ≡ false → form_for k t v ≡ compact))

-- x is at most b
abbrev pub up_to : ℕ → ℤ → Bool
up_to b (pos n) = leb n b
up_to b (negsuc n) = true

-- "Written without an offset, T must be at most 140,737,488,355,327 (6 octets). Written with one, T must be at most 251,824,463,999,999. Beyond these is
-- refusal 3." An offset of zero is not written. Nothing but a date-time is ever without a compact form, and every value has the other two: 3 is compact's alone.
abbrev pub CompactLimits : Type 0
CompactLimits =
    ((v : Value) → has_form Datetime compact v ≡ up_to 140737488355327 (number Datetime v))
    × ((v : Value) → nat_abs v.offset ≡ 0 → has_form DatetimeTz compact v ≡ up_to 140737488355327 (number DatetimeTz v))
    × ((v : Value) → (nat_abs v.offset ≡ 0 → ⊥) → has_form DatetimeTz compact v ≡ up_to 251824463999999 (number DatetimeTz v))
    × ((k : Kind) (v : Value) → both (dated k) (timed k) ≡ false → in_range k v ≡ true → has_form k compact v ≡ true)
    × ((k : Kind) (v : Value) → ((d : ℕ) → has_form k (text d) v ≡ true) × (has_form k extended v ≡ true))

-- the first four bits are 1000: the first octet is 80 to 8F in hex; and 1001
abbrev pub bits1000 : List ℕ → Bool
bits1000 s = between 0x80 0x8F (get_or s 0 0)

abbrev pub bits1001 : List ℕ → Bool
bits1001 s = between 0x90 0x9F (get_or s 0 0)

-- 02, request 1: "14 octets whose ninth is `+` or `-`",
abbrev pub fourteen_with_sign : List ℕ → Bool
fourteen_with_sign s = both (eqb (length s) 14) (either (eqb (get_or s 8 0) 0x2B) (eqb (get_or s 8 0) 0x2D))

-- and "25 octets whose twentieth is `+` or `-`"
abbrev pub twenty_five_with_sign : List ℕ → Bool
twenty_five_with_sign s = both (eqb (length s) 25) (either (eqb (get_or s 19 0) 0x2B) (eqb (get_or s 19 0) 0x2D))

-- "Either-or, first rule that fits." Of s, n octets,
-- "Date: up to 3 plain, up to 5 zoned, up to 10 plain, else zoned."
abbrev pub ChosenDate : List ℕ → ℕ → Type 0
ChosenDate s n =
    (n ≤ 3 → kind_in DateOrTz s ≡ Date)
    × (4 ≤ n → n ≤ 5 → kind_in DateOrTz s ≡ DateTz)
    × (6 ≤ n → n ≤ 10 → kind_in DateOrTz s ≡ Date)
    × (11 ≤ n → kind_in DateOrTz s ≡ DateTz)

-- "Time: up to 4 plain; up to 6 zoned; 7 with bits 1000 plain; 7 with 1001 zoned; [02: 14 octets whose ninth is a sign zoned;] up to 15 plain; else zoned."
abbrev pub ChosenTime : List ℕ → ℕ → Type 0
ChosenTime s n =
    (n ≤ 4 → kind_in TimeOrTz s ≡ Time)
    × (5 ≤ n → n ≤ 6 → kind_in TimeOrTz s ≡ TimeTz)
    × (n ≡ 7 → bits1001 s ≡ true → kind_in TimeOrTz s ≡ TimeTz)
    × (n ≡ 7 → bits1001 s ≡ false → kind_in TimeOrTz s ≡ Time)
    × (fourteen_with_sign s ≡ true → kind_in TimeOrTz s ≡ TimeTz)
    × (8 ≤ n → n ≤ 15 → fourteen_with_sign s ≡ false → kind_in TimeOrTz s ≡ Time)
    × (16 ≤ n → kind_in TimeOrTz s ≡ TimeTz)

-- "Datetime: up to 6 plain; up to 9 zoned; bits 1000 plain; bits 1001 zoned; [02: 25 octets whose twentieth is a sign zoned;] up to 26 plain; else zoned."
abbrev pub ChosenDatetime : List ℕ → ℕ → Type 0
ChosenDatetime s n =
    (n ≤ 6 → kind_in DatetimeOrTz s ≡ Datetime)
    × (7 ≤ n → n ≤ 9 → kind_in DatetimeOrTz s ≡ DatetimeTz)
    × (10 ≤ n → bits1000 s ≡ true → kind_in DatetimeOrTz s ≡ Datetime)
    × (10 ≤ n → bits1001 s ≡ true → kind_in DatetimeOrTz s ≡ DatetimeTz)
    × (bits1000 s ≡ false → twenty_five_with_sign s ≡ true → kind_in DatetimeOrTz s ≡ DatetimeTz)
    × (10 ≤ n → n ≤ 26 → bits1001 s ≡ false → twenty_five_with_sign s ≡ false → kind_in DatetimeOrTz s ≡ Datetime)
    × (27 ≤ n → bits1000 s ≡ false → kind_in DatetimeOrTz s ≡ DatetimeTz)

abbrev pub ChosenKind : Type 0
ChosenKind = (s : List ℕ) → ChosenDate s (length s) × ChosenTime s (length s) × ChosenDatetime s (length s)

-- 02, request 1: "other choices stand". Where request 1 moves 01's choice: for a time where its rule fits; for a date-time where it
-- fits and 01's rules of the first bits do not.
abbrev pub moves : Family → List ℕ → Bool
moves DateOrTz s = false
moves TimeOrTz s = fourteen_with_sign s
moves DatetimeOrTz s = both (twenty_five_with_sign s) (not (either (bits1000 s) (bits1001 s)))

-- There and nowhere else the two choices differ: 01's was the plain kind, and the zoned one is chosen now.
abbrev pub OtherChoicesStand : Type 0
OtherChoicesStand =
    ((e : Family) (s : List ℕ) → (kind_in e s ≡ kind_by01 e s) ↔ (moves e s ≡ false))
    × ((s : List ℕ) → moves TimeOrTz s ≡ true → (kind_by01 TimeOrTz s ≡ Time) × (kind_in TimeOrTz s ≡ TimeTz))
    × ((s : List ℕ) → moves DatetimeOrTz s ≡ true → (kind_by01 DatetimeOrTz s ≡ Datetime) × (kind_in DatetimeOrTz s ≡ DatetimeTz))

-- So no stamp is lost: what was accepted by 01's choice is accepted still, with the same answer.
abbrev pub NoStampLost : Type 0
NoStampLost = (e : Family) (s : List ℕ) (a : Answer) → read (kind_by01 e s) s ≡ accepted a → read_either e s ≡ accepted a

-- And what is accepted where the choice has moved is a zoned text without fraction.
abbrev pub NewStamps : Type 0
NewStamps = (e : Family) (s : List ℕ) (a : Answer) → moves e s ≡ true → read_either e s ≡ accepted a → (zoned a.kind ≡ true) × (a.form ≡ text 0)
