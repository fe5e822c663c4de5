-- What is claimed of document 01's rules, to be read by itself: each claim stands under its sentence of the users' demands.
-- `proofs/Proved.antt` has a proof of each. The rules are those of the crate `format`: what a writer writes (`encode`, `image_in`, `form_for`,
-- `settings_for`), what a reader answers (`read`, `read_either`), what a form keeps (`cut`), what is in range and permitted (`in_range`, `permitted`),
-- and which kinds and values the exception is about (`family_of`, `plain_of`, `excepted`).
--
-- The third demand: "For each kind, octets are accepted exactly when some value in range, under some permitted settings, is written so. What is
-- read is that value, cut to what its form keeps (compact date-time: the end of a day reads as the start of the next). Writing it again in the form
-- and digits found gives the same octets. Where plain and zoned are both possible, what was written reads back as its own kind, but for two exceptions:
-- a compact time or date-time with offset zero reads as plain, with the local reading that its own reader gives; a zoned text time or date-time
-- without fraction is refused." Request 1 of document 02 took the second exception away: such a text now reads back as its own kind.
--
--   (x : T) → ..     for every x of T, ..; `A → B` between statements is 'if A then B'
--   (x : T) × ..     there is an x of T with ..; `A × B` between statements is 'A and B'
--   A ↔ B            A exactly when B; `a ≡ b` is 'a is b', and `⊥` what never holds
--
-- Here k is one of the six kinds, v any value, t any settings, s any octets.
use Rattle.std.specs.Prelude.{◌≡◌, ◌↔◌, true, false, List, ℕ, ◌+◌, ◌-◌, ◌%◌, ◌^◌, ◌<◌, ◌≤◌, nat_abs, eqb, length}
use Rattle.format.specs.Words.{both, accepted}
use Rattle.format.specs.Octets.{Octets}
use Rattle.format.specs.Values.{Kind, dated, timed, zoned, Value, in_range, Settings, permitted, Form, text, compact, extended, Answer}
use Rattle.format.specs.Choice.{form_for, settings_for}
use Rattle.format.specs.Writing.{encode, image_in}
use Rattle.format.specs.Reading.{read}
use Rattle.format.specs.EitherOr.{read_either, family_of, plain_of, excepted}
use Rattle.format.specs.Keeping.{owned, cut}

-- the answer of a reader: kind, form with its digits, value
abbrev pub said : Kind → Form → Value → Answer
said k f v = record { kind = k; form = f; value = v }

-- For each kind, octets are accepted exactly when some value in range, under some permitted settings, is written so.
abbrev pub AcceptedExactly : Type 0
AcceptedExactly =
    (k : Kind) (s : List ℕ) → Octets s
    → ((a : Answer) × (read k s ≡ accepted a))
    ↔ ((v : Value) × (t : Settings) × (in_range k v ≡ true) × (permitted t ≡ true) × (encode k t v ≡ accepted s))

-- What is read is that value, cut to what its form keeps.
abbrev pub ReadsWhatWasWritten : Type 0
ReadsWhatWasWritten =
    (k : Kind) (t : Settings) (v : Value) (s : List ℕ) → encode k t v ≡ accepted s
    → read k s ≡ accepted (said k (form_for k t v) (cut k (form_for k t v) v))

-- Cut, never rounded up: a text with d digits keeps multiples of 10^(6-d) microseconds, compact milliseconds, extended all. (At 24:00 a compact date-time is the
-- start of the next day.) `CutTo u m c`: c is m, cut down to a multiple of u.
abbrev pub CutTo : ℕ → ℕ → ℕ → Type 0
CutTo u m c = (c % u ≡ 0) × (c ≤ m) × (m < c + u)

abbrev pub NeverRoundedUp : Type 0
NeverRoundedUp =
    (k : Kind) (v : Value) → timed k ≡ true
    → ((d : ℕ) → d ≤ 6 → CutTo (10 ^ (6 - d)) v.micros (cut k (text d) v).micros)
    × (both (dated k) (eqb v.micros 86400000000) ≡ false → CutTo 1000 v.micros (cut k compact v).micros)
    × ((cut k extended v).micros ≡ v.micros)

-- Writing it again in the form and digits found gives the same octets: what was read is of that kind and in range, its image in that form are
-- these octets, and a writer gives them under the settings for that form.
abbrev pub WritesWhatWasRead : Type 0
WritesWhatWasRead =
    (k : Kind) (s : List ℕ) (a : Answer) → Octets s → read k s ≡ accepted a
    → (a.kind ≡ k)
    × (in_range k a.value ≡ true)
    × (image_in k a.form a.value ≡ s)
    × (form_for k (settings_for a.form) a.value ≡ a.form)
    × (encode k (settings_for a.form) a.value ≡ accepted s)

-- Where plain and zoned are both possible, what was written reads back as its own kind, but for one exception:
abbrev pub OwnKind : Type 0
OwnKind =
    (k : Kind) (t : Settings) (v : Value) (s : List ℕ) → encode k t v ≡ accepted s → excepted k (form_for k t v) v ≡ false
    → (read_either (family_of k) s ≡ read k s)
    × (read_either (family_of k) s ≡ accepted (said k (form_for k t v) (cut k (form_for k t v) v)))

-- (which it is, exactly: nothing else is left out of the claim above)
abbrev pub TheException : Type 0
TheException =
    (k : Kind) (v : Value)
    → ((d : ℕ) → excepted k (text d) v ≡ false)
    × (excepted k compact v ≡ both (both (zoned k) (timed k)) (eqb (nat_abs v.offset) 0))
    × (excepted k extended v ≡ false)

-- a compact time or date-time with offset zero reads as plain, with the local reading that its own reader gives.
abbrev pub CompactOffsetZero : Type 0
CompactOffsetZero =
    (k : Kind) (t : Settings) (v : Value) (s : List ℕ) → encode k t v ≡ accepted s
    → both (zoned k) (timed k) ≡ true → form_for k t v ≡ compact → nat_abs v.offset ≡ 0
    → (read k s ≡ accepted (said k compact (cut k compact v)))
    × (read_either (family_of k) s ≡ accepted (said (plain_of k) compact (cut k compact v)))

-- 02, request 1: "Demand 3 loses its second exception". A zoned text time or date-time without fraction reads back as its own kind, as its own reader
-- reads it.
abbrev pub TextWithoutFraction : Type 0
TextWithoutFraction =
    (k : Kind) (t : Settings) (v : Value) (s : List ℕ) → encode k t v ≡ accepted s
    → both (zoned k) (timed k) ≡ true → form_for k t v ≡ text 0
    → (read_either (family_of k) s ≡ read k s)
    × (read_either (family_of k) s ≡ accepted (said k (text 0) (cut k (text 0) v)))

-- What is written are octets, 1 to 32 of them.
abbrev pub Images : Type 0
Images =
    (k : Kind) (t : Settings) (v : Value) (s : List ℕ) → encode k t v ≡ accepted s → Octets s × (1 ≤ length s) × (length s ≤ 32)

-- Parts that the kind lacks are not looked at: with 0 in their place (`owned k v`) the same is written.
abbrev pub PartsLacked : Type 0
PartsLacked = (k : Kind) (t : Settings) (v : Value) → encode k t (owned k v) ≡ encode k t v
