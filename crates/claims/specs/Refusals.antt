-- What is claimed of the refusals. The first demand: "Bad input gets the first refusal that applies; then no value comes back, the count is zero,
-- the lent buffer is unchanged." Here: which refusal it is; that none applies where a call is accepted; that none of the eight numbers is dead; and
-- that what is refused has no value. What the code leaves is claimed with the promises.
use Rattle.std.specs.Prelude.{ℕ, ◌≤◌, ◌≡◌, true, false, List, [], ◌∷◌, pos, leb, eqb, length}
use Rattle.format.specs.Words.{Outcome, accepted, refused}
use Rattle.format.specs.Octets.{Octets, signed_of, fewest_octets, tight}
use Rattle.format.specs.Values.{Kind, DateTz, Datetime, Value, in_range, Settings, text, Answer}
use Rattle.format.specs.Choice.{form_for}
use Rattle.format.specs.Writing.{image_in, has_form, encode}
use Rattle.format.specs.Buffer.{counts}
use Rattle.format.specs.Reading.{read}
use Rattle.format.specs.EitherOr.{Family, read_either}
use Rattle.format.specs.Bench.{ascii, old, of}
use Rattle.claims.specs.Claims.{said}

-- A writer: 1, digits above 6; else 2, out of range; else 3, the chosen form is not had; else it is accepted, with the image in that form; and then 4
-- exactly where the buffer is shorter than the image.
abbrev pub FirstThatApplies : Type 0
FirstThatApplies =
    (k : Kind) (t : Settings) (v : Value)
    → (leb t.digits 6 ≡ false → encode k t v ≡ refused 1)
    × (leb t.digits 6 ≡ true → in_range k v ≡ false → encode k t v ≡ refused 2)
    × (leb t.digits 6 ≡ true → in_range k v ≡ true → has_form k (form_for k t v) v ≡ false → encode k t v ≡ refused 3)
    × (leb t.digits 6 ≡ true → in_range k v ≡ true → has_form k (form_for k t v) v ≡ true → encode k t v ≡ accepted (image_in k (form_for k t v) v))

abbrev pub BufferLast : Type 0
BufferLast =
    (xs : List ℕ) (room : ℕ)
    → (leb (length xs) room ≡ false → counts (accepted xs) room ≡ refused 4)
    × (leb (length xs) room ≡ true → counts (accepted xs) room ≡ accepted (length xs))

-- A reader: zero octets are always 5. (That its refusal is the first that applies is claimed in `ReaderRefusals.antt`.)
abbrev pub ZeroOctets : Type 0
ZeroOctets = ((k : Kind) → read k [] ≡ refused 5) × ((f : Family) → read_either f [] ≡ refused 5)

-- A BER integer 'longer than fewest' is one with a redundant sign octet in X.690's own words.
abbrev pub TightIsFewest : Type 0
TightIsFewest = (s : List ℕ) → Octets s → tight s ≡ eqb (length s) (fewest_octets (signed_of s))

-- A writer refuses with 1, 2 or 3, and 4 is the buffer's; a reader with 5, 6, 7 or 8.
abbrev pub RefusalNumbers : Type 0
RefusalNumbers =
    ((k : Kind) (t : Settings) (v : Value) (n : ℕ) → encode k t v ≡ refused n → (1 ≤ n) × (n ≤ 3))
    × ((k : Kind) (s : List ℕ) (n : ℕ) → read k s ≡ refused n → (5 ≤ n) × (n ≤ 8))
    × ((f : Family) (s : List ℕ) (n : ℕ) → read_either f s ≡ refused n → (5 ≤ n) × (n ≤ 8))

-- What a reader refuses is the image of nothing.
abbrev pub RefusedHasNoValue : Type 0
RefusedHasNoValue =
    (k : Kind) (s : List ℕ) (n : ℕ) → read k s ≡ refused n → (t : Settings) (v : Value) → encode k t v ≡ accepted s → ⊥

-- Each refusal is met, the first that applies: a row has one fault fewer than the row above it.
abbrev pub seven : Settings
seven = record { binary = true; version = 0; digits = 7 }

-- case O of the bench, with a month 13 and digits 7; a buffer of no octets
unfoldable pub writes : List (Outcome ℕ)
writes =
    counts (encode Datetime seven (of 6479 13 17 9955328000 (pos 0))) 0
    ∷ counts (encode Datetime old (of 6479 13 17 9955328000 (pos 0))) 0
    ∷ counts (encode Datetime old (of 6479 10 17 9955328000 (pos 0))) 0
    ∷ counts (encode Datetime old (of 6479 10 17 9955327000 (pos 0))) 0
    ∷ counts (encode Datetime old (of 6479 10 17 9955327000 (pos 0))) 6
    ∷ []

unfoldable pub writes_come : List (Outcome ℕ)
writes_come = refused 1 ∷ refused 2 ∷ refused 3 ∷ refused 4 ∷ accepted 6 ∷ []

unfoldable pub reads : List (Outcome Answer)
reads =
    read DateTz (ascii "x020-13-01-00:000")
    ∷ read DateTz (ascii "x020-13-01-00:00")
    ∷ read DateTz (ascii "2020-13-01-00:00")
    ∷ read DateTz (ascii "2020-13-01+00:00")
    ∷ read DateTz (ascii "2020-12-01+00:00")
    ∷ []

unfoldable pub reads_come : List (Outcome Answer)
reads_come = refused 5 ∷ refused 6 ∷ refused 7 ∷ refused 8 ∷ accepted (said DateTz (text 0) (of 2020 12 1 0 (pos 0))) ∷ []

abbrev pub EachRefusal : Type 0
EachRefusal = (writes ≡ writes_come) × (reads ≡ reads_come)
