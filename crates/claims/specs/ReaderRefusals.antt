-- What is claimed of a reader's refusal: that it is the first that applies. (01, Refusal numbers: "readers 5, 6, 7, 8, each over the whole input
-- before the next. Where none applies, the call is accepted.")
--
-- The form comes first: `form_in k s` is `compact`, `extended`, or `text d` with d fraction digits (`ChosenForm` says which). Then there are four questions
-- about the kind k, that form f and the whole of s. Each stands by itself; the claims give their order:
--
--   length_fits k f s         is the length one that this form of this kind can have?    if not, 5
--   octets_fit k f s          may each octet stand where it stands?                      if not, 6
--   nothing_redundant k f s   is nothing there that a writer leaves out?                 if not, 7
--   all_in_range k f s        is each number that stands there in its range?             if not, 8
--   value_said k f s          the value that stands there: the answer where all four are answered with yes
--
-- What they are made of, for any form and for a text:
--
--   between a b n          n is from a to b; `signed_between a b x`: x is from -a to b
--   same s t               s and t are the same octets
--   layout k d             a row of fields, `yyyy-mm-ddThh:mm:ss.ffffff+hh:mm` without what the kind lacks, with d digits behind the point, and no point for 0
--   fit (layout k d) s 0   digits stand where the row has digits, `+` or `-` where it has the sign, its separators where they belong
--   numbers_in k d s       the numbers in that row, by their names; 0 for a field that is not there
--   is_day (day_named n)   there is such a day, in a year from 1 to 9999
--   text_value d n         the value that these numbers say
--
-- for compact:
--
--   with_offset k n       n octets of this kind begin with an offset, which takes two; `offset_part k s` are these (none where there is none),
--                         `number_part k s` those behind them, the number's
--   signed_of s           octets as a number in two's complement
--   padded_to k w         the fewest octets that the number is written in: behind an offset (w) 2 for days, 3 for milliseconds, 5 for T; else 1
--   tight s               no octet only repeats the sign: the bits of the first octet and the first of the second are not all alike (X.690 8.3.2)
--   counted (start k) x   the days or milliseconds since 0001-01-01, where x counts from 2020-01-01; of a time x itself
--   compact_value k n x   the value of n of them and an offset x
--
-- and for extended:
--
--   twelve_bits s            the header's bits behind the first four; `offset_from` is their number in two's complement
--   day_field k s            the day number, in 3 octets, and 0 where the kind has no date
--   micros_field k s         the microseconds of the day, in 5 octets
--   extended_value k ..      the value of these three
use Rattle.std.specs.Prelude.{ℕ, ◌+◌, ◌-◌, ◌%◌, ◌≡◌, Bool, true, false, not, List, [], ◌∷◌, ℤ, pos, negsuc, nat_abs, leb, ltb, eqb, length, take, drop}
use Rattle.format.specs.Words.{pick, both, either, needs, if_any, Outcome, accepted, refused}
use Rattle.format.specs.Octets.{Octets, unsigned_at, signed_of, tight}
use Rattle.format.specs.Calendar.{is_day}
use Rattle.format.specs.Values.{Kind, Date, DateTz, Time, TimeTz, Datetime, DatetimeTz, dated, timed, zoned, Value, Form, text, compact, extended, Answer}
use Rattle.format.specs.Fields.{fit, says}
use Rattle.format.specs.Text.{layout, text_length}
use Rattle.format.specs.TextReading.{Numbers, named, day_named, text_value}
use Rattle.format.specs.Compact.{start, padded_to}
use Rattle.format.specs.CompactReading.{counted, compact_value}
use Rattle.format.specs.Extended.{day_width, offset_from, extended_value}
use Rattle.format.specs.Reading.{first_bits, form_in, read}
use Rattle.format.specs.EitherOr.{Family, kind_in, read_either}
use Rattle.claims.specs.Claims.{said}

abbrev pub between : ℕ → ℕ → ℕ → Bool
between a b n = both (leb a n) (leb n b)

abbrev pub signed_between : ℕ → ℕ → ℤ → Bool
signed_between a b (pos n) = leb n b
signed_between a b (negsuc n) = ltb n a

abbrev pub same : List ℕ → List ℕ → Bool
same [] [] = true
same [] (y ∷ t) = false
same (x ∷ s) [] = false
same (x ∷ s) (y ∷ t) = both (eqb x y) (same s t)

-- `-00:00`
abbrev pub minus_zero_text : List ℕ
minus_zero_text = 45 ∷ 48 ∷ 48 ∷ 58 ∷ 48 ∷ 48 ∷ []

-- ---- what stands in the octets

abbrev pub numbers_in : Kind → ℕ → List ℕ → Numbers
numbers_in k d s = named (says (layout k d) s 0)

-- 01, Compact: a DateTz always; "TimeTz has an offset exactly at lengths 5 and 6, DatetimeTz exactly at 7 to 9"
abbrev pub with_offset : Kind → ℕ → Bool
with_offset Date n = false
with_offset DateTz n = true
with_offset Time n = false
with_offset TimeTz n = leb 5 n
with_offset Datetime n = false
with_offset DatetimeTz n = leb 7 n

abbrev pub offset_part : Kind → List ℕ → List ℕ
offset_part k s = take (if_any (with_offset k (length s)) 2) s

abbrev pub number_part : Kind → List ℕ → List ℕ
number_part k s = drop (if_any (with_offset k (length s)) 2) s

abbrev pub twelve_bits : List ℕ → ℕ
twelve_bits s = unsigned_at s 0 2 % 4096

abbrev pub day_field : Kind → List ℕ → ℕ
day_field k s = unsigned_at s 2 (day_width k)

abbrev pub micros_field : Kind → List ℕ → ℕ
micros_field k s = unsigned_at s (2 + day_width k) 5

-- ---- the four questions

-- 01, Text: Lengths
abbrev pub text_length_fits : Kind → ℕ → Bool
text_length_fits Date n = eqb n 10
text_length_fits DateTz n = eqb n 16
text_length_fits Time n = either (eqb n 8) (between 10 15 n)
text_length_fits TimeTz n = either (eqb n 14) (between 16 21 n)
text_length_fits Datetime n = either (eqb n 19) (between 21 26 n)
text_length_fits DatetimeTz n = either (eqb n 25) (between 27 32 n)

-- 01, How a reader chooses: the column Compact; a DateTz below 4 is refusal 5, and zero octets always
abbrev pub compact_length_fits : Kind → ℕ → Bool
compact_length_fits Date n = between 1 3 n
compact_length_fits DateTz n = between 4 5 n
compact_length_fits Time n = between 1 4 n
compact_length_fits TimeTz n = between 1 6 n
compact_length_fits Datetime n = between 1 6 n
compact_length_fits DatetimeTz n = between 1 9 n

-- and up to how many the form is compact, whether or not they fit it
abbrev pub compact_up_to : Kind → ℕ
compact_up_to Date = 3
compact_up_to DateTz = 5
compact_up_to Time = 4
compact_up_to TimeTz = 6
compact_up_to Datetime = 6
compact_up_to DatetimeTz = 9

-- 01, Extended: Time and TimeTz are 7 octets, Datetime and DatetimeTz 10; it is never chosen for the other two
abbrev pub length_fits : Kind → Form → List ℕ → Bool
length_fits k (text d) s = text_length_fits k (length s)
length_fits k compact s = compact_length_fits k (length s)
length_fits k extended s = eqb (length s) (pick (dated k) 10 7)

-- "text: a digit, sign or separator is wrong; extended plain: the twelve bits aren't zero". Of compact nothing is asked.
abbrev pub octets_fit : Kind → Form → List ℕ → Bool
octets_fit k (text d) s = fit (layout k d) s 0
octets_fit k compact s = true
octets_fit k extended s = either (zoned k) (eqb (twelve_bits s) 0)

-- "a BER integer longer than fewest_or_padded; offset zero in TimeTz of 5 or 6, DatetimeTz of 7 to 9; text offset `-00:00`", the last six octets. Of
-- extended nothing is asked: its offset may be zero.
abbrev pub nothing_redundant : Kind → Form → List ℕ → Bool
nothing_redundant k (text d) s = needs (zoned k) (not (same (drop (length s - 6) s) minus_zero_text))
nothing_redundant k compact s =
    let w = with_offset k (length s) in
    both (either (leb (length (number_part k s)) (padded_to k w)) (tight (number_part k s)))
    (needs (both w (timed k)) (not (eqb (nat_abs (signed_of (offset_part k s))) 0)))
nothing_redundant k extended s = true

-- 01, Compact: days, milliseconds, and T, which begins at 0001-01-01T00:00 and whose limit is greater behind an offset (w)
abbrev pub number_fits : Kind → Bool → ℤ → Bool
number_fits Date w x = signed_between 737424 2914634 x
number_fits DateTz w x = signed_between 737424 2914634 x
number_fits Time w x = signed_between 0 86400000 x
number_fits TimeTz w x = signed_between 0 86400000 x
number_fits Datetime w x = signed_between 63713433600000 140737488355327 x
number_fits DatetimeTz w x = signed_between 63713433600000 (pick w 251824463999999 140737488355327) x

-- "hour above 24 or 24 with anything after it, minute or second above 59"
abbrev pub clock_fits : Numbers → Bool
clock_fits n =
    both (leb n.hour 24) (both (leb n.minute 59) (both (leb n.second 59)
    (needs (eqb n.hour 24) (both (eqb n.minute 0) (both (eqb n.second 0) (eqb n.fraction 0))))))

-- "binary offset beyond 1,439 minutes"
abbrev pub offset_fits : ℤ → Bool
offset_fits x = leb (nat_abs x) 1439

-- "a field read is out of range: no such day, year 0000, .. text offset hour above 23 or minute above 59; .. any other compact or extended number outside
-- the value's range"
abbrev pub all_in_range : Kind → Form → List ℕ → Bool
all_in_range k (text d) s =
    let n = numbers_in k d s in
    both (needs (dated k) (is_day (day_named n))) (both (clock_fits n) (both (leb n.hours 23) (leb n.minutes 59)))
all_in_range k compact s =
    both (offset_fits (signed_of (offset_part k s))) (number_fits k (with_offset k (length s)) (signed_of (number_part k s)))
all_in_range k extended s =
    both (offset_fits (offset_from (twelve_bits s))) (both (leb (day_field k s) 3652058) (leb (micros_field k s) 86400000000))

abbrev pub value_said : Kind → Form → List ℕ → Value
value_said k (text d) s = text_value d (numbers_in k d s)
value_said k compact s = compact_value k (counted (start k) (signed_of (number_part k s))) (signed_of (offset_part k s))
value_said k extended s = extended_value k (twelve_bits s) (day_field k s) (micros_field k s)

-- ---- the claims

-- How a reader chooses: up to so many octets (`compact_up_to k`) compact; longer, with the first four bits 1001 (9) of a zoned kind or 1000 (8) of
-- a plain one, extended, which Date and DateTz have not; others text. Where the length is a text's, it is that of d digits (`text_length k d`, see `TheLengths`).
abbrev pub ChosenForm : Type 0
ChosenForm =
    (k : Kind) (s : List ℕ)
    → (let bits = both (timed k) (eqb (first_bits s) (pick (zoned k) 9 8)) in
    (leb (length s) (compact_up_to k) ≡ true → form_in k s ≡ compact)
    × (leb (length s) (compact_up_to k) ≡ false → bits ≡ true → form_in k s ≡ extended)
    × (leb (length s) (compact_up_to k) ≡ false → bits ≡ false
    → (d : ℕ) × (form_in k s ≡ text d) × (text_length_fits k (length s) ≡ true → text_length k d ≡ length s)))

-- o is the first refusal that applies to s as a k in the form f; or, where none does, the value that stands there, under that kind and form
abbrev pub FirstOf : Kind → Form → List ℕ → Outcome Answer → Type 0
FirstOf k f s o =
    (length_fits k f s ≡ false → o ≡ refused 5)
    × (length_fits k f s ≡ true → octets_fit k f s ≡ false → o ≡ refused 6)
    × (length_fits k f s ≡ true → octets_fit k f s ≡ true → nothing_redundant k f s ≡ false → o ≡ refused 7)
    × (length_fits k f s ≡ true → octets_fit k f s ≡ true → nothing_redundant k f s ≡ true → all_in_range k f s ≡ false → o ≡ refused 8)
    × (length_fits k f s ≡ true → octets_fit k f s ≡ true → nothing_redundant k f s ≡ true → all_in_range k f s ≡ true → o ≡ accepted (said k f (value_said k f s)))

-- The reader of a kind answers by the form that is chosen,
abbrev pub ReaderFirstThatApplies : Type 0
ReaderFirstThatApplies = (k : Kind) (s : List ℕ) → Octets s → FirstOf k (form_in k s) s (read k s)

-- and an either-or reader as the reader of the kind that is chosen (`kind_in e s`, see `ChosenKind`). That zero octets are always 5 is in these
-- lengths, and `ZeroOctets` says it outright.
abbrev pub EitherFirstThatApplies : Type 0
EitherFirstThatApplies =
    (e : Family) (s : List ℕ) → Octets s
    → (let k = kind_in e s in (read_either e s ≡ read k s) × FirstOf k (form_in k s) s (read_either e s))

-- Refusals that a form does not know: compact 6; extended 7, and 6 of a zoned kind; text 7 of a plain kind.
abbrev pub NeverRefusedWith : Type 0
NeverRefusedWith =
    (k : Kind) (s : List ℕ) → Octets s
    → (form_in k s ≡ compact → read k s ≡ refused 6 → ⊥)
    × (form_in k s ≡ extended → read k s ≡ refused 7 → ⊥)
    × (form_in k s ≡ extended → zoned k ≡ true → read k s ≡ refused 6 → ⊥)
    × ((d : ℕ) → form_in k s ≡ text d → zoned k ≡ false → read k s ≡ refused 7 → ⊥)
