-- The C boundary: kinds, forms and answers as numbers, and what its two calls promise. (The numbers are the header's.)
--
-- Kinds by their numbers are in `values/specs/Meaning.antt`: `kind_numbered n`, where no such kind is refusal 2, and `kind_number k`.
--
--   writing_as o t v     what writing comes to at a kind that was looked up: no such kind is refused after 1, digits above 6
--   writing n t v        what writing comes to at the kind with the number n
--   reading_as o s       what reading comes to at a kind that was looked up: no such kind is refused before the octets are looked at
--   reading_of n s       what reading comes to at the number n: also 6 Date or DateTz, 7 Time or TimeTz, 8 Datetime or DatetimeTz
--   form_number f        the number of a form: 0 text, 1 compact, 2 extended
--   form_digits f        a text's digits, 0 of the others
--   numbers_of k f d v   the eight numbers: kind, form's number, digits, year, month, day, microseconds, offset
--   parts_of a           those of an answer. What the kind lacks is 0: in what is read it is 0 already (`read_owned`, format/proofs/Kept)
--   parts_after o lent   the eight numbers after a call: the answer's, or as lent after a refusal
--   WritesNumbered       the promise of `stamp_write`, by the kind's number, settings and value: the number answered, *count and every octet
--   Hands o lent r left what is handed over of an outcome: the number answered and all eight parts
--   ReadsNumbered       the promise of `stamp_read`, by the number and the octets: the number answered and all eight parts
use Rattle.std.specs.Prelude.{ℕ, ◌≡◌, List, [], ◌∷◌, ℤ, pos, eqb}
use Rattle.format.specs.Words.{pick, Outcome, accepted, refused, unless}
use Rattle.format.specs.Values.{Kind, Date, DateTz, Time, TimeTz, Datetime, DatetimeTz, Value, Settings, digits_in_range, Form, text, compact, extended, Answer}
use Rattle.format.specs.Promises.{number_of}
use Rattle.format.specs.Writing.{encode}
use Rattle.format.specs.Reading.{read}
use Rattle.format.specs.EitherOr.{DateOrTz, TimeOrTz, DatetimeOrTz, read_either}
use Rattle.values.specs.Meaning.{kind_numbered, kind_number}
use Rattle.values.specs.Promise.{Left}

-- ---- writing

abbrev pub writing_as : Outcome Kind → Settings → Value → Outcome (List ℕ)
writing_as (accepted k) t v = encode k t v
writing_as (refused n) t v = unless (digits_in_range t.digits) 1 (refused n)

unfoldable pub writing : ℕ → Settings → Value → Outcome (List ℕ)
writing n t v = writing_as (kind_numbered n) t v

abbrev pub WritesNumbered : ℕ → Settings → Value → List ℕ → ℕ → ℕ → List ℕ → Type 0
WritesNumbered n t v lent r count left = Left (writing n t v) lent r count left

-- ---- reading

abbrev pub reading_as : Outcome Kind → List ℕ → Outcome Answer
reading_as (accepted k) s = read k s
reading_as (refused n) s = refused n

unfoldable pub reading_of : ℕ → List ℕ → Outcome Answer
reading_of n s =
    pick (eqb n 6) (read_either DateOrTz s)
    (pick (eqb n 7) (read_either TimeOrTz s)
    (pick (eqb n 8) (read_either DatetimeOrTz s)
    (reading_as (kind_numbered n) s)))

abbrev pub form_number : Form → ℕ
form_number (text d) = 0
form_number compact = 1
form_number extended = 2

abbrev pub form_digits : Form → ℕ
form_digits (text d) = d
form_digits compact = 0
form_digits extended = 0

unfoldable pub numbers_of : Kind → ℕ → ℕ → Value → List ℤ
numbers_of k form digits v =
    pos (kind_number k) ∷ pos form ∷ pos digits ∷ pos v.date.year ∷ pos v.date.month ∷ pos v.date.day ∷ pos v.micros ∷ v.offset ∷ []

abbrev pub parts_of : Answer → List ℤ
parts_of a = numbers_of a.kind (form_number a.form) (form_digits a.form) a.value

abbrev pub parts_after : Outcome Answer → List ℤ → List ℤ
parts_after (accepted a) lent = parts_of a
parts_after (refused n) lent = lent

-- the number answered and the parts left
pub record Hands (o : Outcome Answer) (lent : List ℤ) (r : ℕ) (left : List ℤ) : Type 0 where
  pub number : r ≡ number_of o
  pub parts : left ≡ parts_after o lent

abbrev pub ReadsNumbered : ℕ → List ℕ → List ℤ → ℕ → List ℤ → Type 0
ReadsNumbered n s lent r left = Hands (reading_of n s) lent r left
