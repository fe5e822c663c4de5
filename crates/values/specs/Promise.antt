-- What writers and readers promise, for all kinds. (01, Refusal numbers; What the promises have to say.)
--
--   Left o lent n k left    a call with the number n and the count k leaves the buffer so: o is what writing comes to (`encode`),
--                           `lent` the buffer as it was lent, `left` as it was left
--   Writes o lent r left    the promise of a writer that answers r
--   Reads o r               the promise of a reader that answers r: what reading comes to (`read_either`), and nothing else
--   ReadsAs k value o r     the same of the reader of one kind, k, whose values mean what `value` says (`read`)
--   Parses k o r            the same of a form's reader, of the kind k, which answers all parts
--   Locates o r             the same of a reader that makes no date: the local reading and the offset of it
use Rattle.std.specs.Prelude.{ℕ, ◌≡◌, List, length, Result}
use Rattle.format.specs.Words.{Outcome}
use Rattle.format.specs.Values as format
use Rattle.format.specs.Buffer.{counts, leaves}
use Rattle.format.specs.Promises.{number_of, count_of}
use Rattle.values.specs.declared.kinds.Value.{Value}
use Rattle.values.specs.declared.answers.Answer.{Answer}
use Rattle.values.specs.declared.answers.Decoded.{Decoded}
use Rattle.values.specs.declared.answers.Located.{Located}
use Rattle.values.specs.declared.refusal.Refusal.{Refusal}
use Rattle.values.specs.Meaning.{value_from}
use Rattle.values.specs.Answers.{written_number, written_count, outcome, answered, decoded, local_found, local_in}

-- the number, the count and every octet of the buffer
pub record Left (o : Outcome (List ℕ)) (lent : List ℕ) (n k : ℕ) (left : List ℕ) : Type 0 where
  pub number : n ≡ number_of (counts o (length lent))
  pub count : k ≡ count_of (counts o (length lent))
  pub buffer : left ≡ leaves o lent

abbrev pub Writes : Outcome (List ℕ) → List ℕ → Result ℕ Refusal → List ℕ → Type 0
Writes o lent r left = Left o lent (written_number r) (written_count r) left

abbrev pub Reads : Outcome format.Answer → Result Decoded Refusal → Type 0
Reads o r = outcome decoded r ≡ o

-- the same of one kind
abbrev pub ReadsAs : {T : Type 0} → format.Kind → (T → format.Value) → Outcome format.Answer → Result (Answer T) Refusal → Type 0
ReadsAs k value o r = outcome (answered k value) r ≡ o

-- the same of a form's reader
abbrev pub Parses : format.Kind → Outcome format.Answer → Result (Answer Value) Refusal → Type 0
Parses k o r = ReadsAs k value_from o r

-- the same of a reader that makes no date
abbrev pub Locates : Outcome format.Answer → Result Located Refusal → Type 0
Locates o r = outcome local_found r ≡ local_in o
