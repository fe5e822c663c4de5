-- The form that is chosen, in reading and in writing, and what the choice tells. Assumes nothing.
use mathlib.Core.Path.{◌≡◌, refl}
use mathlib.Core.Bool.{Bool, true, false}
use mathlib.Core.List.{List}
use Prim.Native.Nat.{ℕ, ◌<◌, ◌≤◌}
use native.Mathlib.Omega.{arith}
use lib.Dec.{eqb}
use lib.ListN.{length}
use borrow.Author.Tests.{le-leb, lt-leb, leb-true}
use Rattle.format.specs.Words.{both, if_any, refused}
use Rattle.format.specs.Values.{Kind, timed, Value, Settings, most_digits, digits_in_range, Form, text, compact, extended}
use Rattle.format.specs.Choice.{form_for, kind_has}
use Rattle.format.specs.Writing.{encode_in, encode}
use Rattle.format.specs.TextReading.{digits_found}
use Rattle.format.specs.CompactReading.{longest}
use Rattle.format.specs.Extended.{head_bits}
use Rattle.format.specs.Reading.{first_bits, form_in, read_as, read}
use Rattle.format.proofs.Cases.{at_most}
use Rattle.format.proofs.Choosing.{chosen_has}

-- ---- reading

module _ (k : Kind) (s : List ℕ) where
  pub as_compact : length s ≤ longest k → read k s ≡ read_as k compact s
  unfolding read form_in
  as_compact h = rw (le-leb (length s) (longest k) h)

  pub as_extended : longest k < length s → both (timed k) (eqb (first_bits s) (head_bits k)) ≡ true → read k s ≡ read_as k extended s
  unfolding read form_in
  as_extended h e = rw (lt-leb (length s) (longest k) h, e)

  pub as_text : longest k < length s → both (timed k) (eqb (first_bits s) (head_bits k)) ≡ false → read k s ≡ read_as k (text (digits_found k (length s))) s
  unfolding read form_in
  as_text h e = rw (lt-leb (length s) (longest k) h, e)

-- what the search looks at in `parse`
pub ruleset found = (as_compact, as_extended, as_text)

-- ---- writing: the digits come first, whatever the kind and the form

module _ (k : Kind) (t : Settings) (v : Value) where
  pub too_many : digits_in_range t.digits ≡ false → encode k t v ≡ refused 1
  unfolding encode
  too_many e = rw e

  pub in_form : digits_in_range t.digits ≡ true → (f : Form) → f ≡ form_for k t v → encode k t v ≡ encode_in k f v
  unfolding encode
  in_form e f c = rw (e, c)

-- ---- writing: a chosen form is one that the kind has

module _ (k : Kind) (t : Settings) (v : Value) (l : digits_in_range t.digits ≡ true) where
  has : (f : Form) → f ≡ form_for k t v → kind_has k f ≡ true
  has f c = rw (← c) at (chosen_has k t v (leb-true t.digits 6 l))

  pub chosen_digits : (d : ℕ) → text d ≡ form_for k t v → d ≤ 6
  unfolding kind_has
  chosen_digits d c = at_most (timed k) d (leb-true _ _ (has (text d) c))

  pub timed_text : (d : ℕ) → text d ≡ form_for k t v → text (if_any (timed k) d) ≡ form_for k t v
  unfolding kind_has
  timed_text d c = rw (same (timed k) (leb-true _ _ (has (text d) c))) c
    where
      same : (b : Bool) → d ≤ if_any b most_digits → if_any b d ≡ d
      same true h = refl
      same false h = omega arith

  pub chosen_timed : extended ≡ form_for k t v → timed k ≡ true
  unfolding kind_has
  chosen_timed c = has extended c

-- what the search looks at in `write`
pub ruleset written = (too_many, in_form, chosen_digits, timed_text, chosen_timed)
