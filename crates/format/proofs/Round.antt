-- There and back, for every kind and form: an image reads as what its form keeps, and what reads is the image of what was read.
-- Assumes nothing.
use mathlib.Core.Path.{◌≡◌, refl, sym, ◌∙◌, ap}
use mathlib.Core.Bool.{Bool, true, false}
use mathlib.Core.List.{List}
use Prim.Native.Nat.{ℕ, ◌≤◌}
use native.Mathlib.Omega.{arith}
use lib.Dec.{leb, eqb}
use lib.ListN.{length}
use borrow.Author.Tests.{le-leb, leb-true, eqb-true}
use Rattle.format.specs.Words.{pick, both, if_any, Outcome, accepted, refused}
use Rattle.format.specs.Octets.{Octets}
use Rattle.format.specs.Values.{Kind, timed, Value, in_range, Settings, Form, text, compact, extended, Answer}
use Rattle.format.specs.Choice.{form_for, kind_has, settings_for}
use Rattle.format.specs.TextReading.{digits_found, read_fields, read_text}
use Rattle.format.specs.CompactReading.{longest, read_compact}
use Rattle.format.specs.Extended.{head_bits, read_extended}
use Rattle.format.specs.Writing.{image_in, has_form, encode}
use Rattle.format.specs.Reading.{first_bits, form_in, read_in, answer, read}
use Rattle.format.specs.Keeping.{cut}
use Rattle.format.proofs.Cases.{both_true, passed, same, at_most}
use Rattle.format.proofs.Text.{in_range_lem, text_reads, text_from}
use Rattle.format.proofs.Compact.{compact_reads, compact_from}
use Rattle.format.proofs.Extended.{extended_reads, extended_from_lem}
use Rattle.format.proofs.Choosing.{form_found, found_fits, found_has, chosen_has, settings_for_lem}

abbrev pub answered : Kind → Form → Value → Answer
answered k f v = record { kind = k; form = f; value = v }

-- ---- written, read

in_form : (k : Kind) (f : Form) (v : Value) → in_range k v ≡ true → kind_has k f ≡ true → has_form k f v ≡ true → read_in k f (image_in k f v) ≡ accepted (cut k f v)
unfolding read_in read_text image_in kind_has has_form
in_form k (text d) v r h g = let l = at_most (timed k) d (leb-true _ _ h) in rw (le-leb d 6 l) (text_reads k d v r l)
in_form k compact v r h g = compact_reads k v (in_range_lem k v r) g
in_form k extended v r h g = extended_reads k v h (in_range_lem k v r)

pub image_reads : (k : Kind) (f : Form) (v : Value) → in_range k v ≡ true → kind_has k f ≡ true → has_form k f v ≡ true
    → read k (image_in k f v) ≡ accepted (answered k f (cut k f v))
unfolding read
image_reads k f v r h g = rw (form_found k f v r h g, in_form k f v r h g)

-- what a write comes to
pub record Written (k : Kind) (s : Settings) (v : Value) (xs : List ℕ) : Type 0 where
  pub digits : s.digits ≤ 6
  pub range : in_range k v ≡ true
  pub has : has_form k (form_for k s v) v ≡ true
  pub image : image_in k (form_for k s v) v ≡ xs

pub written : (k : Kind) (s : Settings) (v : Value) (xs : List ℕ) → encode k s v ≡ accepted xs → Written k s v xs
unfolding encode
written k s v xs e =
    let a = passed (leb s.digits 6) 1 _ xs e in
    let b = passed (in_range k v) 2 _ xs a.1 in
    let c = passed (has_form k (form_for k s v) v) 3 _ xs b.1 in
    record { digits = leb-true _ _ a.0; range = b.0; has = c.0; image = same c.1 }

pub write : (k : Kind) (s : Settings) (v : Value) → s.digits ≤ 6 → in_range k v ≡ true → has_form k (form_for k s v) v ≡ true → encode k s v ≡ accepted (image_in k (form_for k s v) v)
unfolding encode
write k s v d r h = rw (le-leb s.digits 6 d, r, h)

pub written_reads : (k : Kind) (s : Settings) (v : Value) (xs : List ℕ) → encode k s v ≡ accepted xs
    → read k xs ≡ accepted (answered k (form_for k s v) (cut k (form_for k s v) v))
written_reads k s v xs e =
    let w = written k s v xs e in
    rw (← w.image) (image_reads k (form_for k s v) v w.range (chosen_has k s v w.digits) w.has)

-- ---- read, written

pub record From (k : Kind) (xs : List ℕ) (f : Form) (v : Value) : Type 0 where
  pub kind : kind_has k f ≡ true
  pub range : in_range k v ≡ true
  pub has : has_form k f v ≡ true
  pub image : image_in k f v ≡ xs

-- the form that was chosen, with what the choice tells
from_text : (k : Kind) (xs : List ℕ) (v : Value) → read_text k (digits_found k (length xs)) xs ≡ accepted v → From k xs (text (digits_found k (length xs))) v
unfolding read_text kind_has has_form image_in
from_text k xs v e =
    let d = digits_found k (length xs) in
    let a = passed (leb d 6) 5 (read_fields k d xs) v e in
    let h : d ≤ 6 = leb-true _ _ a.0 in
    let t = text_from k d xs v h (sym (found_fits k (length xs) h)) a.1 in
    record { kind = le-leb d (if_any (timed k) 6) (found_has k (length xs) h); range = t.range; has = refl; image = t.image }

from_compact : (k : Kind) (xs : List ℕ) (v : Value) → Octets xs → read_compact k xs ≡ accepted v → From k xs compact v
unfolding kind_has has_form image_in
from_compact k xs v o e = let t = compact_from k xs v o e in record { kind = refl; range = t.range; has = t.has; image = t.image }

from_extended : (k : Kind) (xs : List ℕ) (v : Value) → Octets xs → both (timed k) (eqb (first_bits xs) (head_bits k)) ≡ true → read_extended k xs ≡ accepted v → From k xs extended v
unfolding kind_has has_form image_in first_bits
from_extended k xs v o c e =
    let b = both_true (timed k) _ c in
    let t = extended_from_lem k xs o b.0 (eqb-true _ _ b.1) v e in
    record { kind = b.0; range = t.range; has = refl; image = t.image }

from_in : (k : Kind) (xs : List ℕ) (v : Value) → Octets xs → read_in k (form_in k xs) xs ≡ accepted v → From k xs (form_in k xs) v
unfolding form_in read_in
from_in k xs v o = go (leb (length xs) (longest k)) (both (timed k) (eqb (first_bits xs) (head_bits k))) refl
  where
    go : (a b : Bool) → both (timed k) (eqb (first_bits xs) (head_bits k)) ≡ b
        → read_in k (pick a compact (pick b extended (text (digits_found k (length xs))))) xs ≡ accepted v → From k xs (pick a compact (pick b extended (text (digits_found k (length xs))))) v
    go true b q e = from_compact k xs v o e
    go false true q e = from_extended k xs v o q e
    go false false q e = from_text k xs v e

-- an accepted answer has an accepted value
opened : (k : Kind) (f : Form) (r : Outcome Value) (a : Answer) → answer k f r ≡ accepted a → (r ≡ accepted a.value) × (a ≡ answered k f a.value)
opened k f (accepted v) a e = let q : answered k f v ≡ a = same e in (ap (λ (x : Answer). accepted x.value) q, back q)
  where
    back : answered k f v ≡ a → a ≡ answered k f a.value
    back q = rw (← q)
opened k f (refused n) a e = absurd (let z : ◌≡◌ {A = ℕ} 0 1 = cc in omega arith)

pub record Read (k : Kind) (xs : List ℕ) (a : Answer) : Type 0 where
  pub answer : a ≡ answered k a.form a.value
  pub from : From k xs a.form a.value

pub was_read : (k : Kind) (xs : List ℕ) (a : Answer) → Octets xs → read k xs ≡ accepted a → Read k xs a
unfolding read
was_read k xs a o e =
    let q = opened k (form_in k xs) (read_in k (form_in k xs) xs) a e in
    let f : a.form ≡ form_in k xs = ap (λ (x : Answer). x.form) q.1 in
    record { answer = q.1 ∙ ap (λ (g : Form). answered k g a.value) (sym f); from = rw f (from_in k xs a.value o q.0) }

pub read_writes : (k : Kind) (xs : List ℕ) (a : Answer) → Octets xs → read k xs ≡ accepted a → encode k (settings_for a.form) a.value ≡ accepted xs
read_writes k xs a o e =
    let r = (was_read k xs a o e).from in
    let s = settings_for_lem k a.form a.value r.kind in
    write k (settings_for a.form) a.value s.0 r.range (rw s.1 r.has) ∙ rw (s.1, r.image)
