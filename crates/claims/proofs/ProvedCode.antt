-- The claims over the promises, each from the law that holds for every kind. Assumes nothing.
use Prim.Native.Nat.{ℕ, suc, ◌≤◌}
use native.Mathlib.Omega.{arith}
use mathlib.Core.Path.{◌≡◌, refl, sym, ◌∙◌}
use mathlib.Core.Logic.{⊎_elim}
use mathlib.Core.Bool.{Bool, true, false}
use mathlib.Core.List.{List, ◌++◌}
use lib.Dec.{leb}
use lib.ListN.{length, take, drop}
use lib.Seq.{take_at}
use borrow.Author.Tests.{le-leb, lt-leb, leb-true}
use Rattle.format.specs.Words.{Outcome, accepted, refused, unless}
use Rattle.format.specs.Octets.{Octets}
use Rattle.format.specs.Values as format
use Rattle.format.specs.Choice.{form_for, settings_for}
use Rattle.format.specs.Writing.{image_in, has_form, encode}
use Rattle.format.specs.Buffer.{counts}
use Rattle.format.specs.Promises.{number_of}
use Rattle.format.specs.Reading.{read}
use Rattle.format.specs.EitherOr.{read_either, family_of}
use Rattle.format.proofs.Cases.{cases}
use Rattle.format.proofs.Round.{written_reads, read_writes}
use Rattle.values.specs.declared.refusal.Refusal.{Refusal}
use Rattle.values.specs.declared.settings.Settings.{Settings}
use Rattle.std.specs.Prelude.{Result, Ok, Err}
use Rattle.values.specs.declared.answers.Decoded.{Decoded}
use Rattle.values.specs.Meaning.{refusal_number, settings_from}
use Rattle.values.specs.Answers.{written_number, written_count}
use Rattle.values.specs.Promise.{Writes, Reads}
use Rattle.values.proofs.OneAnswer.{one_writing}
use Rattle.claims.proofs.Proved.{own_kinds}
use Rattle.claims.specs.CodeClaims.{RefusedNothingHappens, AnsweredToC, AcceptedOtherwise, kept, ReadsBack, OwnReaderReadsBack, NotExcepted, EitherReaderReadsBack, WritesAgain, OwnWriterWritesAgain}

zero_one : {A : Type 0} (n : ℕ) → suc n ≡ 0 → A
zero_one n e = absurd (omega arith)

-- ---- refused

pub refused_nothing_happens : RefusedNothingHappens
refused_nothing_happens = (writer, reader)
  where
    writer : (o : Outcome (List ℕ)) (lent left : List ℕ) (r : Result ℕ Refusal) → Writes o lent r left → (written_number r ≡ 0 → ⊥) → (written_count r ≡ 0) × (left ≡ lent)
    writer (refused n) lent left r p z = (p.count, p.buffer)
    writer (accepted xs) lent left r p z =
        ⊎_elim (λ e. absurd (z (rw e at p.number))) (λ e. (rw e at p.count, rw e at p.buffer)) (cases (leb (length xs) (length lent)))

    reader : (n : ℕ) (r : Result Decoded Refusal) → Reads (refused n) r → (f : Refusal) × (r ≡ Err f) × (refusal_number f ≡ n)
    reader n (Ok d) e = absurd (let z : ◌≡◌ {A = ℕ} 0 1 = cc in omega arith)
    reader n (Err f) e = (f, refl, cc)

pub answered_to_c : AnsweredToC
answered_to_c = (
  λ n t v lent r count left p. (
    λ m e. (rw e at p.number, rw e at p.count, rw e at p.buffer),
    λ xs e h. let s = lt-leb (length xs) (length lent) h in (rw (e, s) at p.number, rw (e, s) at p.count, rw (e, s) at p.buffer),
    λ xs e h. let s = le-leb (length xs) (length lent) h in (rw (e, s) at p.number, rw (e, s) at p.count, rw (e, s) at p.buffer),
  ),
  λ n s lent r left p. (λ m e. (rw e at p.number, rw e at p.parts), λ a e. (rw e at p.number, rw e at p.parts)),
)

-- ---- accepted

-- where the number is 0 every test held
tests : (a b d : Bool) (xs : List ℕ) (room : ℕ) → number_of (counts (unless a 1 (unless b 2 (unless d 3 (accepted xs)))) room) ≡ 0
    → (a ≡ true) × (b ≡ true) × (d ≡ true) × (length xs ≤ room)
tests false b d xs room e = zero_one 0 e
tests true false d xs room e = zero_one 1 e
tests true true false xs room e = zero_one 2 e
tests true true true xs room e =
    (refl, refl, refl, ⊎_elim (λ h. leb-true _ _ h) (λ h. zero_one 3 (rw h at e)) (cases (leb (length xs) room)))

module _ (k : format.Kind) (t : format.Settings) (v : format.Value) (lent left : List ℕ) (r : Result ℕ Refusal) (p : Writes (encode k t v) lent r left) where
  all_held : written_number r ≡ 0
      → (format.digits_in_range t.digits ≡ true) × (format.in_range k v ≡ true) × (has_form k (form_for k t v) v ≡ true) × (length (image_in k (form_for k t v) v) ≤ length lent)
  unfolding encode
  all_held z = tests _ _ _ (image_in k (form_for k t v) v) (length lent) (sym p.number ∙ z)

  is-accepted : written_number r ≡ 0 → encode k t v ≡ accepted (image_in k (form_for k t v) v)
  unfolding encode
  is-accepted z = let h = all_held z in rw (h.0, h.1, h.2)

  front : written_number r ≡ 0
      → (written_count r ≡ length (image_in k (form_for k t v) v)) × (left ≡ image_in k (form_for k t v) v ++ drop (length (image_in k (form_for k t v) v)) lent)
  front z =
      let l = le-leb (length (image_in k (form_for k t v) v)) (length lent) (all_held z).3 in
      (rw (is-accepted z, l) at p.count, rw (is-accepted z, l) at p.buffer)

  back : (format.digits_in_range t.digits ≡ true) × (format.in_range k v ≡ true) × (has_form k (form_for k t v) v ≡ true) × (length (image_in k (form_for k t v) v) ≤ length lent)
      → written_number r ≡ 0
  unfolding encode
  back h = p.number ∙ rw (h.0, h.1, h.2, le-leb (length (image_in k (form_for k t v) v)) (length lent) h.3)

pub accepted_otherwise : AcceptedOtherwise
accepted_otherwise k t v lent left r p = ((all_held k t v lent left r p, back k t v lent left r p), front k t v lent left r p)

-- ---- there and back, of our own writers and readers

-- by a reader that reads as o what is written so
reads_back : (k : format.Kind) (t : Settings) (v : format.Value) (reader : List ℕ → Outcome format.Answer) (o : Outcome format.Answer)
    → ((s : List ℕ) → encode k (settings_from t) v ≡ accepted s → reader s ≡ o)
    → ReadsBack (λ lent r left. Writes (encode k (settings_from t) v) lent r left) (λ s r. Reads (reader s) r) o
reads_back k t v reader o e lent left n r p q =
    let u = settings_from t in
    let xs = image_in k (form_for k u v) v in
    let f = front k u v lent left (Ok n) p refl in
    let s : take n left ≡ xs = rw f.1 (take_at xs (drop (length xs) lent) n (sym f.0)) in
    (rw s at q) ∙ e xs (is-accepted k u v lent left (Ok n) p refl)

own_reads_back : (k : format.Kind) (t : Settings) (v : format.Value)
    → ReadsBack (λ lent r left. Writes (encode k (settings_from t) v) lent r left) (λ s r. Reads (read k s) r) (kept k t v)
own_reads_back k t v = reads_back k t v (read k) (kept k t v) (written_reads k (settings_from t) v)

pub own_reader_reads_back : OwnReaderReadsBack
own_reader_reads_back =
    (λ t v. own_reads_back _ t _, λ t v. own_reads_back _ t _, λ t v. own_reads_back _ t _, λ t v. own_reads_back _ t _, λ t v. own_reads_back _ t _, λ t v. own_reads_back _ t _)

either_reads_back : (k : format.Kind) (t : Settings) (v : format.Value) → NotExcepted k t v
    → ReadsBack (λ lent r left. Writes (encode k (settings_from t) v) lent r left) (λ s r. Reads (read_either (family_of k) s) r) (kept k t v)
either_reads_back k t v x = reads_back k t v (read_either (family_of k)) (kept k t v) (λ s e. (own_kinds k (settings_from t) v s e x).1)

pub either_reader_reads_back : EitherReaderReadsBack
either_reader_reads_back = (
  λ t v. either_reads_back format.Date t _,
  λ t v. either_reads_back format.DateTz t _,
  λ t v. either_reads_back format.Time t _,
  λ t v. either_reads_back format.TimeTz t _,
  λ t v. either_reads_back format.Datetime t _,
  λ t v. either_reads_back format.DatetimeTz t _,
)

writes_again : (k : format.Kind) (s : List ℕ) (t : Settings) (a : format.Answer) → Octets s → accepted a ≡ read k s → settings_from t ≡ settings_for a.form
    → WritesAgain s (λ lent r left. Writes (encode k (settings_from t) a.value) lent r left)
writes_again k s t a o e h lent left r p l =
    let w : encode k (settings_from t) a.value ≡ accepted s = rw h (read_writes k s a o (sym e)) in
    let b = le-leb (length s) (length lent) l in
    one_writing (accepted s) lent r (Ok (length s)) left (s ++ drop (length s) lent) (rw w at p) (record { number = rw b; count = rw b; buffer = rw b })

pub own_writer_writes_again : OwnWriterWritesAgain
own_writer_writes_again s t o =
    (λ a. writes_again _ s t _ o, λ a. writes_again _ s t _ o, λ a. writes_again _ s t _ o, λ a. writes_again _ s t _ o, λ a. writes_again _ s t _ o, λ a. writes_again _ s t _ o)
