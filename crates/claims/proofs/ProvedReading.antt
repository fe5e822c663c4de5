-- A reader's refusal is the first that applies: each form's tests are the four questions, one after the other. Assumes nothing.
use Prim.Native.Nat.{ℕ}
use native.Mathlib.Omega.{arith}
use mathlib.Core.Path.{◌≡◌, refl, sym, ◌∙◌, ap}
use mathlib.Core.Bool.{Bool, true, false, not}
use mathlib.Core.List.{List}
use lib.Dec.{leb, eqb}
use lib.ListN.{length}
use Rattle.format.specs.Words.{pick, both, if_any, Outcome, accepted, refused, unless}
use Rattle.format.specs.Octets.{Octets, signed_of}
use Rattle.format.specs.Values.{Kind, Date, DateTz, Time, TimeTz, Datetime, DatetimeTz, timed, Value, time_in_range, offset_in_range, Form, text, compact, extended}
use Rattle.format.specs.Fields.{fit}
use Rattle.format.specs.Text.{layout}
use Rattle.format.specs.TextReading.{digits_found, minus_zero, numbers_in_range, read_fields, read_text}
use Rattle.format.specs.CompactReading.{longest, usual, read_number, read_compact}
use Rattle.format.specs.Extended.{head_bits, read_extended}
use Rattle.format.specs.Promises.{number_of}
use Rattle.format.specs.Reading.{first_bits, form_in, read_in, answer, read}
use Rattle.format.specs.EitherOr.{kind_in, read_either}
use Rattle.format.proofs.Cases.{never}
use Rattle.format.proofs.Choosing.{found_fits}
use Rattle.format.proofs.Signed.{drop_octets}
use Rattle.claims.specs.ReaderRefusals.{numbers_in, with_offset, number_part, text_length_fits, compact_up_to, length_fits, octets_fit, nothing_redundant, all_in_range, value_said, ChosenForm, FirstOf, ReaderFirstThatApplies, EitherFirstThatApplies, NeverRefusedWith}
use Rattle.claims.proofs.Questions.{text_found, text_lengths, compact_lengths, extended_lengths, fewest_or_padded, carried_at, numbers_fit, minus_zero_lem, clock_fits_lem}

-- ---- the tests of each form are the four questions

abbrev Four : Kind → Form → List ℕ → Outcome Value
Four k f s =
    unless (length_fits k f s) 5
    (unless (octets_fit k f s) 6
    (unless (nothing_redundant k f s) 7
    (unless (all_in_range k f s) 8
    (accepted (value_said k f s)))))

-- a later question may be put in other words where the earlier ones are met
reworded : {A : Type 0} (a b c e : Bool) (o : Outcome A) → (a ≡ true → b ≡ true → c ≡ e) → unless a 5 (unless b 6 (unless c 7 o)) ≡ unless a 5 (unless b 6 (unless e 7 o))
reworded true true c e o f = rw (f refl refl)
reworded true false c e o f = refl
reworded false b c e o f = refl

four_text : (k : Kind) (s : List ℕ) → let d = digits_found k (length s) in read_text k d s ≡ Four k (text d) s
unfolding read_text read_fields numbers_in_range
four_text k s =
    let d = digits_found k (length s) in
    let n = numbers_in k d s in
    rw (text_lengths k (length s), clock_fits_lem n) (reworded (text_length_fits k (length s)) (fit (layout k d) s 0) (not (minus_zero n)) (nothing_redundant k (text d) s) _
    (λ a b. minus_zero_lem k d s (sym (found_fits k (length s) (text_found k (length s) a))) b))

four_compact : (k : Kind) (s : List ℕ) → Octets s → read_compact k s ≡ Four k compact s
unfolding read_compact read_number usual offset_in_range
four_compact k s o =
    let w = with_offset k (length s) in
    let x = signed_of (number_part k s) in
    let e = fewest_or_padded k w (number_part k s) (drop_octets (if_any w 2) s o) in
    rw (compact_lengths k (length s), carried_at k (length s), e, numbers_fit k (length s) x)

four_extended : (k : Kind) (s : List ℕ) → read_extended k s ≡ Four k extended s
unfolding read_extended offset_in_range time_in_range
four_extended k s = rw (extended_lengths k)

four : (k : Kind) (s : List ℕ) → Octets s → read_in k (form_in k s) s ≡ Four k (form_in k s) s
unfolding form_in read_in
four k s o = go (leb (length s) (longest k)) (both (timed k) (eqb (first_bits s) (head_bits k)))
  where
    go : (a b : Bool) → let f = pick a compact (pick b extended (text (digits_found k (length s)))) in read_in k f s ≡ Four k f s
    go true b = unfold read_in in four_compact k s o
    go false true = unfold read_in in four_extended k s
    go false false = unfold read_in in four_text k s

first_of : (k : Kind) (f : Form) (s : List ℕ) (r : Outcome Value) → r ≡ Four k f s → FirstOf k f s (answer k f r)
first_of k f s r e = rw e (λ a. rw a, λ a b. rw (a, b), λ a b c. rw (a, b, c), λ a b c d. rw (a, b, c, d), λ a b c d. rw (a, b, c, d))

up_to : (k : Kind) → longest k ≡ compact_up_to k
up_to Date = refl
up_to DateTz = refl
up_to Time = refl
up_to TimeTz = refl
up_to Datetime = refl
up_to DatetimeTz = refl

pub chosen_form : ChosenForm
unfolding form_in head_bits
chosen_form k s = (
  λ a. rw (up_to k, a),
  λ a b. rw (up_to k, a, b),
  λ a b. (digits_found k (length s), rw (up_to k, a, b), λ e. found_fits k (length s) (text_found k (length s) e)),
)

pub reader_first : ReaderFirstThatApplies
unfolding read
reader_first k s o = first_of k (form_in k s) s (read_in k (form_in k s) s) (four k s o)

pub either_first : EitherFirstThatApplies
unfolding read_either
either_first e s o = (refl, reader_first (kind_in e s) s o)

-- ---- what a refusal tells

-- 6 that the second question was answered with no, 7 the third
told : (k : Kind) (f : Form) (a b c d : Bool) (v : Value) (n : ℕ) → number_of (answer k f (unless a 5 (unless b 6 (unless c 7 (unless d 8 (accepted v)))))) ≡ n
    → (n ≡ 6 → b ≡ false) × (n ≡ 7 → c ≡ false)
told k f false b c d v n e = (λ z. absurd (omega arith), λ z. absurd (omega arith))
told k f true false c d v n e = (λ z. refl, λ z. absurd (omega arith))
told k f true true false d v n e = (λ z. absurd (omega arith), λ z. refl)
told k f true true true false v n e = (λ z. absurd (omega arith), λ z. absurd (omega arith))
told k f true true true true v n e = (λ z. absurd (omega arith), λ z. absurd (omega arith))

pub never_refused : NeverRefusedWith
unfolding read
never_refused k s o = (
  λ f e. clash (rw f at ((tells 6 e).0 refl)),
  λ f e. clash (rw f at ((tells 7 e).1 refl)),
  λ f z e. clash (rw (f, z) at ((tells 6 e).0 refl)),
  λ d f z e. clash (rw (f, z) at ((tells 7 e).1 refl)),
)
  where
    clash : {A : Type 0} → ◌≡◌ {A = Bool} true false → A
    clash e = never (sym e)

    tells : (n : ℕ) → read k s ≡ refused n → (n ≡ 6 → octets_fit k (form_in k s) s ≡ false) × (n ≡ 7 → nothing_redundant k (form_in k s) s ≡ false)
    tells n e =
        let f = form_in k s in
        told k f (length_fits k f s) (octets_fit k f s) (nothing_redundant k f s) (all_in_range k f s) (value_said k f s) n (ap number_of (ap (answer k f) (sym (four k s o)) ∙ e))
