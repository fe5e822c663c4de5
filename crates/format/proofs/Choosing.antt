-- The reader finds the form in which an image was written. Assumes nothing.
use mathlib.Core.Path.{◌≡◌, refl, ap}
use mathlib.Core.Logic.{⊎_elim}
use mathlib.Core.Bool.{Bool, true, false}
use Prim.Native.Nat.{ℕ, zero, suc, ◌+◌, ◌*◌, ◌/◌, ◌%◌, ◌<◌, ◌≤◌}
use native.Mathlib.Omega.{arith}
use lib.Dec.{leb, eqb}
use lib.ListN.{length}
use borrow.Author.Tests.{le-leb, lt-leb, leb-true, eq-eqb, ne_eqb}
use Rattle.format.specs.Words.{pick, both, if_any}
use Rattle.format.specs.Octets.{unsigned_octets}
use Rattle.format.specs.Values.{Kind, Date, DateTz, Time, TimeTz, Datetime, DatetimeTz, timed, zoned, Value, in_range, Settings, permitted, Form, text, compact, extended}
use Rattle.format.specs.Choice.{form_for, kind_has, settings_for}
use Rattle.format.specs.Digits.{digits_of}
use Rattle.format.specs.Fields.{width, put, widths, puts}
use Rattle.format.specs.Text.{layout, text_length, text_numbers, text_image}
use Rattle.format.specs.TextReading.{digits_from, digits_found}
use Rattle.format.specs.CompactReading.{longest_plain, longest}
use Rattle.format.specs.Extended.{head_bits, twelve, day_width, extended_image}
use Rattle.format.specs.Writing.{image_in, has_form}
use Rattle.format.specs.Reading.{first_bits, form_in}
use Rattle.format.proofs.Cases.{both_false, eq_or_ne, never, at_most}
use Rattle.format.proofs.Clock.{seven}
use Rattle.format.proofs.Text.{InRange, in_range_lem, text_length_lem}
use Rattle.format.proofs.Extended.{extended_length, twelve_small, head_small}
use Rattle.format.proofs.Compact.{compact_seen}

-- ---- digits, from the length

pub digits_back : (k : Kind) (d : ℕ) → d ≤ if_any (timed k) 6 → digits_found k (text_length k d) ≡ d
unfolding digits_found digits_from text_length layout widths width
digits_back Date zero h = refl
digits_back Date (suc d) h = absurd (omega arith)
digits_back DateTz zero h = refl
digits_back DateTz (suc d) h = absurd (omega arith)
digits_back Time d h = seven (λ d. digits_found Time (text_length Time d) ≡ d) refl refl refl refl refl refl refl d h
digits_back TimeTz d h = seven (λ d. digits_found TimeTz (text_length TimeTz d) ≡ d) refl refl refl refl refl refl refl d h
digits_back Datetime d h = seven (λ d. digits_found Datetime (text_length Datetime d) ≡ d) refl refl refl refl refl refl refl d h
digits_back DatetimeTz d h = seven (λ d. digits_found DatetimeTz (text_length DatetimeTz d) ≡ d) refl refl refl refl refl refl refl d h

-- the first of d, d + 1, .. that fits, where one does
from_fits : (k : Kind) (n f d : ℕ) → digits_from k n f d < d + f → text_length k (digits_from k n f d) ≡ n
unfolding digits_from
from_fits k n zero d h = absurd (omega arith)
from_fits k n (suc f) d h =
    ⊎_elim (λ t. rw (eq-eqb (text_length k d) n t, digits_from) t)
    (λ t. let e : digits_from k n (suc f) d ≡ digits_from k n f (suc d) = rw (ne_eqb (text_length k d) n t, digits_from) in
    rw e (from_fits k n f (suc d) (omega (arith, rw e at h))))
    (eq_or_ne (text_length k d) n)

pub found_fits : (k : Kind) (n : ℕ) → digits_found k n ≤ 6 → text_length k (digits_found k n) ≡ n
unfolding digits_found
found_fits k n h = from_fits k n 7 0 (omega arith)

-- a text without a time has one length, and no digits
first_fits : (k : Kind) (n : ℕ) → text_length k 0 ≡ n → digits_found k n ≡ 0
unfolding digits_found digits_from
first_fits k n t = rw (eq-eqb (text_length k 0) n t, digits_from)

pub found_has : (k : Kind) (n : ℕ) → digits_found k n ≤ 6 → digits_found k n ≤ if_any (timed k) 6
unfolding text_length layout widths width
found_has Date n h = omega (arith, first_fits Date n (found_fits Date n h))
found_has DateTz n h = omega (arith, first_fits DateTz n (found_fits DateTz n h))
found_has Time n h = h
found_has TimeTz n h = h
found_has Datetime n h = h
found_has DatetimeTz n h = h

-- ---- a text is longer than what is compact, and begins with a digit

text_long : (k : Kind) (d : ℕ) → longest k < text_length k d
unfolding longest_plain text_length layout widths width
text_long Date d = omega arith
text_long DateTz d = omega arith
text_long Time d = omega arith
text_long TimeTz d = omega arith
text_long Datetime d = omega arith
text_long DatetimeTz d = omega arith

pub text_first : (k : Kind) (d : ℕ) (v : Value) → first_bits (text_image k d v) ≡ 3
unfolding first_bits text_image text_numbers layout puts put digits_of
text_first Date d v = omega arith
text_first DateTz d v = omega arith
text_first Time d v = omega arith
text_first TimeTz d v = omega arith
text_first Datetime d v = omega arith
text_first DatetimeTz d v = omega arith

head_not_3 : (k : Kind) → eqb 3 (head_bits k) ≡ false
unfolding head_bits
head_not_3 k = go (zoned k)
  where
    go : (b : Bool) → eqb 3 (pick b 9 8) ≡ false
    go true = refl
    go false = refl

extended_long : (k : Kind) → timed k ≡ true → longest k < 7 + day_width k
unfolding longest_plain day_width
extended_long Date t = never t
extended_long DateTz t = never t
extended_long Time t = omega arith
extended_long TimeTz t = omega arith
extended_long Datetime t = omega arith
extended_long DatetimeTz t = omega arith

first_of : (h w : ℕ) → h ≤ 9 → w < 4096 → (h * 4096 + w) / 256 % 256 / 16 ≡ h
first_of h w p q = omega arith

pub extended_first : (k : Kind) (v : Value) → timed k ≡ true → InRange k v → first_bits (extended_image k v) ≡ head_bits k
unfolding first_bits extended_image unsigned_octets
extended_first k v t r = first_of (head_bits k) (twelve k v) (head_small k) (twelve_small k v t r)

-- ---- the reader finds the form

pub form_found : (k : Kind) (f : Form) (v : Value) → in_range k v ≡ true → kind_has k f ≡ true → has_form k f v ≡ true → form_in k (image_in k f v) ≡ f
unfolding form_in image_in kind_has has_form
form_found k (text d) v r h g =
    let l : d ≤ if_any (timed k) 6 = leb-true _ _ h in
    let n : length (text_image k d v) ≡ text_length k d = text_length_lem k d v r (at_most (timed k) d l) in
    rw (n, lt-leb (text_length k d) (longest k) (text_long k d), text_first k d v, head_not_3 k, both_false (timed k), digits_back k d l)
form_found k compact v r h g = rw (le-leb _ _ (compact_seen k v g).long)
form_found k extended v r h g =
    rw (extended_length k v, lt-leb (7 + day_width k) (longest k) (extended_long k h), extended_first k v h (in_range_lem k v r), h, eq-eqb (head_bits k) (head_bits k) refl)

-- ---- settings and forms

pub chosen_has : (k : Kind) (s : Settings) (v : Value) → s.digits ≤ 6 → kind_has k (form_for k s v) ≡ true
unfolding form_for kind_has
chosen_has k s v h = go s.binary (timed k) refl (both (leb 35500 s.version) _)
  where
    go : (b t : Bool) → timed k ≡ t → (x : Bool) → kind_has k (pick b (pick (both t x) extended compact) (text (if_any t s.digits))) ≡ true
    go true true e true = unfold kind_has in e
    go true true e false = unfold kind_has in refl
    go true false e x = unfold kind_has in refl
    go false true e x = unfold kind_has in rw e (le-leb s.digits 6 h)
    go false false e x = unfold kind_has in rw e

pub settings_for_lem : (k : Kind) (f : Form) (v : Value) → kind_has k f ≡ true → ((settings_for f).digits ≤ 6) × (form_for k (settings_for f) v ≡ f)
unfolding kind_has settings_for form_for
settings_for_lem k (text d) v h = go (timed k) (leb-true _ _ h)
  where
    go : (t : Bool) → d ≤ if_any t 6 → (d ≤ 6) × (text (if_any t d) ≡ text d)
    go true l = (l, refl)
    go false l = (omega arith, ap text (omega arith))
settings_for_lem k compact v h = (omega arith, rw (both_false (timed k)))
settings_for_lem k extended v h = (omega arith, rw h)

-- they are settings that may be given
pub settings_permitted : (k : Kind) (f : Form) → kind_has k f ≡ true → permitted (settings_for f) ≡ true
unfolding kind_has settings_for permitted
settings_permitted k (text d) h = rw (le-leb d 6 (at_most (timed k) d (leb-true _ _ h)))
settings_permitted k compact h = refl
settings_permitted k extended h = refl
