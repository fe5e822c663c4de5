-- What a reader tests is what the four questions ask, in 01's own numbers and octets. Assumes nothing.
use Prim.Native.Nat.{ℕ, zero, suc, ◌+◌, ◌-◌, ◌/◌, ◌%◌, ◌<◌, ◌≤◌, max}
use native.Mathlib.Omega.{arith}
use mathlib.Core.Path.{◌≡◌, refl, sym, ◌∙◌, ap}
use mathlib.Core.Logic.{⊎_elim}
use mathlib.Core.Bool.{Bool, true, false, not}
use mathlib.Core.List.{List, [], ◌∷◌, ◌++◌}
use lib.IntN.{ℤ, pos, negsuc}
use lib.Dec.{leb, ltb, eqb}
use lib.ListN.{length, get_or, drop}
use borrow.Author.Tests.{le-leb, lt-leb, leb-true, eqb-true, eq-eqb, ne_eqb}
use Rattle.format.specs.Words.{pick, both, either, needs, if_any}
use Rattle.format.specs.Octets.{Octets, signed_of, tight, fewest_octets}
use Rattle.format.specs.Values.{Kind, Date, DateTz, Time, TimeTz, Datetime, DatetimeTz, dated, timed, zoned, text}
use Rattle.format.specs.Digits.{digits_of}
use Rattle.format.specs.Fields.{Field, width, put, says_at, widths, puts, fit, says}
use Rattle.format.specs.Text.{date_row, clock_row, offset_row, layout, text_length}
use Rattle.format.specs.TextReading.{digits_found, Numbers, named, minus_zero, clock_in_range}
use Rattle.format.specs.Compact.{per_day, start, greatest, padded_to, number_octets}
use Rattle.format.specs.CompactReading.{longest, shortest, longest_plain, carried_in, not_before, counted, number_in_range}
use Rattle.format.specs.Extended.{day_width}
use Rattle.format.proofs.Cases.{eq_or_ne, lt_or_le, both_true, both_false, never, at_most}
use Rattle.format.proofs.Clock.{seven}
use Rattle.format.proofs.Fields.{bound, row_again, fit_append, says_append, widths_append}
use Rattle.format.proofs.Choosing.{digits_back, found_fits, found_has}
use Rattle.format.proofs.Ber.{fewest_octets_lem}
use Rattle.format.proofs.Tight.{tight_fewest}
use Rattle.claims.specs.ReaderRefusals.{between, signed_between, same, minus_zero_text, numbers_in, with_offset, number_fits, clock_fits, text_length_fits, compact_length_fits, nothing_redundant}

-- ---- 5: the lengths of 01 are those that the forms have

-- a point and digits make a text longer by as many octets
pointed : (k : Kind) (d : ℕ) → timed k ≡ true → text_length k (suc d) ≡ text_length k 0 + 2 + d
unfolding text_length layout widths width
pointed Date d t = never t
pointed DateTz d t = never t
pointed Time d t = rw (ne_eqb (suc d) 0 (omega arith)) (omega arith)
pointed TimeTz d t = rw (ne_eqb (suc d) 0 (omega arith)) (omega arith)
pointed Datetime d t = rw (ne_eqb (suc d) 0 (omega arith)) (omega arith)
pointed DatetimeTz d t = rw (ne_eqb (suc d) 0 (omega arith)) (omega arith)

-- the lengths of a kind with a time
abbrev timed_fits : Kind → ℕ → Bool
timed_fits k n = either (eqb n (text_length k 0)) (between (text_length k 0 + 2) (text_length k 0 + 7) n)

-- which digits they are
is_found : (k : Kind) (d n : ℕ) → d ≤ if_any (timed k) 6 → text_length k d ≡ n → digits_found k n ≤ 6
is_found k d n h e =
    let f : digits_found k n ≡ d = rw e at (digits_back k d h) in
    rw f (at_most (timed k) d h)

timed_found : (k : Kind) → timed k ≡ true → (n : ℕ) → timed_fits k n ≡ true → digits_found k n ≤ 6
timed_found k t n e =
    ⊎_elim
    (λ (p : n ≡ text_length k 0). is_found k 0 n (rw t (omega arith)) (sym p))
    (λ (p : n ≡ text_length k 0 → ⊥). let b = both_true (leb (text_length k 0 + 2) n) (leb n (text_length k 0 + 7)) (rw (ne_eqb n (text_length k 0) p) at e) in
    let low : text_length k 0 + 2 ≤ n = leb-true _ _ b.0 in
    let high : n ≤ text_length k 0 + 7 = leb-true _ _ b.1 in
    let d = n - (text_length k 0 + 2) in
    is_found k (suc d) n (rw t (omega arith)) (pointed k d t ∙ omega arith))
    (eq_or_ne n (text_length k 0))

pub text_found : (k : Kind) (n : ℕ) → text_length_fits k n ≡ true → digits_found k n ≤ 6
unfolding text_length layout widths width
text_found Date n e = is_found Date 0 n (omega arith) (sym (eqb-true n 10 e))
text_found DateTz n e = is_found DateTz 0 n (omega arith) (sym (eqb-true n 16 e))
text_found Time n e = timed_found Time refl n e
text_found TimeTz n e = timed_found TimeTz refl n e
text_found Datetime n e = timed_found Datetime refl n e
text_found DatetimeTz n e = timed_found DatetimeTz refl n e

found_text : (k : Kind) (d : ℕ) → d ≤ if_any (timed k) 6 → text_length_fits k (text_length k d) ≡ true
unfolding text_length layout widths width
found_text Date zero h = refl
found_text Date (suc d) h = absurd (omega arith)
found_text DateTz zero h = refl
found_text DateTz (suc d) h = absurd (omega arith)
found_text Time d h = seven (λ d. text_length_fits Time (text_length Time d) ≡ true) refl refl refl refl refl refl refl d h
found_text TimeTz d h = seven (λ d. text_length_fits TimeTz (text_length TimeTz d) ≡ true) refl refl refl refl refl refl refl d h
found_text Datetime d h = seven (λ d. text_length_fits Datetime (text_length Datetime d) ≡ true) refl refl refl refl refl refl refl d h
found_text DatetimeTz d h = seven (λ d. text_length_fits DatetimeTz (text_length DatetimeTz d) ≡ true) refl refl refl refl refl refl refl d h

both_true_right : (a : Bool) → both a true ≡ a
both_true_right true = refl
both_true_right false = refl

-- two tests are alike where each follows from the other
alike : (a b : Bool) → (a ≡ true → b ≡ true) → (b ≡ true → a ≡ true) → a ≡ b
alike true b f g = sym (f refl)
alike false true f g = g refl
alike false false f g = refl

pub text_lengths : (k : Kind) (n : ℕ) → leb (digits_found k n) 6 ≡ text_length_fits k n
text_lengths k n =
    alike (leb (digits_found k n) 6) (text_length_fits k n)
    (λ e. let h : digits_found k n ≤ 6 = leb-true _ _ e in rw (found_fits k n h) at (found_text k (digits_found k n) (found_has k n h)))
    (λ e. le-leb (digits_found k n) 6 (text_found k n e))

pub compact_lengths : (k : Kind) (n : ℕ) → both (leb (shortest k) n) (leb n (longest k)) ≡ compact_length_fits k n
unfolding shortest
compact_lengths Date n = refl
compact_lengths DateTz n = refl
compact_lengths Time n = refl
compact_lengths TimeTz n = refl
compact_lengths Datetime n = refl
compact_lengths DatetimeTz n = refl

pub extended_lengths : (k : Kind) → 7 + day_width k ≡ pick (dated k) 10 7
unfolding day_width
extended_lengths k = go (dated k)
  where
    go : (b : Bool) → 7 + if_any b 3 ≡ pick b 10 7
    go true = refl
    go false = refl

-- ---- 7: a number is redundant exactly where it is longer than its padding and has a redundant sign octet

padded_some : (k : Kind) (w : Bool) → 1 ≤ padded_to k w
unfolding padded_to
padded_some k w = go w (timed k) (dated k)
  where
    go : (w t d : Bool) → 1 ≤ pick w (pick t (pick d 5 3) 2) 1
    go true true true = omega arith
    go true true false = omega arith
    go true false d = omega arith
    go false t d = omega arith

-- n octets of which f would do, padded to p
no_longer : (n p f : ℕ) → 1 ≤ p → (1 ≤ n → f ≤ n) → leb n (max p f) ≡ either (leb n p) (eqb n f)
no_longer n p f a b =
    ⊎_elim (λ (h : p < n). ⊎_elim (λ (e : n ≡ f). rw (lt-leb n p h, eq-eqb n f e) (le-leb n (max p f) (omega arith)))
    (λ (e : n ≡ f → ⊥). rw (lt-leb n p h, ne_eqb n f e) (lt-leb n (max p f) (omega (arith, b (omega arith), e))))
    (eq_or_ne n f))
    (λ (h : n ≤ p). rw (le-leb n p h) (le-leb n (max p f) (omega arith)))
    (lt_or_le p n)

pub fewest_or_padded : (k : Kind) (w : Bool) (xs : List ℕ) → Octets xs
    → leb (length xs) (number_octets k w (signed_of xs)) ≡ either (leb (length xs) (padded_to k w)) (tight xs)
unfolding number_octets
fewest_or_padded k w xs o =
    rw (tight_fewest xs o) (no_longer (length xs) (padded_to k w) (fewest_octets (signed_of xs)) (padded_some k w) (fewest_octets_lem xs o))

-- ---- 7 and 8: where an offset stands, and which numbers are in range

pub carried_at : (k : Kind) (n : ℕ) → carried_in k n ≡ with_offset k n
unfolding carried_in longest_plain
carried_at Date n = refl
carried_at DateTz n = refl
carried_at Time n = refl
carried_at TimeTz n = refl
carried_at Datetime n = refl
carried_at DatetimeTz n = refl

-- a + x is not below zero and at most a + b
shifted : (a b : ℕ) (x : ℤ) → both (not_before a x) (leb (counted a x) (a + b)) ≡ signed_between a b x
shifted a b (pos n) =
    ⊎_elim (λ (h : b < n). rw (lt-leb n b h) (lt-leb (n + a) (a + b) (omega arith)))
    (λ (h : n ≤ b). rw (le-leb n b h) (le-leb (n + a) (a + b) (omega arith)))
    (lt_or_le b n)
shifted a b (negsuc n) = rw (le-leb (a - suc n) (a + b) (omega arith)) (both_true_right (ltb n a))

pub numbers_fit : (k : Kind) (n : ℕ) (x : ℤ) → number_in_range k (with_offset k n) x ≡ number_fits k (with_offset k n) x
unfolding number_in_range start per_day greatest
numbers_fit Date n x = shifted 737424 2914634 x
numbers_fit DateTz n x = shifted 737424 2914634 x
numbers_fit Time n x = shifted 0 86400000 x
numbers_fit TimeTz n x = shifted 0 86400000 x
numbers_fit Datetime n x = shifted 63713433600000 140737488355327 x
numbers_fit DatetimeTz n x = shifted 63713433600000 (pick (with_offset DatetimeTz n) 251824463999999 140737488355327) x

-- ---- 7: the numbers of a row say `-00:00` exactly where its last six octets are these

-- two digits are `00` where their number is 0
two_zero : (h : ℕ) (r : Bool) → h < 100 → both (eqb h 0) r ≡ both (eqb (48 + h / 10 % 10) 48) (both (eqb (48 + h % 10) 48) r)
two_zero h r l =
    ⊎_elim (λ (p : h ≡ 0). rw p)
    (λ (p : h ≡ 0 → ⊥). rw (ne_eqb h 0 p) (⊎_elim
    (λ (q : h % 10 ≡ 0). rw (ne_eqb (48 + h / 10 % 10) 48 (λ e. p (omega arith))))
    (λ (q : h % 10 ≡ 0 → ⊥). rw (ne_eqb (48 + h % 10) 48 (λ e. q (omega arith))) (sym (both_false (eqb (48 + h / 10 % 10) 48))))
    (eq_or_ne (h % 10) 0)))
    (eq_or_ne h 0)

-- of the three numbers, below their bounds
offset_image : (m h t : ℕ) → m < 2 → h < 100 → t < 100
    → both (eqb m 1) (both (eqb h 0) (eqb t 0)) ≡ same (puts (offset_row true) (m ∷ h ∷ t ∷ [])) minus_zero_text
unfolding puts put digits_of
offset_image zero h t a b c = refl
offset_image (suc zero) h t a b c =
    two_zero h (eqb t 0) b
    ∙ ap (λ (r : Bool). both (eqb (48 + h / 10 % 10) 48) (both (eqb (48 + h % 10) 48) r)) (sym (both_true_right (eqb t 0)) ∙ two_zero t true c)
offset_image (suc (suc m)) h t a b c = absurd (omega arith)

-- a row that ends in an offset
ends : (fs : List Field) (s : List ℕ) → length s ≡ widths (fs ++ offset_row true) → fit (fs ++ offset_row true) s 0 ≡ true
    → let ns = says (offset_row true) s (0 + widths fs) in
    both (eqb (get_or ns 0 0) 1) (both (eqb (get_or ns 1 0) 0) (eqb (get_or ns 2 0) 0)) ≡ same (drop (length s - 6) s) minus_zero_text
unfolding says widths width bound
ends fs s l f =
    let at = 0 + widths fs in
    let ns = says (offset_row true) s at in
    let w : length s ≡ widths fs + 6 = l ∙ widths_append fs (offset_row true) in
    let a = both_true (fit fs s 0) (fit (offset_row true) s at) (sym (fit_append fs (offset_row true) s 0) ∙ f) in
    let r = row_again (offset_row true) s at (omega arith) a.1 in
    let p : at ≡ length s - 6 = omega arith in
    let e : puts (offset_row true) ns ≡ drop (length s - 6) s = r.same ∙ ap (λ (i : ℕ). drop i s) p in
    offset_image (get_or ns 0 0) (get_or ns 1 0) (get_or ns 2 0) r.small.0 r.small.1.0 r.small.1.1.0
    ∙ ap (λ (x : List ℕ). same x minus_zero_text) e

-- the ten fields
row_zero : (date time offset : Bool) (d : ℕ) (s : List ℕ)
    → let fs = date_row date ++ clock_row time date d in
    length s ≡ widths (fs ++ offset_row offset) → fit (fs ++ offset_row offset) s 0 ≡ true
    → not (minus_zero (named (says (fs ++ offset_row offset) s 0))) ≡ needs offset (not (same (drop (length s - 6) s) minus_zero_text))
unfolding minus_zero says says_at
row_zero date time true d s l f =
    let fs = date_row date ++ clock_row time date d in
    let e : says (fs ++ offset_row true) s 0 ≡ says fs s 0 ++ says (offset_row true) s (0 + widths fs) = says_append fs (offset_row true) s 0 in
    let z : minus_zero (named (says (fs ++ offset_row true) s 0)) ≡ same (drop (length s - 6) s) minus_zero_text =
    ap (λ (ns : List ℕ). minus_zero (named ns)) e ∙ ends fs s l f in
    rw z
row_zero date time false d s l f = refl

pub minus_zero_lem : (k : Kind) (d : ℕ) (s : List ℕ) → length s ≡ text_length k d → fit (layout k d) s 0 ≡ true
    → not (minus_zero (numbers_in k d s)) ≡ nothing_redundant k (text d) s
unfolding layout text_length
minus_zero_lem k d s l f = row_zero (dated k) (timed k) (zoned k) d s l f

-- ---- 8: the hour

hour_fits : (h : ℕ) (m s z : Bool) → both m (both s (either (leb h 23) (both (eqb h 24) z))) ≡ both (leb h 24) (both m (both s (needs (eqb h 24) z)))
hour_fits h m s z =
    ⊎_elim (λ (p : h < 24). rw (le-leb h 23 (omega arith), le-leb h 24 (omega arith), ne_eqb h 24 (λ e. omega arith)))
    (λ (p : 24 ≤ h). ⊎_elim (λ (q : h ≡ 24). rw q)
    (λ (q : h ≡ 24 → ⊥). rw (lt-leb h 23 (omega arith), lt-leb h 24 (omega (arith, q)), ne_eqb h 24 q, both_false s) (both_false m))
    (eq_or_ne h 24))
    (lt_or_le h 24)

pub clock_fits_lem : (n : Numbers) → clock_in_range n ≡ clock_fits n
unfolding clock_in_range
clock_fits_lem n = hour_fits n.hour (leb n.minute 59) (leb n.second 59) (both (eqb n.minute 0) (both (eqb n.second 0) (eqb n.fraction 0)))
