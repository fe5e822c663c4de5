-- What reading a text comes to, from its rows: date, time and offset, each whole, or the first that is not. Over the kind. Assumes nothing.
use Rattle.std.proofs.Common.{◌≡◌, ℕ, ◌+◌, ◌-◌, ◌*◌, ◌^◌, ◌<◌, ◌≤◌, Bool, true, false, eqb, leb, List, [], ◌∷◌, ◌++◌, length, pos, neg_ℤ, sym, refl, ◌∙◌, ⊎_elim, zero-add, zero-mul, le-mul_of_pos_right, arith, eq-eqb, ne_eqb, eqb-true, le-leb}
use borrow.Author.Tests.{eqb-false, lt-leb}
use Rattle.format.specs.Words.{pick, both, either, accepted, refused}
use Rattle.format.specs.Calendar.{Day}
use Rattle.format.specs.Values.{Kind, dated, timed, zoned, Value, time_in_range, text}
use Rattle.format.specs.Fields.{widths, fit}
use Rattle.format.specs.Text.{date_row, clock_row, offset_row, layout, text_length, fraction_unit}
use Rattle.format.specs.TextReading.{digits_found, minus_zero, clock_in_range, numbers_in_range, text_value, read_fields, read_text}
use Rattle.format.specs.Reading.{read_in, read_as}
use Rattle.format.proofs.Cases.{both_false, lt_or_le, eq_or_ne}
use Rattle.format.proofs.Clock.{seven}
use Rattle.format.proofs.Fields.{Whole, fit_append}
use Rattle.format.proofs.Choosing.{found_fits}
use Rattle.text.specs.declared.parts.Zone.{Zone}
use Rattle.text.specs.Parts.{clock_in_day, minus_of, offset_of}
use Rattle.text.specs.Outcomes.{outcome_of}
use Rattle.text.proofs.Rows.{joined}

-- ---- the whole text

-- the hour, minute and second of the day in microseconds, with those of the fraction
abbrev pub micros_of : ℕ → ℕ → ℕ → ℕ → ℕ
micros_of h m n p = (h * 3600 + m * 60 + n) * 1000000 + p

-- at most a day is what `clock_in_range` asks of hour and fraction, where minute and second are in range; z says that the fraction is 0
end_of_day_lem : (m n q : ℕ) (z : Bool) → (z ≡ true → q ≡ 0) → (z ≡ false → 0 < q)
    → both (eqb m 0) (both (eqb n 0) z) ≡ leb (micros_of 24 m n q) 86400000000
end_of_day_lem m n q z t f =
    ⊎_elim (λ a. ⊎_elim (λ b. rw (eq-eqb m 0 a, eq-eqb n 0 b) (last z t f a b)) (λ b. rw (eq-eqb m 0 a, ne_eqb n 0 b) (sym (lt-leb (micros_of 24 m n q) 86400000000 (omega arith)))) (eq_or_ne n 0))
    (λ a. rw (ne_eqb m 0 a) (sym (lt-leb (micros_of 24 m n q) 86400000000 (omega arith))))
    (eq_or_ne m 0)
  where
    last : (z : Bool) → (z ≡ true → q ≡ 0) → (z ≡ false → 0 < q) → m ≡ 0 → n ≡ 0 → z ≡ leb (micros_of 24 m n q) 86400000000
    last true t f a b = sym (le-leb (micros_of 24 m n q) 86400000000 (omega (arith, a, b, t refl)))
    last false t f a b = sym (lt-leb (micros_of 24 m n q) 86400000000 (omega (arith, a, b, f refl)))

late : (h m n q : ℕ) (z : Bool) → m ≤ 59 → n ≤ 59 → q < 1000000 → (z ≡ true → q ≡ 0) → (z ≡ false → 0 < q)
    → either (leb h 23) (both (eqb h 24) (both (eqb m 0) (both (eqb n 0) z))) ≡ time_in_range (micros_of h m n q)
unfolding time_in_range
late h m n q z hm hn hq t f =
    ⊎_elim (λ a. rw (le-leb h 23 (omega arith)) (sym (le-leb (micros_of h m n q) 86400000000 (omega arith))))
    (λ a. ⊎_elim (λ e. rw (lt-leb h 23 (omega arith), eq-eqb h 24 e) (end_of_day_lem m n q z t f ∙ rw e))
    (λ e. rw (lt-leb h 23 (omega arith), ne_eqb h 24 e) (sym (lt-leb (micros_of h m n q) 86400000000 (omega arith)))) (eq_or_ne h 24))
    (lt_or_le h 24)

zero_part : (p u : ℕ) → eqb p 0 ≡ true → p * u ≡ 0
zero_part p u e = rw (eqb-true p 0 e) (zero-mul u)

some_part : (p u : ℕ) → 0 < u → eqb p 0 ≡ false → 0 < p * u
some_part p u h e = let n = eqb-false p 0 e in omega (arith, n, le-mul_of_pos_right p h)

in_day_lem : (h m n p u : ℕ) → p * u < 1000000 → 0 < u
    → both (leb m 59) (both (leb n 59) (either (leb h 23) (both (eqb h 24) (both (eqb m 0) (both (eqb n 0) (eqb p 0))))))
    ≡ clock_in_day m n (micros_of h m n (p * u))
in_day_lem h m n p u hp hu =
    ⊎_elim (λ a. rw (lt-leb m 59 a))
    (λ a. ⊎_elim (λ b. rw (le-leb m 59 a, lt-leb n 59 b)) (λ b. rw (le-leb m 59 a, le-leb n 59 b) (late h m n (p * u) (eqb p 0) a b hp (zero_part p u) (some_part p u hu))) (lt_or_le 59 n))
    (lt_or_le 59 m)

-- a sign as a number and as a test
minus_one : (b : Bool) → eqb (minus_of b) 1 ≡ b
minus_one true = refl
minus_one false = refl

minus_sign : (b : Bool) (x : ℕ) → pick (eqb (minus_of b) 0) (pos x) (neg_ℤ (pos x)) ≡ pick b (neg_ℤ (pos x)) (pos x)
minus_sign true x = refl
minus_sign false x = refl

unit_some : (d : ℕ) → d ≤ 6 → 0 < fraction_unit d
unfolding fraction_unit
unit_some = seven (λ d. 0 < 10 ^ (6 - d)) (omega arith) (omega arith) (omega arith) (omega arith) (omega arith) (omega arith) (omega arith)

module _ (k : Kind) (d : ℕ) (s : List ℕ) (l : d ≤ 6) where
  -- u is the fraction f in microseconds
  pub text_parts : (x : Day) (h m n f u p q r : ℕ) (z : Zone)
      → Whole (date_row (dated k)) s 0 (x.year ∷ x.month ∷ x.day ∷ []) p
      → Whole (clock_row (timed k) (dated k) d) s p (h ∷ m ∷ n ∷ f ∷ []) q
      → Whole (offset_row (zoned k)) s q (minus_of z.minus ∷ z.hours ∷ z.minutes ∷ []) r
      → u ≡ f * fraction_unit d → u < 1000000
      → read_text k d s ≡ outcome_of k x m n (micros_of h m n u) z
  unfolding read_text read_fields layout outcome_of numbers_in_range clock_in_range minus_zero text_value offset_of
  text_parts x h m n f u p q r z a b c e t =
      let w = joined _ _ s 0 _ _ p r a (joined _ _ s p _ _ q r b c) in
      rw (le-leb d 6 l, w.fits, w.says, minus_one z.minus, minus_sign z.minus, e, in_day_lem h m n f (fraction_unit d) (rw e at t) (unit_some d l))

  layout-fit : fit (layout k d) s 0
      ≡ both (fit (date_row (dated k)) s 0) (both (fit (clock_row (timed k) (dated k) d) s (widths (date_row (dated k))))
      (fit (offset_row (zoned k)) s (widths (date_row (dated k)) + widths (clock_row (timed k) (dated k) d))))
  unfolding layout
  layout-fit =
      rw (
        fit_append (date_row (dated k)) (clock_row (timed k) (dated k) d ++ offset_row (zoned k)) s 0,
        zero-add,
        fit_append (clock_row (timed k) (dated k) d) (offset_row (zoned k)) s (widths (date_row (dated k))),
      )

  unfit : fit (layout k d) s 0 ≡ false → read_text k d s ≡ refused 6
  unfolding read_text read_fields
  unfit e = rw (le-leb d 6 l, e)

  pub no_date_lem : fit (date_row (dated k)) s 0 ≡ false → read_text k d s ≡ refused 6
  no_date_lem e = unfit (layout-fit ∙ rw e)

  pub no_clock_lem : (p : ℕ) → p ≡ widths (date_row (dated k)) → fit (clock_row (timed k) (dated k) d) s p ≡ false → read_text k d s ≡ refused 6
  no_clock_lem p h e = unfit (layout-fit ∙ rw (rw h at e) (both_false (fit (date_row (dated k)) s 0)))

  pub no_offset : (q : ℕ) → q ≡ widths (date_row (dated k)) + widths (clock_row (timed k) (dated k) d) → fit (offset_row (zoned k)) s q ≡ false → read_text k d s ≡ refused 6
  no_offset q h e =
      let c = fit (clock_row (timed k) (dated k) d) s (widths (date_row (dated k))) in
      unfit (layout-fit ∙ rw (rw h at e, both_false c) (both_false (fit (date_row (dated k)) s 0)))

-- ---- what is answered

text_length_lem : (k : Kind) (d : ℕ) (s : List ℕ) → 6 < d → read_text k d s ≡ refused 5
unfolding read_text
text_length_lem k d s h = rw (lt-leb d 6 h)

module _ (k : Kind) (d : ℕ) (s : List ℕ) (e : d ≡ digits_found k (length s)) where
  pub refused_as : (n : ℕ) → read_text k d s ≡ refused n → refused n ≡ read_as k (text (digits_found k (length s))) s
  unfolding read_in
  refused_as n h = rw (← e, h)

  pub accepted_as : (v : Value) → read_text k d s ≡ accepted v → accepted (record { kind = k; form = text d; value = v }) ≡ read_as k (text (digits_found k (length s))) s
  unfolding read_in
  accepted_as v h = rw (← e, h)

  pub too_many : 6 < d → refused 5 ≡ read_as k (text (digits_found k (length s))) s
  too_many h = refused_as 5 (text_length_lem k d s h)

  pub as_long : d ≤ 6 → length s ≡ text_length k d
  as_long h = sym (rw (← e) at (found_fits k (length s) (rw e at h)))
