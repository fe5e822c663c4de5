-- The text form, over the kind's flags and the number of digits: an image has its length and reads as what the form keeps;
-- what reads is the image of what was read. Assumes nothing.
use mathlib.Core.Path.{◌≡◌, refl, sym, ◌∙◌}
use mathlib.Core.Logic.{⊎_elim}
use mathlib.Core.Bool.{Bool, true, false, not}
use mathlib.Core.List.{List, [], ◌∷◌}
use Prim.Native.Nat.{ℕ, zero, suc, ◌+◌, ◌-◌, ◌*◌, ◌/◌, ◌%◌, ◌^◌, ◌<◌, ◌≤◌}
use native.Mathlib.Nat.{zero-mul, zero-add, zero-div, one-le-pow}
use native.Mathlib.Omega.{arith}
use lib.IntN.{ℤ, pos, negsuc, nat_abs}
use lib.Signed.{non_neg}
use lib.Dec.{leb, eqb}
use lib.ListN.{length}
use borrow.Author.Tests.{le-leb, lt-leb, leb-true, eqb-true, eq-eqb, ne_eqb, not-true}
use Rattle.format.specs.Words.{pick, both, either, needs, if_any, accepted}
use Rattle.format.specs.Calendar.{Day, no_date, leap, is_day}
use Rattle.format.specs.Values.{Kind, dated, timed, zoned, Value, time_in_range, offset_in_range, in_range, text}
use Rattle.format.specs.Fields.{Field, digits, after, sign, when, widths, fit, says}
use Rattle.format.specs.Text.{layout, text_length, fraction_unit, text_numbers, text_image}
use Rattle.format.specs.TextReading.{Numbers, named, minus_zero, clock_in_range, day_named, numbers_in_range, text_value, read_fields}
use Rattle.format.specs.Keeping.{own, down, cut}
use Rattle.format.proofs.Cases.{both_true, both_false, eq_or_ne, lt_or_le, passed, same, never}
use Rattle.format.proofs.Dates.{Parts, parts, short_month}
use Rattle.format.proofs.Fields.{bound, Within, puts_length, row_back, row_again}
use Rattle.format.proofs.Clock.{fraction_small, fraction_cut, Parts as Whole, fraction_back, clock_sum, clock_back, signed, signed_abs, abs_signed, sign_signed}

-- ---- a field where the kind has it

pub when_small : (b : Bool) (f : Field) (v : ℕ) → (b ≡ true → v < bound f) → if_any b v < bound (when b f)
unfolding bound
when_small true f v h = h refl
when_small false f v h = omega arith

pub when_any : (b : Bool) (f : Field) (v : ℕ) → v < bound (when b f) → if_any b v ≡ v
unfolding bound
when_any true f v h = refl
when_any false f v h = omega arith

needed : (b t : Bool) → needs b t ≡ true → b ≡ true → t ≡ true
needed true t e p = e
needed false t e p = never p

-- ---- what is in range

pub record InRange (k : Kind) (v : Value) : Type 0 where
  pub date : needs (dated k) (is_day v.date) ≡ true
  pub time : needs (timed k) (time_in_range v.micros) ≡ true
  pub offset : needs (zoned k) (offset_in_range v.offset) ≡ true

pub in_range_lem : (k : Kind) (v : Value) → in_range k v ≡ true → InRange k v
unfolding in_range
in_range_lem k v e =
    let a = both_true (needs (dated k) (is_day v.date)) _ e in
    let b = both_true (needs (timed k) (time_in_range v.micros)) _ a.1 in
    record { date = a.0; time = b.0; offset = b.1 }

pub range_in : (k : Kind) (v : Value) → InRange k v → in_range k v ≡ true
unfolding in_range
range_in k v r = rw (r.date, r.time, r.offset)

pub micros_small : (k : Kind) (v : Value) → InRange k v → timed k ≡ true → v.micros ≤ 86400000000
unfolding time_in_range
micros_small k v r t = leb-true _ _ (needed (timed k) _ r.time t)

pub offset_small : (k : Kind) (v : Value) → InRange k v → zoned k ≡ true → nat_abs v.offset ≤ 1439
unfolding offset_in_range
offset_small k v r t = leb-true _ _ (needed (zoned k) _ r.offset t)

pub date_good : (k : Kind) (v : Value) → InRange k v → dated k ≡ true → Parts v.date
date_good k v r t = parts v.date (needed (dated k) _ r.date t)

-- ---- the ten numbers fit their fields

hour_small : (t b : Bool) (v : ℕ) → (t ≡ true → v < 100) → if_any t v < bound (when t (pick b (after 84 2) (digits 2)))
unfolding bound
hour_small true true v h = h refl
hour_small true false v h = h refl
hour_small false true v h = omega arith
hour_small false false v h = omega arith

part_small : (t : Bool) (x d : ℕ) → d ≤ 6 → if_any t (x % 1000000 / fraction_unit d) < bound (when (both t (not (eqb d 0))) (after 46 d))
unfolding bound fraction_unit
part_small false x d h = omega arith
part_small true x zero h = omega arith
part_small true x (suc d) h = rw (ne_eqb (suc d) 0 (omega arith)) (fraction_small x (suc d) h)

bit_small : (b t : Bool) → if_any b (pick t 0 1) < bound (when b sign)
unfolding bound
bit_small true true = omega arith
bit_small true false = omega arith
bit_small false t = omega arith

pub within : (k : Kind) (d : ℕ) (v : Value) → InRange k v → d ≤ 6 → Within (layout k d) (text_numbers k d v)
unfolding layout text_numbers bound
within k d v r h = (
  when_small (dated k) (digits 4) v.date.year (λ t. omega (arith, (date_good k v r t).year_high)),
  (
    when_small (dated k) (after 45 2) v.date.month (λ t. omega (arith, (date_good k v r t).month_high)),
    (
      when_small (dated k) (after 45 2) v.date.day (λ t. omega (arith, (date_good k v r t).day_high, short_month (leap v.date.year) (v.date.month - 1))),
      (
        hour_small (timed k) (dated k) (v.micros / 1000000 / 3600) (λ t. omega (arith, micros_small k v r t)),
        (
          when_small (timed k) (after 58 2) (v.micros / 1000000 / 60 % 60) (λ t. omega arith),
          (
            when_small (timed k) (after 58 2) (v.micros / 1000000 % 60) (λ t. omega arith),
            (
              part_small (timed k) v.micros d h,
              (
                bit_small (zoned k) (non_neg v.offset),
                (
                  when_small (zoned k) (digits 2) (nat_abs v.offset / 60) (λ t. omega (arith, offset_small k v r t)),
                  (
                    when_small (zoned k) (after 58 2) (nat_abs v.offset % 60) (λ t. omega arith),
                    tt,
                  ),
                ),
              ),
            ),
          ),
        ),
      ),
    ),
  ),
)

-- an image has its length
pub text_length_lem : (k : Kind) (d : ℕ) (v : Value) → in_range k v ≡ true → d ≤ 6 → length (text_image k d v) ≡ text_length k d
unfolding text_image text_length
text_length_lem k d v e h = puts_length (layout k d) (text_numbers k d v) (within k d v (in_range_lem k v e) h)

-- ---- an image reads as what the form keeps

no_minus_zero : (b : Bool) (x : ℤ) → both (eqb (if_any b (pick (non_neg x) 0 1)) 1) (both (eqb (if_any b (nat_abs x / 60)) 0) (eqb (if_any b (nat_abs x % 60)) 0)) ≡ false
no_minus_zero false x = refl
no_minus_zero true (pos a) = refl
no_minus_zero true (negsuc a) =
    ⊎_elim (λ p. ⊎_elim (λ q. absurd (omega arith)) (λ q. rw (ne_eqb (suc a % 60) 0 q) (both_false (eqb (suc a / 60) 0))) (eq_or_ne (suc a % 60) 0))
    (λ p. rw (ne_eqb (suc a / 60) 0 p))
    (eq_or_ne (suc a / 60) 0)

clock_good : (t : Bool) (x d : ℕ) → d ≤ 6 → (t ≡ true → x ≤ 86400000000)
    → both (leb (if_any t (x / 1000000 / 60 % 60)) 59) (both (leb (if_any t (x / 1000000 % 60)) 59)
    (either (leb (if_any t (x / 1000000 / 3600)) 23)
    (both (eqb (if_any t (x / 1000000 / 3600)) 24) (both (eqb (if_any t (x / 1000000 / 60 % 60)) 0) (both (eqb (if_any t (x / 1000000 % 60)) 0) (eqb (if_any t (x % 1000000 / fraction_unit d)) 0)))))) ≡ true
clock_good false x d h l = refl
clock_good true x d h l =
    ⊎_elim (λ p. rw (le-leb (x / 1000000 / 60 % 60) 59 (omega arith), le-leb (x / 1000000 % 60) 59 (omega arith), le-leb (x / 1000000 / 3600) 23 (omega arith)))
    (λ p. let e : x ≡ 86400000000 = omega (arith, l refl) in rw e (midnight d))
    (lt_or_le x 86400000000)
  where
    midnight : (d : ℕ) → eqb (0 / fraction_unit d) 0 ≡ true
    midnight d = rw (zero-div (fraction_unit d))

pub offset_good : (b : Bool) (x : ℤ) → (b ≡ true → nat_abs x ≤ 1439) → both (leb (if_any b (nat_abs x / 60)) 23) (leb (if_any b (nat_abs x % 60)) 59) ≡ true
offset_good false x l = refl
offset_good true x l = rw (le-leb (nat_abs x / 60) 23 (omega (arith, l refl)), le-leb (nat_abs x % 60) 59 (omega arith))

date_kept : (b : Bool) (x : Day) → record { year = if_any b x.year; month = if_any b x.month; day = if_any b x.day } ≡ pick b x no_date
date_kept true x = refl
date_kept false x = refl

micros_kept : (t : Bool) (x d : ℕ) → d ≤ 6
    → (if_any t (x / 1000000 / 3600) * 3600 + if_any t (x / 1000000 / 60 % 60) * 60 + if_any t (x / 1000000 % 60)) * 1000000
    + if_any t (x % 1000000 / fraction_unit d) * fraction_unit d
    ≡ if_any t (down (fraction_unit d) x)
unfolding down
micros_kept false x d h = rw (zero-mul (fraction_unit d))
micros_kept true x d h = rw (clock_sum (x / 1000000)) (fraction_cut x d h)

offset_kept : (b : Bool) (x : ℤ) → signed (if_any b (pick (non_neg x) 0 1)) (if_any b (nat_abs x / 60) * 60 + if_any b (nat_abs x % 60)) ≡ pick b x (pos 0)
offset_kept true x = signed_abs x
offset_kept false x = refl

pub text_kept : (k : Kind) (d : ℕ) (v : Value) → d ≤ 6 → text_value d (named (text_numbers k d v)) ≡ cut k (text d) v
unfolding text_value text_numbers cut own
text_kept k d v h =
    rw (date_kept (dated k) v.date, micros_kept (timed k) v.micros d h, offset_kept (zoned k) v.offset)

numbers_good : (k : Kind) (d : ℕ) (v : Value) → InRange k v → d ≤ 6 → numbers_in_range k (named (text_numbers k d v)) ≡ true
unfolding numbers_in_range clock_in_range text_numbers
numbers_good k d v r h =
    rw (day-good (dated k) v.date r.date, clock_good (timed k) v.micros d h (micros_small k v r), offset_good (zoned k) v.offset (offset_small k v r))
  where
    day-good : (b : Bool) (x : Day) → needs b (is_day x) ≡ true → needs b (is_day (record { year = if_any b x.year; month = if_any b x.month; day = if_any b x.day })) ≡ true
    day-good true x e = e
    day-good false x e = refl

not_minus : (k : Kind) (d : ℕ) (v : Value) → minus_zero (named (text_numbers k d v)) ≡ false
unfolding minus_zero text_numbers
not_minus k d v = no_minus_zero (zoned k) v.offset

pub text_reads : (k : Kind) (d : ℕ) (v : Value) → in_range k v ≡ true → d ≤ 6 → read_fields k d (text_image k d v) ≡ accepted (cut k (text d) v)
unfolding read_fields text_image
text_reads k d v e h =
    let r = in_range_lem k v e in
    let b = row_back (layout k d) (text_numbers k d v) (text_image k d v) 0 (within k d v r h) refl in
    rw (b.fits, b.says, not_minus k d v, numbers_good k d v r h, text_kept k d v h)

-- ---- what reads is the image of what was read

abbrev pub listed : Numbers → List ℕ
listed n =
    n.year ∷ n.month ∷ n.day ∷ n.hour ∷ n.minute ∷ n.second ∷ n.fraction ∷ n.minus ∷ n.hours ∷ n.minutes ∷ []

-- the ten numbers read, in range, one by one
record Good (k : Kind) (d : ℕ) (n : Numbers) : Type 0 where
  date : needs (dated k) (is_day (day_named n)) ≡ true
  minute : n.minute ≤ 59
  second : n.second ≤ 59
  top : (n.hour * 3600 + n.minute * 60 + n.second) * 1000000 + n.fraction * fraction_unit d ≤ 86400000000
  hours : n.hours ≤ 23
  minutes : n.minutes ≤ 59

topped : (h m s f u : ℕ) → f * u < 1000000 → m ≤ 59 → s ≤ 59
    → either (leb h 23) (both (eqb h 24) (both (eqb m 0) (both (eqb s 0) (eqb f 0)))) ≡ true → (h * 3600 + m * 60 + s) * 1000000 + f * u ≤ 86400000000
topped h m s f u b p q e =
    ⊎_elim (λ t. omega arith)
    (λ t. let x = both_true (eqb h 24) _ (last e t) in
    let y = both_true (eqb m 0) _ x.1 in
    let z = both_true (eqb s 0) _ y.1 in
    let h24 : h ≡ 24 = eqb-true _ _ x.0 in
    let m0 : m ≡ 0 = eqb-true _ _ y.0 in
    let s0 : s ≡ 0 = eqb-true _ _ z.0 in
    let f0 : f ≡ 0 = eqb-true _ _ z.1 in
    rw (h24, m0, s0, f0, zero-mul u) (omega arith))
    (lt_or_le h 24)
  where
    last : either (leb h 23) (both (eqb h 24) (both (eqb m 0) (both (eqb s 0) (eqb f 0)))) ≡ true → 24 ≤ h → both (eqb h 24) (both (eqb m 0) (both (eqb s 0) (eqb f 0))) ≡ true
    last e t = rw (lt-leb h 23 t) at e

good : (k : Kind) (d : ℕ) (n : Numbers) → n.fraction * fraction_unit d < 1000000 → numbers_in_range k n ≡ true → Good k d n
unfolding numbers_in_range clock_in_range
good k d n b e =
    let a = both_true (needs (dated k) (is_day (day_named n))) _ e in
    let c = both_true (clock_in_range n) _ a.1 in
    let m = both_true (leb n.minute 59) _ c.0 in
    let s = both_true (leb n.second 59) _ m.1 in
    let o = both_true (leb n.hours 23) _ c.1 in
    let p : n.minute ≤ 59 = leb-true _ _ m.0 in
    let q : n.second ≤ 59 = leb-true _ _ s.0 in
    record {
      date = a.0;
      minute = p;
      second = q;
      top = topped n.hour n.minute n.second n.fraction (fraction_unit d) b p q s.1;
      hours = leb-true _ _ o.0;
      minutes = leb-true _ _ o.1;
    }

part_bound : (t : Bool) (d f : ℕ) → f < bound (when (both t (not (eqb d 0))) (after 46 d)) → f < 10 ^ d
unfolding bound
part_bound false d f h = omega (arith, one-le-pow d 10 (omega arith))
part_bound true zero f h = h
part_bound true (suc d) f h = rw (ne_eqb (suc d) 0 (omega arith)) at h

part_any : (t : Bool) (d f : ℕ) → f < bound (when (both t (not (eqb d 0))) (after 46 d)) → if_any t f ≡ f
unfolding bound
part_any false d f h = omega arith
part_any true d f h = refl

bit_bound : (b : Bool) (g : ℕ) → g < bound (when b sign) → g < 2
unfolding bound
bit_bound true g h = h
bit_bound false g h = omega arith

pub needs_true : (b : Bool) → needs b true ≡ true
needs_true true = refl
needs_true false = refl

module _ (k : Kind) (d : ℕ) (n : Numbers) (h : d ≤ 6) (w : Within (layout k d) (listed n)) (z : minus_zero n ≡ false) (e : numbers_in_range k n ≡ true) where
  whole : Whole (n.hour * 3600 + n.minute * 60 + n.second) n.fraction d
  unfolding layout
  whole = fraction_back (n.hour * 3600 + n.minute * 60 + n.second) n.fraction d h (part_bound (timed k) d n.fraction w.1.1.1.1.1.1.0)

  goods : Good k d n
  goods = good k d n whole.below e

  not-zero : n.minus ≡ 1 → n.hours * 60 + n.minutes ≡ 0 → ⊥
  unfolding minus_zero
  not-zero p q =
      let a : n.hours ≡ 0 = omega arith in
      let b : n.minutes ≡ 0 = omega arith in
      let t : ◌≡◌ {A = Bool} true false = rw (eq-eqb _ _ p, eq-eqb _ _ a, eq-eqb _ _ b) at z in
      let y : ◌≡◌ {A = ℕ} 0 1 = cc in omega arith

  pub text_range : InRange k (text_value d n)
  unfolding text_value time_in_range offset_in_range
  text_range =
      record {
        date = goods.date;
        time = rw (le-leb _ _ goods.top) (needs_true (timed k));
        offset = rw (abs_signed n.minus (n.hours * 60 + n.minutes), le-leb (n.hours * 60 + n.minutes) 1439 (omega (arith, goods.hours, goods.minutes))) (needs_true (zoned k));
      }

  pub text_again : text_numbers k d (text_value d n) ≡ listed n
  unfolding text_value text_numbers layout
  text_again =
      let c = clock_back n.hour n.minute n.second goods.minute goods.second in
      let oh : (n.hours * 60 + n.minutes) / 60 ≡ n.hours = omega (arith, goods.minutes) in
      let om : (n.hours * 60 + n.minutes) % 60 ≡ n.minutes = omega (arith, goods.minutes) in
      rw (
        whole.seconds,
        whole.fraction,
        c.hour,
        c.minute,
        c.second,
        sign_signed n.minus (n.hours * 60 + n.minutes) (bit_bound (zoned k) n.minus w.1.1.1.1.1.1.1.0) not-zero,
        abs_signed n.minus (n.hours * 60 + n.minutes),
        oh,
        om,
        when_any (dated k) (digits 4) n.year w.0,
        when_any (dated k) (after 45 2) n.month w.1.0,
        when_any (dated k) (after 45 2) n.day w.1.1.0,
        when_any (timed k) (pick (dated k) (after 84 2) (digits 2)) n.hour w.1.1.1.0,
        when_any (timed k) (after 58 2) n.minute w.1.1.1.1.0,
        when_any (timed k) (after 58 2) n.second w.1.1.1.1.1.0,
        part_any (timed k) d n.fraction w.1.1.1.1.1.1.0,
        when_any (zoned k) sign n.minus w.1.1.1.1.1.1.1.0,
        when_any (zoned k) (digits 2) n.hours w.1.1.1.1.1.1.1.1.0,
        when_any (zoned k) (after 58 2) n.minutes w.1.1.1.1.1.1.1.1.1.0,
      )

-- the ten numbers of a row are listed by their names
named_says : (k : Kind) (d : ℕ) (s : List ℕ) → listed (named (says (layout k d) s 0)) ≡ says (layout k d) s 0
unfolding says layout
named_says k d s = refl

pub record FromText (k : Kind) (d : ℕ) (s : List ℕ) (v : Value) : Type 0 where
  pub range : in_range k v ≡ true
  pub image : text_image k d v ≡ s

pub text_from : (k : Kind) (d : ℕ) (s : List ℕ) (v : Value) → d ≤ 6 → length s ≡ text_length k d → read_fields k d s ≡ accepted v → FromText k d s v
unfolding read_fields text_length text_image
text_from k d s v h l e =
    let n = named (says (layout k d) s 0) in
    let a = passed (fit (layout k d) s 0) 6 _ v e in
    let b = passed (not (minus_zero n)) 7 _ v a.1 in
    let c = passed (numbers_in_range k n) 8 _ v b.1 in
    let r = row_again (layout k d) s 0 (zero-add (widths (layout k d)) ∙ sym l) a.0 in
    let w : Within (layout k d) (listed n) = rw (named_says k d s) r.small in
    let z = not-true (minus_zero n) b.0 in
    let q : text_value d n ≡ v = same c.1 in
    record {
      range = rw (← q) (range_in k (text_value d n) (text_range k d n h w z c.0));
      image = rw (← q, text_again k d n h w z c.0, named_says k d s) r.same;
    }
