-- A text is put part by part: its image is the date's, the clock's and the offset's octets one after another, each none where the kind lacks
-- the part, and runs of stores that follow one another are one run. Assumes nothing.
use Rattle.std.proofs.Common.{◌≡◌, ℕ, ◌+◌, ◌-◌, ◌/◌, ◌%◌, ◌<◌, ◌≤◌, Bool, true, false, eqb, List, [], ◌∷◌, ◌++◌, length, take, drop, set, ℤ, nat_abs, sym, refl, ap, ◌∙◌, append-nil, zero-add, arith, length-append, leb-true}
use lib.Signed.{non_neg}
use lib.Seq.{sets}
use Rattle.format.specs.Words.{pick, if_any}
use Rattle.format.specs.Calendar.{Day, leap, is_day}
use Rattle.format.specs.Digits.{digits_of}
use Rattle.format.specs.Values.{Kind, dated, timed, zoned, Value, time_in_range, offset_in_range}
use Rattle.format.specs.Fields.{Field, put, puts, width, widths}
use Rattle.format.specs.Text.{date_row, clock_row, offset_row, layout, fraction_unit, text_numbers, text_image}
use Rattle.format.proofs.Dates.{parts, short_month}
use Rattle.format.proofs.Clock.{seven}
use Rattle.format.proofs.Fields.{length_digits, put_length, puts_append}
use Rattle.format.proofs.Storing.{sets_then}
use Rattle.octets.specs.Words.{low_octets}
use Rattle.octets.proofs.LowFirst.{length_low, take_low}
use Rattle.text.specs.Putting.{date_octets, clock_octets, offset_octets, year_month_day, hour_minute_second, fraction_field, sign_hour_minute}
use Rattle.text.proofs.Shifting.{over}

-- ---- the image by its parts

pub image_parts : (k : Kind) (d : ℕ) (v : Value)
    → date_octets (dated k) v.date ++ (clock_octets (timed k) (dated k) d v.micros ++ offset_octets (zoned k) v.offset) ≡ text_image k d v
unfolding text_image text_numbers layout date_octets clock_octets offset_octets
image_parts k d v =
    let m = v.micros in
    let s = m / 1000000 in
    let z = zoned k in
    let t = timed k in
    let b = dated k in
    let o = nat_abs v.offset in
    let ds : List ℕ = if_any b v.date.year ∷ if_any b v.date.month ∷ if_any b v.date.day ∷ [] in
    let cs : List ℕ = if_any t (s / 3600) ∷ if_any t (s / 60 % 60) ∷ if_any t (s % 60) ∷ if_any t (m % 1000000 / fraction_unit d) ∷ [] in
    let os : List ℕ = if_any z (pick (non_neg v.offset) 0 1) ∷ if_any z (o / 60) ∷ if_any z (o % 60) ∷ [] in
    ap (λ (r : List ℕ). puts (date_row b) ds ++ r) (sym (puts_append (clock_row t b d) (offset_row z) cs os refl))
    ∙ sym (puts_append (date_row b) (clock_row t b d ++ offset_row z) ds (cs ++ os) refl)

-- a row of numbers, one for each field, is as long as the row is wide
row_length : (fs : List Field) (vs : List ℕ) → length vs ≡ length fs → length (puts fs vs) ≡ widths fs
unfolding puts widths
row_length [] [] h = refl
row_length [] (v ∷ vs) h = refl
row_length (f ∷ fs) [] h = absurd (omega arith)
row_length (f ∷ fs) (v ∷ vs) h = omega (arith, length-append (put f v) (puts fs vs), put_length f v, row_length fs vs (omega arith))

date_length : (b : Bool) (x : Day) → length (date_octets b x) ≡ widths (date_row b)
unfolding date_octets
date_length b x = row_length (date_row b) _ refl

clock_length : (t b : Bool) (d x : ℕ) → length (clock_octets t b d x) ≡ widths (clock_row t b d)
unfolding clock_octets
clock_length t b d x = row_length (clock_row t b d) _ refl

-- the three parts, stored one after another
pub text_stored : (l : List ℕ) (k : Kind) (d : ℕ) (v : Value)
    → sets (sets (sets l 0 (date_octets (dated k) v.date)) (widths (date_row (dated k))) (clock_octets (timed k) (dated k) d v.micros))
    (widths (date_row (dated k)) + widths (clock_row (timed k) (dated k) d)) (offset_octets (zoned k) v.offset)
    ≡ sets l 0 (text_image k d v)
text_stored l k d v =
    let ds = date_octets (dated k) v.date in
    let cs = clock_octets (timed k) (dated k) d v.micros in
    let os = offset_octets (zoned k) v.offset in
    let m = date_length (dated k) v.date in
    let n = clock_length (timed k) (dated k) d v.micros in
    sets_then (sets l 0 ds) (widths (date_row (dated k))) _ cs os (cs ++ os) (ap (λ (w : ℕ). widths (date_row (dated k)) + w) n) refl
    ∙ sets_then l 0 (widths (date_row (dated k))) ds (cs ++ os) (text_image k d v) (zero-add (length ds) ∙ m) (image_parts k d v)

-- ---- the parts, from what is stored in one go

-- a year's century and the year in it
four_digits : (y c r : ℕ) (xs : List ℕ) → c ≡ y / 100 → r ≡ y % 100 → digits_of 2 c ++ (digits_of 2 r ++ xs) ≡ digits_of 4 y ++ xs
unfolding digits_of
four_digits y c r xs p q =
    let a : c / 10 % 10 ≡ y / 10 / 10 / 10 % 10 = omega arith in
    let b : c % 10 ≡ y / 10 / 10 % 10 = omega arith in
    let d : r / 10 % 10 ≡ y / 10 % 10 = omega arith in
    let e : r % 10 ≡ y % 10 = omega arith in
    rw (a, b, d, e)

pub date_stored : (l : List ℕ) (x : Day) (c r : ℕ) → c ≡ x.year / 100 → r ≡ x.year % 100
    → sets (sets l 0 (digits_of 2 c)) 2 (year_month_day r x.month x.day) ≡ sets l 0 (date_octets true x)
date_stored l x c r p q =
    sets_then l 0 2 (digits_of 2 c) (year_month_day r x.month x.day) (date_octets true x) (ap (λ (n : ℕ). 0 + n) (length_digits 2 c)) parts
  where
    m : List ℕ
    m = 45 ∷ (digits_of 2 x.month ++ (45 ∷ digits_of 2 x.day))

    whole : digits_of 4 x.year ++ m ≡ date_octets true x
    whole = unfold date_octets puts put digits_of in refl

    parts : digits_of 2 c ++ year_month_day r x.month x.day ≡ date_octets true x
    parts = unfold year_month_day in four_digits x.year c r m p q ∙ whole

-- a point and d digits of f microseconds of the second, nothing for no digits
unfoldable fraction_octets : ℕ → ℕ → List ℕ
fraction_octets d f = put (fraction_field d) (f / fraction_unit d)

clock_parts : (d x : ℕ) → hour_minute_second (x / 1000000) ++ fraction_octets d (x % 1000000) ≡ clock_octets true false d x
unfolding hour_minute_second clock_octets fraction_octets puts put digits_of
clock_parts d x = simp append-nil

-- of the point and six digits, as many octets as the fraction has
fraction_front : (f d : ℕ) → d ≤ 6 → take (width (fraction_field d)) (46 ∷ digits_of 6 f) ≡ fraction_octets d f
unfolding width fraction_octets put fraction_unit digits_of
fraction_front f =
    let e₁ : f / 100000 ≡ f / 10 / 10 / 10 / 10 / 10 = omega arith in
    let e₂ : f / 10000 ≡ f / 10 / 10 / 10 / 10 = omega arith in
    let e₃ : f / 1000 ≡ f / 10 / 10 / 10 = omega arith in
    let e₄ : f / 100 ≡ f / 10 / 10 = omega arith in
    let e₆ : f / 1 ≡ f = omega arith in
    seven (λ d. take (width (fraction_field d)) (46 ∷ digits_of 6 f) ≡ fraction_octets d f)
    (refl {a = []}) (rw e₁) (rw e₂) (rw e₃) (rw e₄) (refl {a = 46 ∷ digits_of 5 (f / 10)}) (rw e₆)

-- the clock, and then from so far into it on that the store ends with the fraction
pub time_stored : (l : List ℕ) (at d x clock point n : ℕ) → d ≤ 6 → n ≡ width (fraction_field d) → n ≤ 7 → low_octets 8 clock ≡ hour_minute_second (x / 1000000)
    → low_octets 7 point ≡ 46 ∷ digits_of 6 (x % 1000000)
    → sets (sets l at (low_octets 8 clock)) (at + n) (drop n (low_octets 8 clock) ++ low_octets n point) ≡ sets l at (clock_octets true false d x)
time_stored l at d x clock point n h e k c p =
    let a : n + (7 - n) ≡ 7 = omega arith in
    let f : low_octets n point ≡ fraction_octets d (x % 1000000) = sym (take_low n (7 - n) point) ∙ rw (a, p, e) (fraction_front (x % 1000000) d h) in
    let g : low_octets 8 clock ++ low_octets n point ≡ clock_octets true false d x = rw (c, f) (clock_parts d x) in
    over l at n (low_octets 8 clock) (low_octets n point) (omega (arith, length_low 8 clock)) ∙ ap (sets l at) g

-- `T`, and the time behind it
pub joint_stored : (l : List ℕ) (at d x : ℕ) → sets (set l at 84) (at + 1) (clock_octets true false d x) ≡ sets l at (clock_octets true true d x)
joint_stored l at d x = sets_then l at (at + 1) (84 ∷ []) (clock_octets true false d x) (clock_octets true true d x) refl parts
  where
    parts : 84 ∷ clock_octets true false d x ≡ clock_octets true true d x
    parts = unfold clock_octets puts put in refl

pub offset_parts : (m : ℤ) → sign_hour_minute m (nat_abs m) ≡ offset_octets true m
unfolding sign_hour_minute offset_octets puts put digits_of
offset_parts m = rw (mark (non_neg m))
  where
    mark : (b : Bool) → ◌≡◌ {A = ℕ} (pick (eqb (pick b 0 1) 0) 43 45) (pick b 43 45)
    mark true = refl
    mark false = refl

-- ---- what the parts in range are below

pub date_small : (x : Day) → is_day x ≡ true → (x.year < 10000) × (x.month < 100) × (x.day < 100)
date_small x e =
    let p = parts x e in
    (omega (arith, p.year_high), omega (arith, p.month_high), omega (arith, p.day_high, short_month (leap x.year) (x.month - 1)))

pub time_small : (x : ℕ) → time_in_range x ≡ true → x ≤ 86400000000
unfolding time_in_range
time_small x e = leb-true _ _ e

pub offset_small : (m : ℤ) → offset_in_range m ≡ true → nat_abs m ≤ 1439
unfolding offset_in_range
offset_small m e = leb-true _ _ e
