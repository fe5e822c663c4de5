-- Images are octets, 1 to 32 of them; refusals have their numbers. Assumes nothing.
use mathlib.Core.Path.{◌≡◌, ap}
use mathlib.Core.Bool.{Bool, true, false, not}
use mathlib.Core.List.{List, [], ◌∷◌, ◌++◌}
use Prim.Native.Nat.{ℕ, zero, suc, ◌+◌, ◌/◌, ◌%◌, ◌^◌, ◌<◌, ◌≤◌}
use native.Mathlib.Omega.{arith}
use lib.IntN.{ℤ}
use lib.Dec.{leb, eqb}
use lib.ListN.{length, take, drop}
use borrow.Author.Tests.{leb-true}
use Rattle.format.specs.Words.{pick, both, either, if_any, Outcome, accepted, refused, unless}
use Rattle.format.specs.Floor.{div_f, mod_f}
use Rattle.format.specs.Octets.{Octets, signed_octets, signed_of, unsigned_octets, unsigned_at}
use Rattle.format.specs.Values.{Kind, Date, DateTz, Time, TimeTz, Datetime, DatetimeTz, dated, timed, zoned, Value, time_in_range, offset_in_range, in_range, Settings, Form, text, compact, extended}
use Rattle.format.specs.Choice.{form_for, kind_has}
use Rattle.format.specs.Digits.{digits_of}
use Rattle.format.specs.Fields.{Field, digits, after, sign, absent, when, width, put, widths, puts, fit, says}
use Rattle.format.specs.Text.{layout, text_length, text_numbers, text_image}
use Rattle.format.specs.TextReading.{named, minus_zero, numbers_in_range, text_value, read_fields, read_text}
use Rattle.format.specs.Compact.{number, compact_image, start}
use Rattle.format.specs.CompactReading.{longest_plain, longest, shortest, carried_in, counted, number_in_range, usual, compact_value, read_number, read_compact}
use Rattle.format.specs.Extended.{day_width, extended_image, offset_from, extended_value, read_extended}
use Rattle.format.specs.Writing.{image_in, has_form, encode}
use Rattle.format.specs.Reading.{form_in, read_in, answer, read}
use Rattle.format.proofs.Cases.{at_most}
use Rattle.format.proofs.Floor.{mod_lt_256}
use Rattle.format.proofs.Clock.{seven}
use Rattle.format.proofs.Text.{text_length_lem}
use Rattle.format.proofs.Extended.{extended_length}
use Rattle.format.proofs.Compact.{compact_seen}

-- ---- octets

none : Octets []
none i = omega arith

cons : (x : ℕ) (xs : List ℕ) → x < 256 → Octets xs → Octets (x ∷ xs)
cons x xs h o zero = h
cons x xs h o (suc i) = o i

pub joined : (xs ys : List ℕ) → Octets xs → Octets ys → Octets (xs ++ ys)
joined [] ys a b = b
joined (x ∷ xs) ys a b = cons x (xs ++ ys) (a 0) (joined xs ys (λ i. a (suc i)) b)

digit_octets : (n v : ℕ) → Octets (digits_of n v)
unfolding digits_of
digit_octets zero v = none
digit_octets (suc n) v = joined (digits_of n (v / 10)) ((48 + v % 10) ∷ []) (digit_octets n (v / 10)) (cons (48 + v % 10) [] (omega arith) none)

unsigned_octets_lem : (n v : ℕ) → Octets (unsigned_octets n v)
unfolding unsigned_octets
unsigned_octets_lem zero v = none
unsigned_octets_lem (suc n) v = joined (unsigned_octets n (v / 256)) ((v % 256) ∷ []) (unsigned_octets_lem n (v / 256)) (cons (v % 256) [] (omega arith) none)

signed_octets_lem : (n : ℕ) (x : ℤ) → Octets (signed_octets n x)
unfolding signed_octets
signed_octets_lem zero x = none
signed_octets_lem (suc n) x = cons (mod_f (div_f x (256 ^ n)) 256) (signed_octets n x) (mod_lt_256 (div_f x (256 ^ n))) (signed_octets_lem n x)

-- separators are octets
abbrev Marked : Field → Type 0
Marked (digits n) = Unit {0}
Marked (after c n) = c < 256
Marked sign = Unit {0}
Marked absent = Unit {0}

put_octets : (f : Field) (v : ℕ) → Marked f → Octets (put f v)
unfolding put
put_octets (digits n) v m = digit_octets n v
put_octets (after c n) v m = cons c (digits_of n v) m (digit_octets n v)
put_octets sign v m = go (eqb v 0)
  where
    go : (b : Bool) → Octets (pick b 43 45 ∷ [])
    go true = cons 43 [] (omega arith) none
    go false = cons 45 [] (omega arith) none
put_octets absent v m = none

abbrev AllMarked : List Field → Type 0
AllMarked [] = Unit {0}
AllMarked (f ∷ fs) = Marked f × AllMarked fs

puts_octets : (fs : List Field) (vs : List ℕ) → AllMarked fs → Octets (puts fs vs)
unfolding puts
puts_octets [] vs m = none
puts_octets (f ∷ fs) [] m = none
puts_octets (f ∷ fs) (v ∷ vs) m = joined (put f v) (puts fs vs) (put_octets f v m.0) (puts_octets fs vs m.1)

marked : (b : Bool) (f : Field) → Marked f → Marked (when b f)
marked true f m = m
marked false f m = tt

layout_marked : (k : Kind) (d : ℕ) → AllMarked (layout k d)
unfolding layout
layout_marked k d = (
  marked (dated k) (digits 4) tt,
  (
    marked (dated k) (after 45 2) (omega arith),
    (
      marked (dated k) (after 45 2) (omega arith),
      (
        marked (timed k) (pick (dated k) (after 84 2) (digits 2)) (hour (dated k)),
        (
          marked (timed k) (after 58 2) (omega arith),
          (
            marked (timed k) (after 58 2) (omega arith),
            (
              marked (both (timed k) (not (eqb d 0))) (after 46 d) (omega arith),
              (marked (zoned k) sign tt, (marked (zoned k) (digits 2) tt, (marked (zoned k) (after 58 2) (omega arith), tt))),
            ),
          ),
        ),
      ),
    ),
  ),
)
  where
    hour : (b : Bool) → Marked (pick b (after 84 2) (digits 2))
    hour true = omega arith
    hour false = tt

pub image_octets_lem : (k : Kind) (f : Form) (v : Value) → Octets (image_in k f v)
unfolding image_in text_image compact_image extended_image
image_octets_lem k (text d) v = puts_octets (layout k d) (text_numbers k d v) (layout_marked k d)
image_octets_lem k compact v = joined (signed_octets _ v.offset) (signed_octets _ (number k v)) (signed_octets_lem _ v.offset) (signed_octets_lem _ (number k v))
image_octets_lem k extended v =
    joined (unsigned_octets 2 _) _ (unsigned_octets_lem 2 _) (joined (unsigned_octets (day_width k) _) (unsigned_octets 5 v.micros) (unsigned_octets_lem (day_width k) _) (unsigned_octets_lem 5 v.micros))

-- ---- lengths

abbrev pub Size : ℕ → Type 0
Size n = (1 ≤ n) × (n ≤ 32)

text_size : (k : Kind) (d : ℕ) → d ≤ 6 → Size (text_length k d)
unfolding text_length layout widths width
text_size Date d h = omega arith
text_size DateTz d h = omega arith
text_size Time d h = seven (λ d. Size (text_length Time d)) (omega arith) (omega arith) (omega arith) (omega arith) (omega arith) (omega arith) (omega arith) d h
text_size TimeTz d h = seven (λ d. Size (text_length TimeTz d)) (omega arith) (omega arith) (omega arith) (omega arith) (omega arith) (omega arith) (omega arith) d h
text_size Datetime d h = seven (λ d. Size (text_length Datetime d)) (omega arith) (omega arith) (omega arith) (omega arith) (omega arith) (omega arith) (omega arith) d h
text_size DatetimeTz d h = seven (λ d. Size (text_length DatetimeTz d)) (omega arith) (omega arith) (omega arith) (omega arith) (omega arith) (omega arith) (omega arith) d h

compact_size : (k : Kind) (n : ℕ) → shortest k ≤ n → n ≤ longest k → Size n
unfolding shortest longest_plain
compact_size Date n a b = omega arith
compact_size DateTz n a b = omega arith
compact_size Time n a b = omega arith
compact_size TimeTz n a b = omega arith
compact_size Datetime n a b = omega arith
compact_size DatetimeTz n a b = omega arith

extended_size : (k : Kind) → Size (7 + day_width k)
unfolding day_width
extended_size k = go (dated k)
  where
    go : (b : Bool) → Size (7 + if_any b 3)
    go true = omega arith
    go false = omega arith

pub image_size : (k : Kind) (f : Form) (v : Value) → in_range k v ≡ true → kind_has k f ≡ true → has_form k f v ≡ true → Size (length (image_in k f v))
unfolding image_in kind_has has_form
image_size k (text d) v r h g = let l = at_most (timed k) d (leb-true _ _ h) in rw (text_length_lem k d v r l) (text_size k d l)
image_size k compact v r h g = let s = compact_seen k v g in compact_size k (length (compact_image k v)) s.short s.long
image_size k extended v r h g = rw (extended_length k v) (extended_size k)

-- ---- refusals

never : {A B : Type 0} {a : A} {n : ℕ} → ◌≡◌ {A = Outcome A} (accepted a) (refused n) → B
never e = absurd (let z : ◌≡◌ {A = ℕ} 0 1 = cc in omega arith)

number_is : {A : Type 0} {m n : ℕ} → ◌≡◌ {A = Outcome A} (refused m) (refused n) → m ≡ n
number_is e = cc

abbrev pub Writers : ℕ → Type 0
Writers n = (1 ≤ n) × (n ≤ 3)

abbrev pub Readers : ℕ → Type 0
Readers n = (5 ≤ n) × (n ≤ 8)

-- a refusal is that of the first test, or of what comes after it
stopped : {A : Type 0} (P : ℕ → Type 0) (b : Bool) (m : ℕ) (o : Outcome A) (n : ℕ) → P m → (o ≡ refused n → P n) → unless b m o ≡ refused n → P n
stopped P true m o n p f e = f e
stopped P false m o n p f e = rw (number_is e) at p

pub write_numbers : (k : Kind) (t : Settings) (v : Value) (n : ℕ) → encode k t v ≡ refused n → Writers n
unfolding encode
write_numbers k t v n e =
    let o₃ : Outcome (List ℕ) = accepted (image_in k (form_for k t v) v) in
    let o₂ : Outcome (List ℕ) = unless (has_form k (form_for k t v) v) 3 o₃ in
    let o₁ : Outcome (List ℕ) = unless (in_range k v) 2 o₂ in
    stopped Writers (leb t.digits 6) 1 o₁ n (omega arith)
    (stopped Writers (in_range k v) 2 o₂ n (omega arith)
    (stopped Writers (has_form k (form_for k t v) v) 3 o₃ n (omega arith) (λ e. never e))) e

-- each form's tests, as they stand
fields_numbers : (k : Kind) (d : ℕ) (s : List ℕ) (n : ℕ) → read_text k d s ≡ refused n → Readers n
unfolding read_text read_fields
fields_numbers k d s n e =
    let ns = named (says (layout k d) s 0) in
    let o₃ : Outcome Value = unless (numbers_in_range k ns) 8 (accepted (text_value d ns)) in
    let o₂ : Outcome Value = unless (not (minus_zero ns)) 7 o₃ in
    stopped Readers (leb d 6) 5 (read_fields k d s) n (omega arith)
    (stopped Readers (fit (layout k d) s 0) 6 o₂ n (omega arith)
    (stopped Readers (not (minus_zero ns)) 7 o₃ n (omega arith)
    (stopped Readers (numbers_in_range k ns) 8 (accepted (text_value d ns)) n (omega arith) (λ e. never e)))) e

compact_numbers : (k : Kind) (s : List ℕ) (n : ℕ) → read_compact k s ≡ refused n → Readers n
unfolding read_compact read_number
compact_numbers k s n e =
    let c = carried_in k (length s) in
    let o = signed_of (take (if_any c 2) s) in
    let xs = drop (if_any c 2) s in
    let x = signed_of xs in
    let a₇ : Bool = usual k c o (length xs) x in
    let a₈ : Bool = both (offset_in_range o) (number_in_range k c x) in
    let v = compact_value k (counted (start k) x) o in
    stopped Readers (both (leb (shortest k) (length s)) (leb (length s) (longest k))) 5 (read_number k c s) n (omega arith)
    (stopped Readers a₇ 7 (unless a₈ 8 (accepted v)) n (omega arith)
    (stopped Readers a₈ 8 (accepted v) n (omega arith) (λ e. never e))) e

extended_numbers : (k : Kind) (s : List ℕ) (n : ℕ) → read_extended k s ≡ refused n → Readers n
unfolding read_extended
extended_numbers k s n e =
    let b = unsigned_at s 0 2 % 4096 in
    let d = unsigned_at s 2 (day_width k) in
    let m = unsigned_at s (2 + day_width k) 5 in
    let a₈ : Bool = both (offset_in_range (offset_from b)) (both (leb d 3652058) (time_in_range m)) in
    let o₂ : Outcome Value = unless a₈ 8 (accepted (extended_value k b d m)) in
    stopped Readers (eqb (length s) (7 + day_width k)) 5 (unless (either (zoned k) (eqb b 0)) 6 o₂) n (omega arith)
    (stopped Readers (either (zoned k) (eqb b 0)) 6 o₂ n (omega arith)
    (stopped Readers a₈ 8 (accepted (extended_value k b d m)) n (omega arith) (λ e. never e))) e

in_numbers : (k : Kind) (f : Form) (s : List ℕ) (n : ℕ) → read_in k f s ≡ refused n → Readers n
unfolding read_in
in_numbers k (text d) s n e = fields_numbers k d s n e
in_numbers k compact s n e = compact_numbers k s n e
in_numbers k extended s n e = extended_numbers k s n e

pub read_numbers : (k : Kind) (s : List ℕ) (n : ℕ) → read k s ≡ refused n → Readers n
unfolding read
read_numbers k s n e = in_numbers k (form_in k s) s n (closed k (form_in k s) (read_in k (form_in k s) s) e)
  where
    closed : (k : Kind) (f : Form) (r : Outcome Value) → answer k f r ≡ refused n → r ≡ refused n
    closed k f (accepted v) e = never e
    closed k f (refused m) e = ap refused (number_is e)
