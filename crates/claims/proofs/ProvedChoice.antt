-- The kind that an either-or reader chooses, in the documents' own numbers, and what request 1 of document 02 moved. Assumes nothing.
use Prim.Native.Nat.{ℕ, ◌+◌, ◌*◌, ◌/◌, ◌<◌, ◌≤◌}
use native.Mathlib.Omega.{arith}
use mathlib.Core.Path.{◌≡◌, refl, sym, ◌∙◌, ap}
use mathlib.Core.Logic.{◌⊎◌, inl, inr, ⊎_elim, ◌↔◌}
use mathlib.Core.Bool.{Bool, true, false, not}
use mathlib.Core.List.{List}
use lib.Dec.{leb, eqb}
use lib.ListN.{length, get_or}
use borrow.Author.Tests.{le-leb, lt-leb, leb-true, eq-eqb, ne_eqb, eqb-true}
use Rattle.format.specs.Words.{pick, both, either, Outcome, accepted, refused}
use Rattle.format.specs.Values.{Kind, Time, TimeTz, Datetime, DatetimeTz, zoned, Value, Form, text, Answer}
use Rattle.format.specs.Fields.{width, widths, fits_at, fit}
use Rattle.format.specs.Text.{layout, text_length}
use Rattle.format.specs.TextReading.{digits_from, digits_found, read_fields, read_text}
use Rattle.format.specs.CompactReading.{longest_plain}
use Rattle.format.specs.Extended.{head_bits, day_width, read_extended}
use Rattle.format.specs.Reading.{first_bits, form_in, read_in, answer, read}
use Rattle.format.specs.EitherOr.{Family, DateOrTz, TimeOrTz, DatetimeOrTz, kind_by01, kind_in, read_either}
use Rattle.format.proofs.Cases.{cases, lt_or_le, eq_or_ne, both_true, both_false, same, never}
use Rattle.claims.specs.ReaderRefusals.{between}
use Rattle.claims.specs.PlainNumbers.{bits1000, bits1001, fourteen_with_sign, twenty_five_with_sign, ChosenDate, ChosenTime, ChosenDatetime, ChosenKind, moves, OtherChoicesStand, NoStampLost, NewStamps}

-- ---- the choice

-- the first four bits are those of the number b where the octet lies in its sixteen
four_bits : (x b : ℕ) → eqb (x / 16) b ≡ between (b * 16) (b * 16 + 15) x
four_bits x b =
    ⊎_elim (λ (e : x / 16 ≡ b). rw (eq-eqb (x / 16) b e, le-leb (b * 16) x (omega arith), le-leb x (b * 16 + 15) (omega arith)))
    (λ (n : x / 16 ≡ b → ⊥). rw (ne_eqb (x / 16) b n) (⊎_elim
    (λ (p : x < b * 16). rw (lt-leb (b * 16) x p))
    (λ (p : b * 16 ≤ x). rw (le-leb (b * 16) x p, lt-leb x (b * 16 + 15) (⊎_elim (λ (q : b * 16 + 15 < x). q) (λ (q : x ≤ b * 16 + 15). absurd (n (omega arith))) (lt_or_le (b * 16 + 15) x))))
    (lt_or_le x (b * 16))))
    (eq_or_ne (x / 16) b)

-- either way the same
alike : (t : Bool) (k : Kind) → pick t k k ≡ k
alike true k = refl
alike false k = refl

module _ (s : List ℕ) where
  is-1000 : eqb (first_bits s) 8 ≡ bits1000 s
  unfolding first_bits
  is-1000 = four_bits (get_or s 0 0) 8

  is-1001 : eqb (first_bits s) 9 ≡ bits1001 s
  unfolding first_bits
  is-1001 = four_bits (get_or s 0 0) 9

  -- not both
  not-1000 : bits1001 s ≡ true → bits1000 s ≡ false
  not-1000 b =
      let x = get_or s 0 0 in
      let h : 0x90 ≤ x = leb-true 0x90 x (both_true (leb 0x90 x) (leb x 0x9F) b).0 in
      rw (lt-leb x 0x8F (omega arith)) (both_false (leb 0x80 x))

  -- up to m octets, and more
  few : (m : ℕ) → length s ≤ m → leb (length s) m ≡ true
  few m h = le-leb (length s) m h

  many : (m : ℕ) → m < length s → leb (length s) m ≡ false
  many m h = lt-leb (length s) m h

  other : (m : ℕ) → (length s ≡ m → ⊥) → eqb (length s) m ≡ false
  other m h = ne_eqb (length s) m h

  -- 14 octets, and 25
  of-14 : fourteen_with_sign s ≡ true → length s ≡ 14
  of-14 e = eqb-true (length s) 14 (both_true (eqb (length s) 14) (either (eqb (get_or s 8 0) 0x2B) (eqb (get_or s 8 0) 0x2D)) e).0

  of-25 : twenty_five_with_sign s ≡ true → length s ≡ 25
  of-25 e = eqb-true (length s) 25 (both_true (eqb (length s) 25) (either (eqb (get_or s 19 0) 0x2B) (eqb (get_or s 19 0) 0x2D)) e).0

  chosen-date : ChosenDate s (length s)
  unfolding kind_in kind_by01
  chosen-date = (
    λ h. rw (few 3 h),
    λ g h. rw (many 3 g, few 5 h),
    λ g h. rw (many 3 (omega arith), many 5 g, few 10 h),
    λ g. rw (many 3 (omega arith), many 5 (omega arith), many 10 g),
  )

  chosen-time : ChosenTime s (length s)
  unfolding kind_in kind_by01
  chosen-time = (
    λ h. rw (other 14 (λ e. omega arith), few 4 h),
    λ g h. rw (other 14 (λ e. omega arith), many 4 g, few 6 h),
    λ e b. rw (e, is-1000, is-1001, not-1000 b, b),
    λ e b. rw (e, is-1000, is-1001, b) (alike (bits1000 s) Time),
    λ n. rw n,
    λ g h n. rw (n, many 4 (omega arith), many 6 (omega arith), other 7 (λ e. omega arith), few 15 h),
    λ g. rw (other 14 (λ e. omega arith), many 4 (omega arith), many 6 (omega arith), other 7 (λ e. omega arith), many 15 g),
  )

  chosen-datetime : ChosenDatetime s (length s)
  unfolding kind_in kind_by01
  chosen-datetime = (
    λ h. rw (other 25 (λ e. omega arith), few 6 h),
    λ g h. rw (other 25 (λ e. omega arith), many 6 g, few 9 h),
    λ g b. rw (is-1000, b, both_false (twenty_five_with_sign s), many 6 (omega arith), many 9 g),
    λ g b. rw (is-1000, is-1001, not-1000 b, b, both_false (twenty_five_with_sign s), many 6 (omega arith), many 9 g),
    λ b n. rw (is-1000, is-1001, b, n, of-25 n) (either_way (bits1001 s)),
    λ g h b n. rw (n, many 6 (omega arith), many 9 g, is-1000, is-1001, b, few 26 h) (alike (bits1000 s) Datetime),
    λ g b. rw (other 25 (λ e. omega arith), many 6 (omega arith), many 9 (omega arith), is-1000, is-1001, b, many 26 g) (alike (bits1001 s) DatetimeTz),
  )
    where
      -- by the first bits or by the sign
      either_way : (b : Bool) → pick (both true (not (either false b))) DatetimeTz (pick b DatetimeTz Datetime) ≡ DatetimeTz
      either_way true = refl
      either_way false = refl

pub chosen_kind : ChosenKind
chosen_kind s = (chosen-date s, chosen-time s, chosen-datetime s)

-- ---- what request 1 moved

neither : (a b : Bool) → not (either a b) ≡ true → (a ≡ false) × (b ≡ false)
neither false false e = (refl, refl)
neither false true e = never e
neither true b e = never e

-- from the plain kind to the zoned one
moved_time : (s : List ℕ) → moves TimeOrTz s ≡ true → (kind_by01 TimeOrTz s ≡ Time) × (kind_in TimeOrTz s ≡ TimeTz)
unfolding kind_in kind_by01
moved_time s m = (rw (of-14 s m), rw m)

moved_datetime : (s : List ℕ) → moves DatetimeOrTz s ≡ true → (kind_by01 DatetimeOrTz s ≡ Datetime) × (kind_in DatetimeOrTz s ≡ DatetimeTz)
unfolding kind_by01
moved_datetime s m =
    let t = both_true (twenty_five_with_sign s) (not (either (bits1000 s) (bits1001 s))) m in
    let n = neither (bits1000 s) (bits1001 s) t.1 in
    (rw (of-25 s t.0, is-1000 s, is-1001 s, n.0, n.1), (chosen-datetime s).4 n.0 t.0)

-- a plain kind and a zoned one are not alike
unlike : {A : Type 0} (x y z w : Kind) → x ≡ y → y ≡ z → x ≡ w → zoned z ≡ false → zoned w ≡ true → A
unlike x y z w p q r a b = never (sym a ∙ ap zoned (sym q ∙ sym p ∙ r) ∙ b)

stands : (e : Family) (s : List ℕ) → (kind_in e s ≡ kind_by01 e s) ↔ (moves e s ≡ false)
unfolding kind_in
stands DateOrTz s = (λ p. refl, λ n. refl)
stands TimeOrTz s = (
  λ p. ⊎_elim (λ m. let q = moved_time s m in unlike (kind_in TimeOrTz s) (kind_by01 TimeOrTz s) Time TimeTz p q.0 q.1 refl refl) (λ n. n) (cases (moves TimeOrTz s)),
  λ n. rw n,
)
stands DatetimeOrTz s = (
  λ p. ⊎_elim (λ m. let q = moved_datetime s m in unlike (kind_in DatetimeOrTz s) (kind_by01 DatetimeOrTz s) Datetime DatetimeTz p q.0 q.1 refl refl) (λ n. n)
      (cases (moves DatetimeOrTz s)),
  λ n. rw (is-1000 s, is-1001 s, n),
)

pub other_choices_stand : OtherChoicesStand
other_choices_stand = (stands, moved_time, moved_datetime)

-- ---- where it moved, 01's choice found no stamp

-- a sign is no point
no_point : (c : ℕ) → either (eqb c 0x2B) (eqb c 0x2D) ≡ true → eqb c 46 ≡ false
no_point c e =
    ⊎_elim (λ (p : c ≡ 46). never (rw p at e)) (λ n. ne_eqb c 46 n) (eq_or_ne c 46)

-- a plain text of 14 or 25 octets has a point where the sign stands
unfit_time : (s : List ℕ) → eqb (get_or s 8 0) 46 ≡ false → fit (layout Time 5) s 0 ≡ false
unfolding fit layout width fits_at
unfit_time s e = simp (e, both_false)

unfit_datetime : (s : List ℕ) → eqb (get_or s 19 0) 46 ≡ false → fit (layout Datetime 5) s 0 ≡ false
unfolding fit layout width fits_at
unfit_datetime s e = simp (e, both_false)

refused_time : (s : List ℕ) → moves TimeOrTz s ≡ true → (read Time s ≡ refused 5) ⊎ (read Time s ≡ refused 6)
unfolding read form_in read_in read_text read_fields read_extended text_length layout widths width longest_plain head_bits day_width digits_found digits_from
refused_time s m =
    let b = both_true (eqb (length s) 14) (either (eqb (get_or s 8 0) 0x2B) (eqb (get_or s 8 0) 0x2D)) m in
    let l = of-14 s m in
    ⊎_elim (λ (x : eqb (first_bits s) 8 ≡ true). inl (rw (l, x, l))) (λ (x : eqb (first_bits s) 8 ≡ false). inr (rw (l, x, unfit_time s (no_point (get_or s 8 0) b.1)))) (cases (eqb (first_bits s) 8))

refused_datetime : (s : List ℕ) → moves DatetimeOrTz s ≡ true → (read Datetime s ≡ refused 5) ⊎ (read Datetime s ≡ refused 6)
unfolding read form_in read_in read_text read_fields read_extended text_length layout widths width longest_plain head_bits day_width digits_found digits_from
refused_datetime s m =
    let t = (both_true (twenty_five_with_sign s) (not (either (bits1000 s) (bits1001 s))) m).0 in
    let b = both_true (eqb (length s) 25) (either (eqb (get_or s 19 0) 0x2B) (eqb (get_or s 19 0) 0x2D)) t in
    ⊎_elim (λ (x : eqb (first_bits s) 8 ≡ true). inl (rw (of-25 s t, x, of-25 s t))) (λ (x : eqb (first_bits s) 8 ≡ false). inr (rw (of-25 s t, x, unfit_datetime s (no_point (get_or s 19 0) b.1)))) (cases (eqb (first_bits s) 8))

-- what is refused is not accepted
not_accepted : {A : Type 0} (o : Outcome Answer) (a : Answer) → (o ≡ refused 5) ⊎ (o ≡ refused 6) → o ≡ accepted a → A
not_accepted o a r p =
    ⊎_elim (λ (e : o ≡ refused 5). let z : ◌≡◌ {A = ℕ} 0 1 = cc in absurd (omega arith)) (λ (e : o ≡ refused 6). let z : ◌≡◌ {A = ℕ} 0 1 = cc in absurd (omega arith)) r

-- so there is nothing to lose
lost : (e : Family) (s : List ℕ) (a : Answer) → moves e s ≡ true → read (kind_by01 e s) s ≡ accepted a → read_either e s ≡ accepted a
lost DateOrTz s a m p = never m
lost TimeOrTz s a m p = not_accepted (read Time s) a (refused_time s m) (rw (moved_time s m).0 at p)
lost DatetimeOrTz s a m p = not_accepted (read Datetime s) a (refused_datetime s m) (rw (moved_datetime s m).0 at p)

pub no_stamp_lost : NoStampLost
unfolding read_either
no_stamp_lost e s a p = ⊎_elim (λ m. lost e s a m p) (λ n. rw ((stands e s).1 n) p) (cases (moves e s))

-- ---- and what is found now is a text without fraction

-- an answer is under the kind and form in which it was read
under : (k : Kind) (f : Form) (o : Outcome Value) (a : Answer) → answer k f o ≡ accepted a → (a.kind ≡ k) × (a.form ≡ f)
under k f (accepted v) a p = (ap (λ (x : Answer). x.kind) (sym (same p)), ap (λ (x : Answer). x.form) (sym (same p)))
under k f (refused n) a p = let z : ◌≡◌ {A = ℕ} 0 1 = cc in absurd (omega arith)

-- so many octets of this kind are a text without fraction, or refused
only_text : (k : Kind) (s : List ℕ) (a : Answer) → zoned k ≡ true → (read k s ≡ refused 5) ⊎ (form_in k s ≡ text 0) → read k s ≡ accepted a → (zoned a.kind ≡ true) × (a.form ≡ text 0)
unfolding read
only_text k s a z w p =
    ⊎_elim (λ (r : read k s ≡ refused 5). not_accepted (read k s) a (inl r) p)
    (λ (f : form_in k s ≡ text 0). let q = under k (form_in k s) (read_in k (form_in k s) s) a p in (rw q.0 z, q.1 ∙ f)) w

text_14 : (s : List ℕ) → length s ≡ 14 → (read TimeTz s ≡ refused 5) ⊎ (form_in TimeTz s ≡ text 0)
unfolding read form_in read_in read_extended text_length layout widths width longest_plain head_bits day_width digits_found digits_from
text_14 s l =
    ⊎_elim (λ (x : eqb (first_bits s) 9 ≡ true). inl (rw (l, x, l))) (λ (x : eqb (first_bits s) 9 ≡ false). inr (rw (l, x))) (cases (eqb (first_bits s) 9))

text_25 : (s : List ℕ) → length s ≡ 25 → (read DatetimeTz s ≡ refused 5) ⊎ (form_in DatetimeTz s ≡ text 0)
unfolding read form_in read_in read_extended text_length layout widths width longest_plain head_bits day_width digits_found digits_from
text_25 s l =
    ⊎_elim (λ (x : eqb (first_bits s) 9 ≡ true). inl (rw (l, x, l))) (λ (x : eqb (first_bits s) 9 ≡ false). inr (rw (l, x))) (cases (eqb (first_bits s) 9))

pub new_stamps : NewStamps
unfolding read_either
new_stamps DateOrTz s a m p = never m
new_stamps TimeOrTz s a m p =
    only_text TimeTz s a refl (text_14 s (of-14 s m)) (rw (moved_time s m).1 at p)
new_stamps DatetimeOrTz s a m p =
    only_text DatetimeTz s a refl (text_25 s (of-25 s (both_true (twenty_five_with_sign s) _ m).0)) (rw (moved_datetime s m).1 at p)
