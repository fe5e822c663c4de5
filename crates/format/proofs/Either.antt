-- The either-or readers find the kind that was written, but for the one exception. Assumes nothing.
use mathlib.Core.Path.{◌≡◌, refl, sym}
use mathlib.Core.Bool.{Bool, true, false, not}
use mathlib.Core.List.{List}
use Prim.Native.Nat.{ℕ, zero, suc, ◌+◌, ◌≤◌}
use native.Mathlib.Omega.{arith}
use lib.IntN.{nat_abs}
use lib.Dec.{eqb}
use lib.Signed.{non_neg}
use lib.ListN.{length, get_or}
use borrow.Author.Tests.{le-leb, lt-leb, leb-true, ltb-true, eq-eqb, ne_eqb}
use Rattle.format.specs.Words.{pick, both, needs, if_any, accepted}
use Rattle.format.specs.Values.{Kind, Date, DateTz, Time, TimeTz, Datetime, DatetimeTz, dated, timed, zoned, Value, in_range, Form, text, compact, extended}
use Rattle.format.specs.Choice.{kind_has}
use Rattle.format.specs.Digits.{digits_of}
use Rattle.format.specs.Fields.{is_sign, width, widths, put, puts}
use Rattle.format.specs.Text.{layout, text_length, text_numbers, text_image}
use Rattle.format.specs.Compact.{per_day, start, count, number, greatest, carried, has_compact, padded_to, number_octets, compact_image}
use Rattle.format.specs.CompactReading.{longest_plain, shortest, carried_in}
use Rattle.format.specs.Extended.{head_bits, day_width, extended_image}
use Rattle.format.specs.Writing.{image_in, has_form}
use Rattle.format.specs.Reading.{first_bits}
use Rattle.format.specs.EitherOr.{kind_by01, kind_in, TimeOrTz, DatetimeOrTz, read_either, family_of, plain_of, excepted}
use Rattle.format.specs.Keeping.{own, cut}
use Rattle.format.proofs.Cases.{both_true, never, at_most}
use Rattle.format.proofs.Clock.{seven}
use Rattle.format.proofs.Text.{in_range_lem, range_in, text_length_lem}
use Rattle.format.proofs.Extended.{extended_length}
use Rattle.format.proofs.Compact.{Seen, compact_seen, zero_is}
use Rattle.format.proofs.Choosing.{text_first, extended_first}
use Rattle.format.proofs.Round.{answered, image_reads}

-- ---- the kind, from the octets: their length and first bits, and of a text the octet behind the seconds

-- where the octet behind the seconds of a text stands
abbrev behind : Kind → ℕ
behind k = pick (dated k) 19 8

sign_is : (b : Bool) → is_sign (pick (eqb (pick b 0 1) 0) 43 45) ≡ true
sign_is true = refl
sign_is false = refl

-- there is a sign where the kind is zoned and there is no fraction
text_sign : (k : Kind) (d : ℕ) (v : Value) → timed k ≡ true → is_sign (get_or (text_image k d v) (behind k) 0) ≡ both (zoned k) (eqb d 0)
unfolding text_image text_numbers layout puts put digits_of
text_sign Date d v t = never t
text_sign DateTz d v t = never t
text_sign Time zero v t = refl
text_sign Time (suc d) v t = rw (ne_eqb (suc d) 0 (λ e. omega arith))
text_sign TimeTz zero v t = sign_is (non_neg v.offset)
text_sign TimeTz (suc d) v t = rw (ne_eqb (suc d) 0 (λ e. omega arith))
text_sign Datetime zero v t = refl
text_sign Datetime (suc d) v t = rw (ne_eqb (suc d) 0 (λ e. omega arith))
text_sign DatetimeTz zero v t = sign_is (non_neg v.offset)
text_sign DatetimeTz (suc d) v t = rw (ne_eqb (suc d) 0 (λ e. omega arith))

-- a text begins with a digit
module _ (s : List ℕ) (b : first_bits s ≡ 3) where
  kind-text : (k : Kind) (d : ℕ) → length s ≡ text_length k d → d ≤ if_any (timed k) 6 → (timed k ≡ true → is_sign (get_or s (behind k) 0) ≡ both (zoned k) (eqb d 0))
      → kind_in (family_of k) s ≡ k
  unfolding kind_in kind_by01 text_length layout widths width
  kind-text Date d l h g = rw l
  kind-text DateTz d l h g = rw l
  kind-text Time d l h g =
      seven (λ d. length s ≡ text_length Time d → kind_in TimeOrTz s ≡ Time)
      (λ l. rw l) (λ l. rw l) (λ l. rw l) (λ l. rw l) (λ l. rw l) (λ l. rw (l, g refl)) (λ l. rw l) d h l
  kind-text TimeTz d l h g =
      seven (λ d. length s ≡ text_length TimeTz d → is_sign (get_or s 8 0) ≡ eqb d 0 → kind_in TimeOrTz s ≡ TimeTz)
      (λ l g. rw (l, g)) (λ l g. rw l) (λ l g. rw l) (λ l g. rw l) (λ l g. rw l) (λ l g. rw l) (λ l g. rw l) d h l (g refl)
  kind-text Datetime d l h g =
      seven (λ d. length s ≡ text_length Datetime d → kind_in DatetimeOrTz s ≡ Datetime)
      (λ l. rw (l, b)) (λ l. rw (l, b)) (λ l. rw (l, b)) (λ l. rw (l, b)) (λ l. rw (l, b)) (λ l. rw (l, b, g refl)) (λ l. rw (l, b)) d h l
  kind-text DatetimeTz d l h g =
      seven (λ d. length s ≡ text_length DatetimeTz d → is_sign (get_or s 19 0) ≡ eqb d 0 → kind_in DatetimeOrTz s ≡ DatetimeTz)
      (λ l g. rw (l, b, g)) (λ l g. rw (l, b)) (λ l g. rw (l, b)) (λ l g. rw (l, b)) (λ l g. rw (l, b)) (λ l g. rw (l, b)) (λ l g. rw (l, b)) d h l (g refl)

kind_extended : (k : Kind) (s : List ℕ) → timed k ≡ true → length s ≡ 7 + day_width k → first_bits s ≡ head_bits k → kind_in (family_of k) s ≡ k
unfolding kind_in kind_by01 day_width head_bits
kind_extended Date s t l b = never t
kind_extended DateTz s t l b = never t
kind_extended Time s t l b = rw (l, b)
kind_extended TimeTz s t l b = rw (l, b)
kind_extended Datetime s t l b = rw (l, b)
kind_extended DatetimeTz s t l b = rw (l, b)

-- as many octets as the compact form has, with an offset in front where the kind is zoned
kind_compact : (k : Kind) (s : List ℕ) → Seen k (zoned k) (length s) → kind_in (family_of k) s ≡ k
unfolding kind_in kind_by01 shortest longest_plain carried_in
kind_compact Date s e = rw (le-leb (length s) 3 e.long)
kind_compact DateTz s e = rw (lt-leb (length s) 3 e.short, le-leb (length s) 5 e.long)
kind_compact Time s e = rw (ne_eqb (length s) 14 (λ n. omega (arith, e.long)), le-leb (length s) 4 e.long)
kind_compact TimeTz s e =
    rw (ne_eqb (length s) 14 (λ n. omega (arith, e.long)), lt-leb (length s) 4 (ltb-true 4 (length s) e.carried), le-leb (length s) 6 e.long)
kind_compact Datetime s e = rw (ne_eqb (length s) 25 (λ n. omega (arith, e.long)), le-leb (length s) 6 e.long)
kind_compact DatetimeTz s e =
    rw (ne_eqb (length s) 25 (λ n. omega (arith, e.long)), lt-leb (length s) 6 (ltb-true 6 (length s) e.carried), le-leb (length s) 9 e.long)

-- ---- its own kind

carried_own : (z t b : Bool) → both (both z t) b ≡ false → both z (needs t (not b)) ≡ z
carried_own false t b e = refl
carried_own true false b e = refl
carried_own true true true e = sym e
carried_own true true false e = refl

kind_found : (k : Kind) (f : Form) (v : Value) → in_range k v ≡ true → kind_has k f ≡ true → has_form k f v ≡ true → excepted k f v ≡ false
    → kind_in (family_of k) (image_in k f v) ≡ k
unfolding image_in kind_has has_form excepted
kind_found k (text d) v r h g x =
    let l : d ≤ if_any (timed k) 6 = leb-true _ _ h in
    kind-text (text_image k d v) (text_first k d v) k d (text_length_lem k d v r (at_most (timed k) d l)) l (text_sign k d v)
kind_found k compact v r h g x =
    let c : carried k v ≡ zoned k = unfold carried in carried_own (zoned k) (timed k) (eqb (nat_abs v.offset) 0) x in
    kind_compact k (compact_image k v) (rw c at (compact_seen k v g))
kind_found k extended v r h g x =
    kind_extended k (extended_image k v) h (extended_length k v) (extended_first k v h (in_range_lem k v r))

pub own_kind : (k : Kind) (f : Form) (v : Value) → in_range k v ≡ true → kind_has k f ≡ true → has_form k f v ≡ true → excepted k f v ≡ false
    → read_either (family_of k) (image_in k f v) ≡ accepted (answered k f (cut k f v))
unfolding read_either
own_kind k f v r h g x = rw (kind_found k f v r h g x) (image_reads k f v r h g)

-- ---- the plain kind of a kind

plain_dated : (k : Kind) → dated (plain_of k) ≡ dated k
plain_dated Date = refl
plain_dated DateTz = refl
plain_dated Time = refl
plain_dated TimeTz = refl
plain_dated Datetime = refl
plain_dated DatetimeTz = refl

plain_timed : (k : Kind) → timed (plain_of k) ≡ timed k
plain_timed Date = refl
plain_timed DateTz = refl
plain_timed Time = refl
plain_timed TimeTz = refl
plain_timed Datetime = refl
plain_timed DatetimeTz = refl

plain_zoned : (k : Kind) → zoned (plain_of k) ≡ false
plain_zoned Date = refl
plain_zoned DateTz = refl
plain_zoned Time = refl
plain_zoned TimeTz = refl
plain_zoned Datetime = refl
plain_zoned DatetimeTz = refl

plain_family : (k : Kind) → family_of (plain_of k) ≡ family_of k
plain_family Date = refl
plain_family DateTz = refl
plain_family Time = refl
plain_family TimeTz = refl
plain_family Datetime = refl
plain_family DatetimeTz = refl

-- ---- the exception: compact with offset zero

module _ (k : Kind) (v : Value) (p : both (zoned k) (timed k) ≡ true) (o : nat_abs v.offset ≡ 0) where
  carried-no : carried k v ≡ false
  unfolding carried
  carried-no = let b = both_true (zoned k) (timed k) p in rw (b.0, b.1, eq-eqb (nat_abs v.offset) 0 o)

  carried-plain : carried (plain_of k) v ≡ false
  unfolding carried
  carried-plain = rw (plain_zoned k)

  count-plain : count (plain_of k) v ≡ count k v
  unfolding count per_day
  count-plain = rw (plain_dated k, plain_timed k)

  start_plain : start (plain_of k) ≡ start k
  unfolding start per_day
  start_plain = rw (plain_dated k, plain_timed k)

  greatest-plain : greatest (plain_of k) false ≡ greatest k false
  unfolding greatest
  greatest-plain = rw (plain_dated k, plain_timed k)

  has-plain : has_compact k v ≡ true → has_compact (plain_of k) v ≡ true
  unfolding has_compact
  has-plain h = rw (carried-plain, count-plain, start_plain, greatest-plain) (rw carried-no at h)

  image-plain : compact_image (plain_of k) v ≡ compact_image k v
  unfolding compact_image number_octets number padded_to
  image-plain = rw (carried-plain, carried-no, count-plain, start_plain)

  range-plain : in_range k v ≡ true → in_range (plain_of k) v ≡ true
  range-plain e = let r = in_range_lem k v e in range_in (plain_of k) v (record { date = rw (plain_dated k) r.date; time = rw (plain_timed k) r.time; offset = rw (plain_zoned k) })

  cut-plain : cut (plain_of k) compact v ≡ cut k compact v
  unfolding cut own
  cut-plain = let b = both_true (zoned k) (timed k) p in rw (plain_dated k, plain_timed k, plain_zoned k, b.0, zero_is v.offset o)

  plain-excepted : excepted (plain_of k) compact v ≡ false
  unfolding excepted
  plain-excepted = rw (plain_zoned k)

  pub exception_compact : in_range k v ≡ true → has_compact k v ≡ true → read_either (family_of k) (compact_image k v) ≡ accepted (answered (plain_of k) compact (cut k compact v))
  exception_compact r h =
      let e : read_either (family_of (plain_of k)) (compact_image (plain_of k) v) ≡ accepted (answered (plain_of k) compact (cut (plain_of k) compact v)) =
      unfold image_in kind_has has_form in own_kind (plain_of k) compact v (range-plain r) refl (has-plain h) plain-excepted in
      rw (plain_family k, image-plain, cut-plain) at e
