-- The extended form, over the kind's flags: an image has its length and reads as what the form keeps; what reads is the image of
-- what was read. Assumes nothing.
use mathlib.Core.Path.{◌≡◌, refl, sym, ◌∙◌, ap}
use mathlib.Core.Logic.{⊎_elim}
use mathlib.Core.Bool.{Bool, true, false}
use mathlib.Core.List.{List, [], ◌∷◌, ◌++◌}
use Prim.Native.Nat.{ℕ, suc, ◌+◌, ◌-◌, ◌*◌, ◌/◌, ◌%◌, ◌^◌, ◌<◌, ◌≤◌}
use native.Mathlib.Omega.{arith}
use lib.IntN.{ℤ, pos, negsuc, nat_abs}
use lib.Dec.{leb, eqb}
use lib.ListN.{length, get_or, take, drop, length-append, length-drop, take-append-drop}
use lib.Seq.{drop-drop, take_all}
use borrow.Author.Tests.{le-leb, leb-true, lt-ltb, le-ltb, eqb-true, eq-eqb}
use Rattle.format.specs.Words.{pick, both, either, needs, if_any, accepted}
use Rattle.format.specs.Floor.{mod_f}
use Rattle.format.specs.Octets.{Octets, unsigned_octets, unsigned_at}
use Rattle.format.specs.Calendar.{no_date, is_day, day_number, day_of}
use Rattle.format.specs.Values.{Kind, dated, timed, zoned, Value, time_in_range, offset_in_range, in_range, extended}
use Rattle.format.specs.Extended.{head_bits, twelve, day_width, extended_image, offset_from, extended_value, read_extended}
use Rattle.format.specs.Keeping.{own, cut}
use Rattle.format.proofs.Cases.{both_true, lt_or_le, passed, same}
use Rattle.format.proofs.Dates.{number_small, date_number, number_date}
use Rattle.format.proofs.Fields.{at_tail}
use Rattle.format.proofs.Unsigned.{unsigned_length, unsigned_small, unsigned_again, unsigned_back}
use Rattle.format.proofs.Text.{InRange, range_in, micros_small, offset_small, needs_true}

-- ---- twelve bits and offsets

offset_bits : (x : ℤ) → nat_abs x ≤ 1439 → offset_from (mod_f x 4096) ≡ x
unfolding offset_from
offset_bits (pos a) h = let e : a % 4096 ≡ a = omega arith in rw (e, lt-ltb a 2048 (omega arith))
offset_bits (negsuc a) h =
    let e : a % 4096 ≡ a = omega arith in
    rw (e, le-ltb (4096 - suc a) 2048 (omega arith), lt-ltb (4096 - suc a) 4096 (omega arith)) (ap negsuc (omega arith))

bits_offset : (b : ℕ) → b < 4096 → mod_f (offset_from b) 4096 ≡ b
unfolding offset_from
bits_offset b h =
    ⊎_elim (λ t. rw (lt-ltb b 2048 t) (omega arith))
    (λ t. rw (le-ltb b 2048 t, lt-ltb b 4096 h) (omega arith))
    (lt_or_le b 2048)

offset_zero : offset_from 0 ≡ pos 0
unfolding offset_from
offset_zero = refl

bits_small : (x : ℤ) → nat_abs x ≤ 1439 → mod_f x 4096 < 4096
bits_small (pos a) h = omega arith
bits_small (negsuc a) h = omega arith

pub head_small : (k : Kind) → head_bits k ≤ 9
unfolding head_bits
head_small k = go (zoned k)
  where
    go : (b : Bool) → pick b 9 8 ≤ 9
    go true = omega arith
    go false = omega arith

-- ---- length

pub extended_length : (k : Kind) (v : Value) → length (extended_image k v) ≡ 7 + day_width k
unfolding extended_image
extended_length k v =
    simp (length-append, unsigned_length) (omega arith)

-- ---- an image reads as what the form keeps

module _ (k : Kind) (v : Value) (t : timed k ≡ true) (r : InRange k v) where
  pub twelve_small : twelve k v < 4096
  unfolding twelve
  twelve_small = go (zoned k) (offset_small k v r)
    where
      go : (b : Bool) → (b ≡ true → nat_abs v.offset ≤ 1439) → if_any b (mod_f v.offset 4096) < 4096
      go true h = bits_small v.offset (h refl)
      go false h = omega arith

  twelve-offset : offset_from (twelve k v) ≡ pick (zoned k) v.offset (pos 0)
  unfolding twelve
  twelve-offset = go (zoned k) (offset_small k v r)
    where
      go : (b : Bool) → (b ≡ true → nat_abs v.offset ≤ 1439) → offset_from (if_any b (mod_f v.offset 4096)) ≡ pick b v.offset (pos 0)
      go true h = offset_bits v.offset (h refl)
      go false h = offset_zero

  twelve-plain : either (zoned k) (eqb (twelve k v) 0) ≡ true
  unfolding twelve
  twelve-plain = go (zoned k)
    where
      go : (b : Bool) → either b (eqb (if_any b (mod_f v.offset 4096)) 0) ≡ true
      go true = refl
      go false = refl

  offset_fine : offset_in_range (pick (zoned k) v.offset (pos 0)) ≡ true
  unfolding offset_in_range
  offset_fine = go (zoned k) (offset_small k v r)
    where
      go : (b : Bool) → (b ≡ true → nat_abs v.offset ≤ 1439) → leb (nat_abs (pick b v.offset (pos 0))) 1439 ≡ true
      go true h = le-leb _ _ (h refl)
      go false h = refl

  day_small : if_any (dated k) (day_number v.date) < 256 ^ day_width k
  unfolding day_width
  day_small = go (dated k) r.date
    where
      go : (b : Bool) → needs b (is_day v.date) ≡ true → if_any b (day_number v.date) < 256 ^ if_any b 3
      go true e = omega (arith, number_small v.date e)
      go false e = omega arith

  day-fine : leb (if_any (dated k) (day_number v.date)) 3652058 ≡ true
  day-fine = go (dated k) r.date
    where
      go : (b : Bool) → needs b (is_day v.date) ≡ true → leb (if_any b (day_number v.date)) 3652058 ≡ true
      go true e = le-leb (day_number v.date) 3652058 (omega (arith, number_small v.date e))
      go false e = refl

  day-kept : pick (dated k) (day_of (if_any (dated k) (day_number v.date))) no_date ≡ pick (dated k) v.date no_date
  day-kept = go (dated k) r.date
    where
      go : (b : Bool) → needs b (is_day v.date) ≡ true
          → pick b (day_of (if_any b (day_number v.date))) no_date ≡ pick b v.date no_date
      go true e = date_number v.date e
      go false e = refl

  pub extended_reads : read_extended k (extended_image k v) ≡ accepted (cut k extended v)
  unfolding read_extended extended_image extended_value cut own time_in_range
  extended_reads =
      let s = extended_image k v in
      let m = micros_small k v r t in
      let H = head_bits k * 4096 + twelve k v in
      let D = if_any (dated k) (day_number v.date) in
      let h : unsigned_at s 0 2 ≡ H = unsigned_back s 0 2 H _ (omega (arith, head_small k, twelve_small)) refl in
      let b : H % 4096 ≡ twelve k v = omega (arith, twelve_small) in
      let t₁ : drop 2 s ≡ unsigned_octets (day_width k) D ++ unsigned_octets 5 v.micros = at_tail s 0 2 (unsigned_octets 2 H) _ (unsigned_length 2 H) refl in
      let d : unsigned_at s 2 (day_width k) ≡ D = unsigned_back s 2 (day_width k) D _ day_small t₁ in
      let t₂ = at_tail s 2 (day_width k) (unsigned_octets (day_width k) D) (unsigned_octets 5 v.micros) (unsigned_length (day_width k) D) t₁ in
      let u : unsigned_at s (2 + day_width k) 5 ≡ v.micros = unsigned_back s (2 + day_width k) 5 v.micros [] (omega arith) (t₂ ∙ nil (unsigned_octets 5 v.micros)) in
      rw (eq-eqb _ _ (extended_length k v), h, b, d, u, twelve-plain, twelve-offset, offset_fine, day-fine, le-leb v.micros 86400000000 m, day-kept, t)
    where
      nil : (l : List ℕ) → l ≡ l ++ []
      nil [] = refl
      nil (x ∷ l) = ap (λ (y : List ℕ). x ∷ y) (nil l)

-- ---- what reads is the image of what was read

pub record FromExtended (k : Kind) (s : List ℕ) (v : Value) : Type 0 where
  pub range : in_range k v ≡ true
  pub image : extended_image k v ≡ s

-- the header's number, by its bits
header : (s : List ℕ) → Octets s → unsigned_at s 0 2 ≡ get_or s 0 0 / 16 * 4096 + unsigned_at s 0 2 % 4096
unfolding unsigned_at
header s o = omega (arith, o 0, o 1)

-- three parts that follow one another make up the whole
joined : (s : List ℕ) (a b c : ℕ) → length s ≡ a + b + c → take a s ++ (take b (drop a s) ++ take c (drop (a + b) s)) ≡ s
joined s a b c h =
    let l : take c (drop (a + b) s) ≡ drop (a + b) s = take_all c (drop (a + b) s) (rw length-drop (omega arith)) in
    rw (l, ← drop-drop b a s, take-append-drop b (drop a s), take-append-drop a s)

module _ (k : Kind) (s : List ℕ) (o : Octets s) (t : timed k ≡ true) (f : get_or s 0 0 / 16 ≡ head_bits k) where
  bits_back : (b : ℕ) → b < 4096 → either (zoned k) (eqb b 0) ≡ true → if_any (zoned k) (mod_f (offset_from b) 4096) ≡ b
  bits_back b h e = go (zoned k) e
    where
      go : (z : Bool) → either z (eqb b 0) ≡ true → if_any z (mod_f (offset_from b) 4096) ≡ b
      go true e = bits_offset b h
      go false e = sym (eqb-true b 0 e)

  day_back : (D : ℕ) → D < 256 ^ day_width k → D ≤ 3652058 → if_any (dated k) (day_number (pick (dated k) (day_of D) no_date)) ≡ D
  unfolding day_width
  day_back D h l = go (dated k) h
    where
      go : (b : Bool) → D < 256 ^ if_any b 3 → if_any b (day_number (pick b (day_of D) no_date)) ≡ D
      go true h = (number_date D (omega arith)).1
      go false h = omega arith

  day-range : (D : ℕ) → D ≤ 3652058 → needs (dated k) (is_day (pick (dated k) (day_of D) no_date)) ≡ true
  day-range D l = go (dated k)
    where
      go : (b : Bool) → needs b (is_day (pick b (day_of D) no_date)) ≡ true
      go true = (number_date D (omega arith)).0
      go false = refl

  pub extended_from_lem : (v : Value) → read_extended k s ≡ accepted v → FromExtended k s v
  unfolding read_extended extended_value extended_image twelve
  extended_from_lem v e =
      let N = unsigned_at s 0 2 in
      let B = N % 4096 in
      let D = unsigned_at s 2 (day_width k) in
      let M = unsigned_at s (2 + day_width k) 5 in
      let a = passed (eqb (length s) (7 + day_width k)) 5 _ v e in
      let b = passed (either (zoned k) (eqb B 0)) 6 _ v a.1 in
      let c = passed (both (offset_in_range (offset_from B)) (both (leb D 3652058) (time_in_range M))) 8 _ v b.1 in
      let x = both_true (offset_in_range (offset_from B)) _ c.0 in
      let y = both_true (leb D 3652058) (time_in_range M) x.1 in
      let l : length s ≡ 7 + day_width k = eqb-true _ _ a.0 in
      let d : D ≤ 3652058 = leb-true _ _ y.0 in
      let q : extended_value k B D M ≡ v = same c.1 in
      let h : head_bits k * 4096 + B ≡ N = rw f at (sym (header s o)) in
      let n1 : unsigned_octets 2 N ≡ take 2 s = unsigned_again s 0 2 (omega arith) o in
      let n2 : unsigned_octets (day_width k) D ≡ take (day_width k) (drop 2 s) = unsigned_again s 2 (day_width k) (omega arith) o in
      let n3 : unsigned_octets 5 M ≡ take 5 (drop (2 + day_width k) s) = unsigned_again s (2 + day_width k) 5 (omega arith) o in
      record {
        range = rw (← q) (range_in k (extended_value k B D M) (record {
          date = day-range D d;
          time = rw y.1 (needs_true (timed k));
          offset = rw x.0 (needs_true (zoned k));
        }));
        image = rw (← q, bits_back B (omega arith) b.0, day_back D (unsigned_small s 2 (day_width k) o) d, h, n1, n2, n3) (joined s 2 (day_width k) 5 (omega arith));
      }
