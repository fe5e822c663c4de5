-- What writing comes to, test by test, over the kind; and the words that make up an image. Assumes nothing.
use mathlib.Core.Path.{◌≡◌, sym, ◌∙◌}
use mathlib.Core.Bool.{true, false}
use mathlib.Core.List.{List, ◌++◌}
use Prim.Native.Nat.{ℕ, ◌+◌, ◌*◌, ◌/◌, ◌<◌, ◌≤◌}
use native.Mathlib.Omega.{arith}
use lib.ListN.{length}
use lib.Seq.{sets}
use borrow.Author.Tests.{leb-true}
use Rattle.format.specs.Words.{needs, accepted, refused, unless}
use Rattle.format.specs.Calendar.{is_day}
use Rattle.format.specs.Values.{Kind, dated, timed, zoned, Value, time_in_range, offset_in_range, rest_in_range, in_range, extended}
use Rattle.format.specs.Octets.{unsigned_octets}
use Rattle.format.specs.Extended.{day_width, extended_image}
use Rattle.format.specs.Writing.{image_in, has_form, encode_in}
use Rattle.format.proofs.Cases.{both_true, both_false, failed}
use Rattle.format.proofs.Extended.{extended_length}
use Rattle.octets.proofs.LowFirst.{four_quotients}
use Rattle.octets.proofs.Storing.{unsigned_over}
use Rattle.values.specs.Promise.{Left}
use Rattle.values.proofs.Writes.{refuses, short, stored}

-- ---- the ranges

module _ (k : Kind) (v : Value) (lent : List ℕ) where
  outside : in_range k v ≡ false → Left (encode_in k extended v) lent 2 0 lent
  outside e = rw e (refuses 2 lent)

  pub rest_outside : rest_in_range k v ≡ false → Left (encode_in k extended v) lent 2 0 lent
  unfolding in_range
  rest_outside e = outside (rw (e, both_false (needs (dated k) (is_day v.date))))

  pub day_outside : (n m : ℕ) → refused n ≡ unless (needs (dated k) (is_day v.date)) 2 (accepted m) → Left (encode_in k extended v) lent 2 0 lent
  unfolding in_range
  day_outside n m e = outside (rw (failed (needs (dated k) (is_day v.date)) 2 n m (sym e)))

pub micros_fit : (k : Kind) (v : Value) → timed k ≡ true → rest_in_range k v ≡ true → v.micros < 1099511627776
unfolding time_in_range
micros_fit k v t e = omega (arith, leb-true v.micros 86400000000 (rw t at (both_true (needs (timed k) (time_in_range v.micros)) (needs (zoned k) (offset_in_range v.offset)) e).0))

-- ---- the room, and the image

module _ (k : Kind) (v : Value) (d : needs (dated k) (is_day v.date) ≡ true) (e : rest_in_range k v ≡ true) where
  image : encode_in k extended v ≡ accepted (extended_image k v)
  unfolding in_range image_in has_form
  image = rw (d, e)

  pub no_room : (n : ℕ) → n ≡ 7 + day_width k → (lent : List ℕ) → length lent < n → Left (encode_in k extended v) lent 4 0 lent
  no_room n w lent h = rw image (short (extended_image k v) lent (rw (extended_length k v, ← w) h))

  pub wrote : (n : ℕ) → n ≡ 7 + day_width k → (lent left : List ℕ) → n ≤ length lent → left ≡ sets lent 0 (extended_image k v) → Left (encode_in k extended v) lent 0 n left
  wrote n w lent left h s = rw image (stored (extended_image k v) lent left n (w ∙ sym (extended_length k v)) (rw (extended_length k v, ← w) h) s)

-- ---- the day number and the microseconds as eight

eight_split : (x : ℕ) → unsigned_octets 3 (x / 1099511627776) ++ unsigned_octets 5 x ≡ unsigned_octets 8 x
unfolding unsigned_octets
eight_split x =
    let e : x / 4294967296 / 256 ≡ x / 1099511627776 = omega arith in
    rw (four_quotients x, e)

pub eight_octets : (d m : ℕ) → m < 1099511627776 → unsigned_octets 8 (d * 1099511627776 + m) ≡ unsigned_octets 3 d ++ unsigned_octets 5 m
eight_octets d m h =
    let q : (d * 1099511627776 + m) / 1099511627776 ≡ d = omega arith in
    sym (eight_split (d * 1099511627776 + m)) ∙ rw (q, unsigned_over 5 d m)
