-- How a text writer keeps its promise, by what its tests tell and by the parts that it stores one behind the other, which are the image. Over the
-- kind; b is what a test answered. Assumes nothing.
use Rattle.std.proofs.Common.{◌≡◌, ℕ, ◌+◌, ◌-◌, ◌<◌, ◌≤◌, Bool, true, false, List, length, ℤ, sym, refl, ◌∙◌, arith}
use lib.Seq.{sets}
use Rattle.format.specs.Words.{if_any}
use Rattle.format.specs.Calendar.{Day}
use Rattle.format.specs.Values.{Kind, dated, timed, zoned, Value, in_range, text}
use Rattle.format.specs.Fields.{put, puts, width, widths}
use Rattle.format.specs.Text.{date_row, clock_row, text_length, text_image}
use Rattle.format.specs.Writing.{image_in, has_form, encode_in}
use Rattle.format.proofs.Text.{InRange}
use Rattle.format.proofs.Text as laws
use Rattle.values.specs.Promise.{Left}
use Rattle.values.proofs.Writes.{refuses, short, stored}
use Rattle.text.specs.Putting.{date_octets, clock_octets, offset_octets, fraction_field}
use Rattle.text.proofs.Wholes.{if_most, date_width, clock_width, zone_width, parts_long, text_long, fraction_narrow}
use Rattle.text.proofs.Putting.{text_stored}

pub out_of_range : (k : Kind) (d : ℕ) (v : Value) (lent : List ℕ) → in_range k v ≡ false → Left (encode_in k (text d) v) lent 2 0 lent
out_of_range k d v lent e = rw e (refuses 2 lent)

-- ---- a value in range, whose text has n octets

pub record Ready (k : Kind) (d : ℕ) (v : Value) (n : ℕ) : Type 0 where
  pub ranges : InRange k v
  pub few : d ≤ 6
  pub long : n ≡ text_length k d

-- what a test of the whole value tells
pub ready : {k : Kind} {d : ℕ} {v : Value} {n : ℕ} → in_range k v ≡ true → d ≤ 6 → n ≡ text_length k d → Ready k d v n
ready {k} {v = v} e few long = record { ranges = laws.in_range_lem k v e; few = few; long = long }

-- ---- the parts, stored one behind the other

-- a part that the kind lacks is nothing
pub no_date_lem : (l : List ℕ) (x : Day) → l ≡ sets l 0 (date_octets false x)
unfolding date_octets puts put
no_date_lem l x = refl

pub no_time : (l : List ℕ) (b : Bool) (at d x : ℕ) → l ≡ sets l at (clock_octets false b d x)
unfolding clock_octets puts put
no_time l true at d x = refl
no_time l false at d x = refl

pub no_offset : (l : List ℕ) (at : ℕ) (m : ℤ) → l ≡ sets l at (offset_octets false m)
unfolding offset_octets puts put
no_offset l at m = refl

-- where the time of a kind has room
pub time_room : (k : Kind) (d : ℕ) {l : ℕ} → timed k ≡ true → (b : Bool) → dated k ≡ b → if_any (dated k) 10 + widths (clock_row (timed k) (dated k) d) ≤ l
    → if_any b 11 + (8 + width (fraction_field d)) ≤ l
time_room k d t true e h = omega (arith, rw (t, e) at h, clock_width true true d)
time_room k d t false e h = omega (arith, rw (t, e) at h, clock_width true false d)

module _ {k : Kind} {d : ℕ} {v : Value} {n : ℕ} (r : Ready k d v n) where
  pub small : n ≤ 32
  small =
      let time = if_any (dated k) 1 + 8 + width (fraction_field d) in
      omega (arith, r.long, text_long k d, if_most (dated k) 10, if_most (dated k) 1, if_most (timed k) time, if_most (zoned k) 6, fraction_narrow d, r.few)

  in_range_lem : in_range k v ≡ true
  in_range_lem = laws.range_in k v r.ranges

  pub no_room : (lent : List ℕ) → length lent < n → Left (encode_in k (text d) v) lent 4 0 lent
  unfolding image_in has_form
  no_room lent l = rw in_range_lem (short (text_image k d v) lent (omega (arith, r.long, laws.text_length_lem k d v in_range_lem r.few)))

  image_stored : (lent left : List ℕ) → n ≤ length lent → left ≡ sets lent 0 (text_image k d v) → Left (encode_in k (text d) v) lent 0 n left
  unfolding image_in has_form
  image_stored lent left l s =
      let e = laws.text_length_lem k d v in_range_lem r.few in
      rw in_range_lem (stored (text_image k d v) lent left n (r.long ∙ sym e) (omega (arith, r.long, e)) s)

  -- b and c are the buffer behind the date and behind the time
  module _ {lent b c : List ℕ} (room : n ≤ length lent) (date : b ≡ sets lent 0 (date_octets (dated k) v.date))
      (time : c ≡ sets b (if_any (dated k) 10) (clock_octets (timed k) (dated k) d v.micros)) where
    -- and behind the offset
    pub written : {left : List ℕ} → left ≡ sets c (n - if_any (zoned k) 6) (offset_octets (zoned k) v.offset) → Left (encode_in k (text d) v) lent 0 n left
    written {left} e =
        let at : n - if_any (zoned k) 6 ≡ widths (date_row (dated k)) + widths (clock_row (timed k) (dated k) d) = omega (arith, r.long, parts_long k d, zone_width (zoned k)) in
        image_stored lent left room (e ∙ rw (at, time, date, ← date_width (dated k)) (text_stored lent k d v))
