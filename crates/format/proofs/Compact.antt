-- The compact form, over the kind's flags and the number of octets: an image has a length from which the reader finds the offset again, and
-- reads as what the form keeps; what reads is the image of what was read. Assumes nothing.
use mathlib.Core.Path.{◌≡◌, refl, sym, ap}
use mathlib.Core.Logic.{⊎_elim}
use mathlib.Core.Bool.{Bool, true, false, not}
use mathlib.Core.List.{List}
use Prim.Native.Nat.{ℕ, suc, ◌+◌, ◌-◌, ◌*◌, ◌/◌, ◌%◌, ◌<◌, ◌≤◌}
use native.Mathlib.Omega.{arith}
use lib.IntN.{ℤ, pos, negsuc, nat_abs, sub_ℕ}
use lib.Signed.{mag}
use lib.Dec.{leb, ltb, eqb}
use lib.ListN.{length, take, drop, length-append, length-drop, take-append-drop}
use lib.Seq.{take_at, drop_at, length-take-le}
use borrow.Author.Tests.{le-leb, leb-true, lt-ltb, le-ltb, ltb-true, eq-eqb, ne_eqb}
use Rattle.format.specs.Words.{pick, both, either, needs, if_any, accepted}
use Rattle.format.specs.Octets.{Octets, signed_octets, signed_of, half, fewest_octets}
use Rattle.format.specs.Calendar.{Day, no_date, is_day, day_number, day_of}
use Rattle.format.specs.Values.{Kind, Date, DateTz, Time, TimeTz, Datetime, DatetimeTz, dated, timed, zoned, Value, time_in_range, offset_in_range, in_range, end_of_day, compact}
use Rattle.format.specs.Compact.{per_day, start, count, number, greatest, carried, has_compact, padded_to, number_octets, compact_image}
use Rattle.format.specs.CompactReading.{longest_plain, longest, shortest, carried_in, not_before, counted, number_in_range, usual, compact_value, read_number, read_compact}
use Rattle.format.specs.Keeping.{own, down, cut}
use Rattle.format.proofs.Cases.{both_true, eq_or_ne, lt_or_le, passed, same, never}
use Rattle.format.proofs.Dates.{date_number, number_date}
use Rattle.format.proofs.Signed.{octets_length, octets_signed, signed_octets_lem, take_octets, drop_octets}
use Rattle.format.proofs.Ber.{least, reads_back, fewest_octets_lem}
use Rattle.format.proofs.Text.{InRange, range_in, micros_small, offset_small, needs_true}

-- ---- a count from 2020, and back

mag_sub : (N B g h : ℕ) → B ≤ h → N ≤ B + g → g < h → mag (sub_ℕ N B) < h
mag_sub N B g h p q r =
    ⊎_elim (λ t. rw (lt-ltb N B t) (omega arith))
    (λ t. rw (le-ltb N B t) (omega arith))
    (lt_or_le N B)

counted_sub : (N B : ℕ) → counted B (sub_ℕ N B) ≡ N
counted_sub N B =
    ⊎_elim (λ t. rw (lt-ltb N B t) (omega arith))
    (λ t. rw (le-ltb N B t) (omega arith))
    (lt_or_le N B)

not_before_sub : (N B : ℕ) → not_before B (sub_ℕ N B) ≡ true
not_before_sub N B =
    ⊎_elim (λ t. rw (lt-ltb N B t) (lt-ltb (B - suc N) B (omega arith)))
    (λ t. rw (le-ltb N B t))
    (lt_or_le N B)

sub_counted : (B : ℕ) (x : ℤ) → not_before B x ≡ true → sub_ℕ (counted B x) B ≡ x
sub_counted B (pos a) e = rw (le-ltb (a + B) B (omega arith)) (ap pos (omega arith))
sub_counted B (negsuc a) e =
    let h = ltb-true a B e in
    rw (lt-ltb (B - suc a) B (omega arith)) (ap negsuc (omega arith))

-- ---- lengths: what a kind carries is seen from the length again

-- an offset is carried, by the kind and whether it is not zero
abbrev pub carries : Kind → Bool → Bool
carries k b = both (zoned k) (needs (timed k) b)

-- the most octets of the number
abbrev pub most : Kind → Bool → ℕ
most k c = pick (dated k) (pick (timed k) (pick c 7 6) 3) 4

pub fits : (k : Kind) (b : Bool) → (start k ≤ half (most k (carries k b))) × (greatest k (carries k b) < half (most k (carries k b)))
unfolding start greatest per_day
fits Date b = omega arith
fits DateTz b = omega arith
fits Time b = omega arith
fits TimeTz b = omega arith
fits Datetime b = omega arith
fits DatetimeTz true = omega arith
fits DatetimeTz false = omega arith

-- the number of octets m of the number lies between these
pub record Sized (k : Kind) (c : Bool) (m : ℕ) : Type 0 where
  pub low : padded_to k c ≤ m
  pub high : m ≤ most k c

pub record Seen (k : Kind) (c : Bool) (n : ℕ) : Type 0 where
  pub short : shortest k ≤ n
  pub long : n ≤ longest k
  pub carried : carried_in k n ≡ c

pub seen : (k : Kind) (b : Bool) (m : ℕ) → Sized k (carries k b) m → Seen k (carries k b) (if_any (carries k b) 2 + m)
unfolding padded_to shortest longest_plain carried_in
seen Date b m z = record { short = omega (arith, z.low); long = omega (arith, z.high); carried = refl }
seen DateTz b m z = record { short = omega (arith, z.low); long = omega (arith, z.high); carried = refl }
seen Time b m z = record { short = omega (arith, z.low); long = omega (arith, z.high); carried = refl }
seen TimeTz true m z = record { short = omega (arith, z.low); long = omega (arith, z.high); carried = lt-ltb 4 (2 + m) (omega (arith, z.low)) }
seen TimeTz false m z = record { short = omega (arith, z.low); long = omega (arith, z.high); carried = le-ltb 4 (0 + m) (omega (arith, z.high)) }
seen Datetime b m z = record { short = omega (arith, z.low); long = omega (arith, z.high); carried = refl }
seen DatetimeTz true m z = record { short = omega (arith, z.low); long = omega (arith, z.high); carried = lt-ltb 6 (2 + m) (omega (arith, z.low)) }
seen DatetimeTz false m z = record { short = omega (arith, z.low); long = omega (arith, z.high); carried = le-ltb 6 (0 + m) (omega (arith, z.high)) }

most_padded : (k : Kind) (c : Bool) → padded_to k c ≤ most k c
unfolding padded_to
most_padded k c = go c (timed k) (dated k)
  where
    go : (c t d : Bool) → pick c (pick t (pick d 5 3) 2) 1 ≤ pick d (pick t (pick c 7 6) 3) 4
    go true true true = omega arith
    go true true false = omega arith
    go true false true = omega arith
    go true false false = omega arith
    go false true true = omega arith
    go false true false = omega arith
    go false false true = omega arith
    go false false false = omega arith

padded_one : (k : Kind) (c : Bool) → 1 ≤ padded_to k c
unfolding padded_to
padded_one k c = go c (timed k) (dated k)
  where
    go : (c t d : Bool) → 1 ≤ pick c (pick t (pick d 5 3) 2) 1
    go true true true = omega arith
    go true true false = omega arith
    go true false d = omega arith
    go false t d = omega arith

-- the other way: what lies behind the offset has at least the fewest octets
pub behind : (k : Kind) (n : ℕ) → shortest k ≤ n → if_any (carried_in k n) 2 + padded_to k (carried_in k n) ≤ n
unfolding padded_to shortest longest_plain carried_in
behind Date n h = h
behind DateTz n h = h
behind Time n h = h
behind TimeTz n h = ⊎_elim (λ t. rw (lt-ltb 4 n t) (omega arith)) (λ t. rw (le-ltb 4 n t) h) (lt_or_le 4 n)
behind Datetime n h = h
behind DatetimeTz n h = ⊎_elim (λ t. rw (lt-ltb 6 n t) (omega arith)) (λ t. rw (le-ltb 6 n t) h) (lt_or_le 6 n)

-- ---- an image has its length

module _ (k : Kind) (v : Value) (h : has_compact k v ≡ true) where
  number_fits_lem : fewest_octets (number k v) ≤ most k (carried k v)
  unfolding number has_compact carried
  number_fits_lem =
      let f = fits k (not (eqb (nat_abs v.offset) 0)) in
      (least (number k v)).least (most k (carried k v)) (one (dated k) (timed k) (carried k v))
      (mag_sub (count k v) (start k) (greatest k (carried k v)) (half (most k (carried k v))) f.0 (leb-true _ _ h) f.1)
    where
      one : (d t c : Bool) → 1 ≤ pick d (pick t (pick c 7 6) 3) 4
      one true true true = omega arith
      one true true false = omega arith
      one true false c = omega arith
      one false t c = omega arith

  pub sized : Sized k (carried k v) (number_octets k (carried k v) (number k v))
  unfolding number_octets
  sized = record { low = omega arith; high = omega (arith, number_fits_lem, most_padded k (carried k v)) }

pub compact_length : (k : Kind) (v : Value) → length (compact_image k v) ≡ if_any (carried k v) 2 + number_octets k (carried k v) (number k v)
unfolding compact_image
compact_length k v = simp (length-append, octets_length)

pub compact_seen : (k : Kind) (v : Value) → has_compact k v ≡ true → Seen k (carried k v) (length (compact_image k v))
unfolding carried
compact_seen k v h = rw (compact_length k v) (seen k (not (eqb (nat_abs v.offset) 0)) (number_octets k (carried k v) (number k v)) (sized k v h))

-- ---- an image reads as what the form keeps

-- the offset read, where it was carried or not
offset_octets_lem : (c : Bool) (x : ℤ) → nat_abs x ≤ 1439 → signed_of (signed_octets (if_any c 2) x) ≡ pick c x (pos 0)
unfolding signed_octets signed_of
offset_octets_lem true (pos a) h = signed_octets_lem 1 (pos a) (omega arith)
offset_octets_lem true (negsuc a) h = signed_octets_lem 1 (negsuc a) (omega arith)
offset_octets_lem false x h = refl

pub zero_is : (x : ℤ) → nat_abs x ≡ 0 → x ≡ pos 0
zero_is (pos a) e = ap pos e
zero_is (negsuc a) e = absurd (omega arith)

-- not carried: it is zero, or there is none
offset_read : (z t : Bool) (x : ℤ) → (z ≡ true → nat_abs x ≤ 1439)
    → signed_of (signed_octets (if_any (both z (needs t (not (eqb (nat_abs x) 0)))) 2) x) ≡ pick z x (pos 0)
unfolding signed_octets signed_of
offset_read false t x h = refl
offset_read true false x h = offset_octets_lem true x (h refl)
offset_read true true x h =
    ⊎_elim (λ e. rw (eq-eqb (nat_abs x) 0 e) (sym (zero_is x e)))
    (λ n. rw (ne_eqb (nat_abs x) 0 n) (offset_octets_lem true x (h refl)))
    (eq_or_ne (nat_abs x) 0)

-- a carried offset of a time is not zero
not_needless : (z t : Bool) (x : ℤ) → needs (both (both z (needs t (not (eqb (nat_abs x) 0)))) t) (not (eqb (nat_abs (pick z x (pos 0))) 0)) ≡ true
not_needless false t x = refl
not_needless true false x = refl
not_needless true true x = go (not (eqb (nat_abs x) 0))
  where
    go : (b : Bool) → needs (both b true) b ≡ true
    go true = refl
    go false = refl

offset_fine : (z : Bool) (x : ℤ) → (z ≡ true → nat_abs x ≤ 1439) → leb (nat_abs (pick z x (pos 0))) 1439 ≡ true
offset_fine true x h = le-leb _ _ (h refl)
offset_fine false x h = refl

-- a count's day and milliseconds
abbrev value : Day → ℕ → ℤ → Value
value d m o = record { date = d; micros = m; offset = o }

kept : (d t : Bool) (v : Value) → needs d (is_day v.date) ≡ true → (t ≡ true → v.micros ≤ 86400000000) → (o : ℤ)
    → let n = if_any d (day_number v.date) * pick t 86400000 1 + if_any t (v.micros / 1000) in
    value (pick d (day_of (n / pick t 86400000 1)) no_date) (if_any t (pick d (n % 86400000) n * 1000)) o
    ≡ pick (both (both d t) (eqb v.micros end_of_day))
    (value (pick d (day_of (day_number v.date + 1)) no_date) (if_any t 0) o)
    (value (pick d v.date no_date) (if_any t (v.micros / 1000 * 1000)) o)
kept true true v e h o =
    ⊎_elim (λ p.
    let q : (day_number v.date * 86400000 + v.micros / 1000) / 86400000 ≡ day_number v.date + 1 = omega arith in
    let r : (day_number v.date * 86400000 + v.micros / 1000) % 86400000 ≡ 0 = omega arith in
    rw (q, r, eq-eqb v.micros 86400000000 p))
    (λ p.
    let m = h refl in
    let q : (day_number v.date * 86400000 + v.micros / 1000) / 86400000 ≡ day_number v.date = omega arith in
    let r : (day_number v.date * 86400000 + v.micros / 1000) % 86400000 ≡ v.micros / 1000 = omega arith in
    rw (q, r, ne_eqb v.micros 86400000000 p, date_number v.date e))
    (eq_or_ne v.micros 86400000000)
kept true false v e h o =
    let q : (day_number v.date * 1 + 0) / 1 ≡ day_number v.date = omega arith in
    rw (q, date_number v.date e)
kept false true v e h o =
    let q : 0 * 86400000 + v.micros / 1000 ≡ v.micros / 1000 = omega arith in
    rw q
kept false false v e h o = refl

module _ (k : Kind) (v : Value) (r : InRange k v) (h : has_compact k v ≡ true) where
  compact-kept : compact_value k (count k v) (pick (zoned k) v.offset (pos 0)) ≡ cut k compact v
  unfolding compact_value count per_day cut own down
  compact-kept = kept (dated k) (timed k) v r.date (micros_small k v r) (pick (zoned k) v.offset (pos 0))

  pub number_reads : read_number k (carried k v) (compact_image k v) ≡ accepted (cut k compact v)
  unfolding read_number usual compact_image
  number_reads =
      let c = carried k v in
      let m = number_octets k c (number k v) in
      let a : take (if_any c 2) (compact_image k v) ≡ signed_octets (if_any c 2) v.offset = take_at (signed_octets (if_any c 2) v.offset) _ (if_any c 2) (octets_length (if_any c 2) v.offset) in
      let b : drop (if_any c 2) (compact_image k v) ≡ signed_octets m (number k v) = drop_at (signed_octets (if_any c 2) v.offset) _ (if_any c 2) (octets_length (if_any c 2) v.offset) in
      let o : signed_of (signed_octets (if_any c 2) v.offset) ≡ pick (zoned k) v.offset (pos 0) = offset-back in
      let x : signed_of (signed_octets m (number k v)) ≡ number k v = number_back in
      rw (a, b, o, x, octets_length m (number k v), le-leb m m (omega arith), needless, in-the-range, number-in-range, counts) (ap accepted compact-kept)
    where
      offset-back : signed_of (signed_octets (if_any (carried k v) 2) v.offset) ≡ pick (zoned k) v.offset (pos 0)
      offset-back = unfold carried in offset_read (zoned k) (timed k) v.offset (offset_small k v r)

      number_back : signed_of (signed_octets (number_octets k (carried k v) (number k v)) (number k v)) ≡ number k v
      number_back = unfold number_octets in reads_back (number_octets k (carried k v) (number k v)) (number k v) (omega (arith, padded_one k (carried k v))) (omega arith)

      needless : needs (both (carried k v) (timed k)) (not (eqb (nat_abs (pick (zoned k) v.offset (pos 0))) 0)) ≡ true
      needless = unfold carried in not_needless (zoned k) (timed k) v.offset

      in-the-range : offset_in_range (pick (zoned k) v.offset (pos 0)) ≡ true
      in-the-range = unfold offset_in_range in offset_fine (zoned k) v.offset (offset_small k v r)

      counts : counted (start k) (number k v) ≡ count k v
      counts = unfold number in counted_sub (count k v) (start k)

      number-in-range : number_in_range k (carried k v) (number k v) ≡ true
      number-in-range = unfold number_in_range number has_compact in rw (not_before_sub (count k v) (start k), counted_sub (count k v) (start k)) h

  pub compact_reads : read_compact k (compact_image k v) ≡ accepted (cut k compact v)
  unfolding read_compact
  compact_reads =
      let s = compact_seen k v h in
      rw (le-leb _ _ s.short, le-leb _ _ s.long, s.carried) number_reads

-- ---- what reads is the image of what was read

pub record FromCompact (k : Kind) (s : List ℕ) (v : Value) : Type 0 where
  pub range : in_range k v ≡ true
  pub has : has_compact k v ≡ true
  pub image : compact_image k v ≡ s

-- octets written again at their own length, whatever that is called
again : (n : ℕ) (xs : List ℕ) → Octets xs → length xs ≡ n → signed_octets n (signed_of xs) ≡ xs
again n xs o e = rw (← e) (octets_signed xs o)

-- carried, by the length and by the value read
carried_again : (z t l : Bool) (s : List ℕ)
    → needs (both (both z (needs t l)) t) (not (eqb (nat_abs (signed_of (take (if_any (both z (needs t l)) 2) s))) 0)) ≡ true
    → both z (needs t (not (eqb (nat_abs (signed_of (take (if_any (both z (needs t l)) 2) s))) 0))) ≡ both z (needs t l)
unfolding signed_of
carried_again false t l s e = refl
carried_again true false l s e = refl
carried_again true true true s e = e
carried_again true true false s e = refl

-- every kind has a date or a time
dated_or_timed : (k : Kind) → either (dated k) (timed k) ≡ true
dated_or_timed Date = refl
dated_or_timed DateTz = refl
dated_or_timed Time = refl
dated_or_timed TimeTz = refl
dated_or_timed Datetime = refl
dated_or_timed DatetimeTz = refl

-- a count within its limits is the count of the value that it is read as
recount : (d t c : Bool) (n : ℕ) → either d t ≡ true → n ≤ if_any d (737424 * pick t 86400000 1) + pick d (pick t (pick c 251824463999999 140737488355327) 2914634) 86400000
    → if_any d (day_number (pick d (day_of (n / pick t 86400000 1)) no_date)) * pick t 86400000 1 + if_any t (if_any t (pick d (n % 86400000) n * 1000) / 1000) ≡ n
recount true true true n e h = rw (number_date (n / 86400000) (omega arith)).1 (omega arith)
recount true true false n e h = rw (number_date (n / 86400000) (omega arith)).1 (omega arith)
recount true false c n e h = rw (number_date (n / 1) (omega arith)).1 (omega arith)
recount false true c n e h = omega arith
recount false false c n e h = never e

-- and the value is in range
redate : (d t c : Bool) (n : ℕ) → n ≤ if_any d (737424 * pick t 86400000 1) + pick d (pick t (pick c 251824463999999 140737488355327) 2914634) 86400000
    → needs d (is_day (pick d (day_of (n / pick t 86400000 1)) no_date)) ≡ true
redate true true true n h = (number_date (n / 86400000) (omega arith)).0
redate true true false n h = (number_date (n / 86400000) (omega arith)).0
redate true false c n h = (number_date (n / 1) (omega arith)).0
redate false t c n h = refl

retime : (d t c : Bool) (n : ℕ) → n ≤ if_any d (737424 * pick t 86400000 1) + pick d (pick t (pick c 251824463999999 140737488355327) 2914634) 86400000
    → leb (if_any t (pick d (n % 86400000) n * 1000)) 86400000000 ≡ true
retime true true c n h = le-leb (n % 86400000 * 1000) 86400000000 (omega arith)
retime false true c n h = le-leb (n * 1000) 86400000000 (omega arith)
retime d false c n h = refl

module _ (k : Kind) (c : Bool) (x o : ℤ) (p : offset_in_range o ≡ true) (q : number_in_range k c x ≡ true) where
  before : (not_before (start k) x ≡ true) × (leb (counted (start k) x) (start k + greatest k c) ≡ true)
  unfolding number_in_range
  before = both_true (not_before (start k) x) (leb (counted (start k) x) (start k + greatest k c)) q

  limit : counted (start k) x ≤ start k + greatest k c
  limit = leb-true _ _ before.1

  count-again : count k (compact_value k (counted (start k) x) o) ≡ counted (start k) x
  unfolding count compact_value per_day start greatest
  count-again = recount (dated k) (timed k) c (counted (start k) x) (dated_or_timed k) limit

  number-again : number k (compact_value k (counted (start k) x) o) ≡ x
  unfolding number
  number-again = rw count-again (sub_counted (start k) x before.0)

  value-range : InRange k (compact_value k (counted (start k) x) o)
  unfolding compact_value per_day start greatest time_in_range
  value-range =
      record {
        date = redate (dated k) (timed k) c (counted (start k) x) limit;
        time = rw (retime (dated k) (timed k) c (counted (start k) x) limit) (needs_true (timed k));
        offset = rw p (needs_true (zoned k));
      }

pub compact_from : (k : Kind) (s : List ℕ) (v : Value) → Octets s → read_compact k s ≡ accepted v → FromCompact k s v
unfolding read_compact read_number usual
compact_from k s v o e =
    let n = length s in
    let c = carried_in k n in
    let f = signed_of (take (if_any c 2) s) in
    let xs = drop (if_any c 2) s in
    let x = signed_of xs in
    let a = passed (both (leb (shortest k) n) (leb n (longest k))) 5 _ v e in
    let b = passed (both (leb (length xs) (number_octets k c x)) (needs (both c (timed k)) (not (eqb (nat_abs f) 0)))) 7 _ v a.1 in
    let d = passed (both (offset_in_range f) (number_in_range k c x)) 8 _ v b.1 in
    let l = both_true (leb (shortest k) n) _ a.0 in
    let m = both_true (leb (length xs) (number_octets k c x)) _ b.0 in
    let r = both_true (offset_in_range f) (number_in_range k c x) d.0 in
    let w : if_any c 2 + padded_to k c ≤ n = behind k n (leb-true _ _ l.0) in
    let u : length xs ≡ n - if_any c 2 = length-drop (if_any c 2) s in
    let one = padded_one k c in
    let i : number_octets k c x ≡ length xs = sizes k c x (length xs) (leb-true _ _ m.0) (omega arith) (fewest_octets_lem xs (drop_octets (if_any c 2) s o) (omega arith)) in
    let q : compact_value k (counted (start k) x) f ≡ v = same d.1 in
    let j : carried k (compact_value k (counted (start k) x) f) ≡ c = carry k s (counted (start k) x) m.1 in
    let y = number-again k c x f r.0 r.1 in
    record {
      range = rw (← q) (range_in k _ (value-range k c x f r.0 r.1));
      has = rw (← q) (has k c x f r.0 r.1 j);
      image = rw (← q) (imaged k c s x f j y (again (if_any c 2) (take (if_any c 2) s) (take_octets (if_any c 2) s o) (length-take-le (if_any c 2) s (omega arith)))
          (again (number_octets k c x) xs (drop_octets (if_any c 2) s o) (sym i)));
    }
  where
    sizes : (k : Kind) (c : Bool) (x : ℤ) (n : ℕ) → n ≤ number_octets k c x → padded_to k c ≤ n → fewest_octets x ≤ n → number_octets k c x ≡ n
    sizes k c x n p q r = unfold number_octets in omega arith

    carry : (k : Kind) (s : List ℕ) (n : ℕ)
        → needs (both (carried_in k (length s)) (timed k)) (not (eqb (nat_abs (signed_of (take (if_any (carried_in k (length s)) 2) s))) 0)) ≡ true
        → carried k (compact_value k n (signed_of (take (if_any (carried_in k (length s)) 2) s))) ≡ carried_in k (length s)
    carry k s n e = unfold carried_in carried compact_value in carried_again (zoned k) (timed k) (ltb (longest_plain k) (length s)) s e

    has : (k : Kind) (c : Bool) (x f : ℤ) (p : offset_in_range f ≡ true) (q : number_in_range k c x ≡ true)
        → carried k (compact_value k (counted (start k) x) f) ≡ c → has_compact k (compact_value k (counted (start k) x) f) ≡ true
    has k c x f p q j = unfold has_compact in rw (j, count-again k c x f p q) (before k c x f p q).1

    imaged : (k : Kind) (c : Bool) (s : List ℕ) (x f : ℤ) → carried k (compact_value k (counted (start k) x) f) ≡ c → number k (compact_value k (counted (start k) x) f) ≡ x
        → signed_octets (if_any c 2) f ≡ take (if_any c 2) s → signed_octets (number_octets k c x) x ≡ drop (if_any c 2) s
        → compact_image k (compact_value k (counted (start k) x) f) ≡ s
    imaged k c s x f j y p q = unfold compact_image compact_value in rw (j, y, p, q) (take-append-drop (if_any c 2) s)
