-- What is known at each place of a text, from what was answered up to there: its length, then the date, the `T`, the clock, the fraction and the
-- offset, each read or wrong. Over the kind, the digits and the octets; r is what was answered. Assumes nothing.
use Rattle.std.proofs.Common.{◌≡◌, ℕ, ◌+◌, ◌<◌, ◌≤◌, Bool, true, false, List, [], ◌∷◌, length, get_or, Option, Some, None, sym, refl, ap, ◌∙◌, arith, ne_eqb}
use Rattle.format.specs.Words.{both, if_any, refused}
use Rattle.format.specs.Calendar.{Day}
use Rattle.format.specs.Values.{Kind, dated, timed, zoned, text}
use Rattle.format.specs.Fields.{width, fits_at, says_at, widths, fit, says}
use Rattle.format.specs.Text.{date_row, clock_row, offset_row}
use Rattle.format.specs.TextReading.{digits_found, read_text}
use Rattle.format.specs.Reading.{read_as}
use Rattle.format.proofs.Cases.{both_true}
use Rattle.format.proofs.Fields.{Whole}
use Rattle.calendar.specs.declared.Date.{Date}
use Rattle.calendar.specs.Meaning.{day_from}
use Rattle.text.specs.declared.fraction.Digits.{Digits}
use Rattle.text.specs.declared.parts.Clock.{Clock}
use Rattle.text.specs.declared.parts.Zone.{Zone}
use Rattle.text.specs.declared.cursor.Cursor.{Cursor}
use Rattle.text.specs.Putting.{fraction_field}
use Rattle.text.specs.Pairs.{row_at, part_at}
use Rattle.text.specs.Parts.{minus_of}
use Rattle.text.specs.Cursors.{dated_row, timed_row, parted_row, zoned_row, dated_to, timed_to, parted_to, joint_by, pairs_by}
use Rattle.text.specs.Outcomes.{outcome_of}
use Rattle.text.proofs.PartLaws.{Below100, row_got, row_not}
use Rattle.text.proofs.Wholes.{date_width, clock_width, zone_width, parts_long, if_most, clock_long, unjoined, three_small_by, time_fit, time_says, time_unit, behind_fit, behind_says, part_got, part_not, part_below}
use Rattle.text.proofs.Texts.{micros_of, text_parts, no_date_lem, no_clock_lem, no_offset, refused_as, as_long}

-- the answer is that number
abbrev pub Refuses : Kind → List ℕ → ℕ → Type 0
Refuses k s n = refused n ≡ read_as k (text (digits_found k (length s))) s

-- the text is as long as one with d fraction digits
pub record Opened (k : Kind) (d : ℕ) (s : List ℕ) : Type 0 where
  pub found : d ≡ digits_found k (length s)
  pub few : d ≤ 6

-- the date is read, where the kind has one: a is behind it
pub record Headed (k : Kind) (d : ℕ) (s : List ℕ) (x : Day) (a : ℕ) : Type 0 where
  pub opened : Opened k d s
  pub date : Whole (date_row (dated k)) s 0 (x.year ∷ x.month ∷ x.day ∷ []) a

-- and the `T`, where the kind has date and time: at a is the clock
pub record Front (k : Kind) (d : ℕ) (s : List ℕ) (x : Day) (a : ℕ) : Type 0 where
  pub opened : Opened k d s
  pub behind : ℕ
  pub date : Whole (date_row (dated k)) s 0 (x.year ∷ x.month ∷ x.day ∷ []) behind
  pub fits : fit (clock_row (timed k) (dated k) d) s behind ≡ fit (clock_row (timed k) false d) s a
  pub says : says (clock_row (timed k) (dated k) d) s behind ≡ says (clock_row (timed k) false d) s a
  pub next : a + widths (clock_row (timed k) false d) ≡ behind + widths (clock_row (timed k) (dated k) d)

-- hour, minute and second too: at a is the fraction
pub record Paired (k : Kind) (d : ℕ) (s : List ℕ) (x : Day) (h m n a : ℕ) : Type 0 where
  pub opened : Opened k d s
  pub behind : ℕ
  pub date : Whole (date_row (dated k)) s 0 (x.year ∷ x.month ∷ x.day ∷ []) behind
  pub small : Below100 h m n
  pub fits : fit (clock_row (timed k) (dated k) d) s behind ≡ fits_at (fraction_field (if_any (timed k) d)) s a
  pub says : says (clock_row (timed k) (dated k) d) s behind ≡ h ∷ m ∷ n ∷ says_at (fraction_field (if_any (timed k) d)) s a ∷ []
  pub next : a + width (fraction_field (if_any (timed k) d)) ≡ behind + widths (clock_row (timed k) (dated k) d)

-- all that stands before the offset: at a is the offset, where the kind has one
pub record Rear (k : Kind) (d : ℕ) (s : List ℕ) (x : Day) (t : Clock) (a : ℕ) : Type 0 where
  pub opened : Opened k d s
  pub next : a ≡ widths (date_row (dated k)) + widths (clock_row (timed k) (dated k) d)
  pub reads : (z : Zone) → Whole (offset_row (zoned k)) s a (minus_of z.minus ∷ z.hours ∷ z.minutes ∷ []) (a + widths (offset_row (zoned k)))
      → read_text k d s ≡ outcome_of k x t.minute t.second t.time.micros z

-- every octet is right: reading comes to what the numbers say
pub record Said (k : Kind) (d : ℕ) (s : List ℕ) (x : Day) (t : Clock) (z : Zone) : Type 0 where
  pub opened : Opened k d s
  pub read : read_text k d s ≡ outcome_of k x t.minute t.second t.time.micros z

-- the clock that such numbers make
abbrev pub clock_with : ℕ → ℕ → ℕ → ℕ → Clock
clock_with h m n u = record { minute = m; second = n; time = record { micros = micros_of h m n u } }

pub open_text : {k j : Kind} {s : List ℕ} (x : Digits) → j ≡ k → x.number ≡ digits_found j (length s) → Opened k x.number s
open_text x e h = record { found = rw e at h; few = x.few }

module _ {k : Kind} {d : ℕ} {s : List ℕ} (o : Opened k d s) where
  long : length s ≡ widths (date_row (dated k)) + (widths (clock_row (timed k) (dated k) d) + widths (offset_row (zoned k)))
  long = as_long k d s o.found o.few ∙ parts_long k d

  pub refuses : (n : ℕ) → read_text k d s ≡ refused n → Refuses k s n
  refuses n h = refused_as k d s o.found n h

  -- ---- the date

  pub date_room : 0 + if_any (dated k) 10 ≤ length s
  date_room = omega (arith, date_width (dated k), long)

  pub date_wrong : {r : Option (Date × Cursor)} → r ≡ None → dated_row r ≡ row_at (date_row (dated k)) s 0 → Refuses k s 6
  date_wrong e h = refuses 6 (no_date_lem k d s o.few (row_not (date_row (dated k)) s 0 6 (sym h ∙ ap dated_row e)))

  pub date_read : {r : Option (Date × Cursor)} {x : Date} {c : Cursor} → r ≡ Some (x, c)
      → (dated_row r ≡ row_at (date_row (dated k)) s 0) × dated_to (0 + if_any (dated k) 10) r → Headed k d s (day_from x) c.at
  date_read {c = c} e h =
      let place : c.at ≡ 0 + if_any (dated k) 10 = rw e at h.1 in
      let p = row_got (date_row (dated k)) s 0 _ (sym h.0 ∙ ap dated_row e) in
      record { opened = o; date = record { fits = p.0; says = p.1; next = omega (arith, place, date_width (dated k)) } }

-- ---- the `T`

module _ {k : Kind} {d : ℕ} {s : List ℕ} {x : Day} {a : ℕ} (f : Headed k d s x a) where
  pub joint_room : both (dated k) (timed k) ≡ true → a < length s
  joint_room b =
      let w : widths (clock_row (timed k) (dated k) d) ≡ 1 + (if_any (timed k) 8 + width (fraction_field (if_any (timed k) d))) = clock_long (timed k) (dated k) d ∙ rw b in
      omega (arith, f.date.next, w, long f.opened)

  ten : dated k ≡ true → a ≡ 10
  ten b =
      let w : widths (date_row (dated k)) ≡ 10 = rw b (date_width true) in
      omega (arith, f.date.next, w)

  pub joint_wrong : {r : Option Cursor} → r ≡ None → joint_by (both (dated k) (timed k)) s a r → Refuses k s 6
  joint_wrong {r} e h = go (both (dated k) (timed k)) refl (rw e at h)
    where
      go : (b : Bool) → both (dated k) (timed k) ≡ b → joint_by b s a None → Refuses k s 6
      go true b h =
          let p = both_true (dated k) (timed k) b in
          let none : get_or s 10 0 ≡ 84 → ⊥ = rw (ten p.0) at h in
          refuses f.opened 6 (no_clock_lem k d s f.opened.few 10 (omega (arith, f.date.next, ten p.0)) (rw (p.0, p.1, behind_fit d s, ne_eqb (get_or s 10 0) 84 none)))
      go false b h = absurd h

  pub joint_read : {r : Option Cursor} {c : Cursor} → r ≡ Some c → joint_by (both (dated k) (timed k)) s a r → Front k d s x c.at
  joint_read {c = c} e h = go (both (dated k) (timed k)) refl (rw e at h)
    where
      go : (b : Bool) → both (dated k) (timed k) ≡ b → joint_by b s a (Some c) → Front k d s x c.at
      go true b h =
          let p = both_true (dated k) (timed k) b in
          let there : (get_or s 10 0 ≡ 84) × (c.at ≡ 11) = rw (ten p.0) at h in
          record {
            opened = f.opened;
            behind = 10;
            date = rw (ten p.0) at f.date;
            fits = rw (p.0, p.1, there.1, behind_fit d s, there.0);
            says = rw (p.0, p.1, there.1, behind_says d s);
            next = rw (p.0, p.1) (omega (arith, there.1, clock_width true true d, clock_width true false d));
          }
      go false b h =
          let same_row = unjoined (timed k) (dated k) d b in
          record {
            opened = f.opened;
            behind = a;
            date = f.date;
            fits = rw (same_row, h);
            says = rw (same_row, h);
            next = rw (same_row, h);
          }

-- ---- the clock

module _ {k : Kind} {d : ℕ} {s : List ℕ} {x : Day} {a : ℕ} (f : Front k d s x a) where
  pub clock_room : a + if_any (timed k) 8 ≤ length s
  clock_room = omega (arith, f.next, f.date.next, long f.opened, clock_long (timed k) false d)

  pub clock_wrong : {r : Option (ℕ × ℕ × ℕ × Cursor)} → r ≡ None → timed_row r ≡ row_at (pairs_by (timed k)) s a → Refuses k s 6
  clock_wrong e h =
      refuses f.opened 6
      (no_clock_lem k d s f.opened.few f.behind (omega (arith, f.date.next))
      (f.fits ∙ rw (time_fit d s (timed k) a, row_not (pairs_by (timed k)) s a 6 (sym h ∙ ap timed_row e))))

  pub clock_read : {r : Option (ℕ × ℕ × ℕ × Cursor)} {h m n : ℕ} {c : Cursor} → r ≡ Some (h, m, n, c)
      → (timed_row r ≡ row_at (pairs_by (timed k)) s a) × timed_to (a + if_any (timed k) 8) r → Paired k d s x h m n c.at
  clock_read {h = h} {m = m} {n = n} {c = c} e g =
      let place : c.at ≡ a + if_any (timed k) 8 = rw e at g.1 in
      let row = sym g.0 ∙ ap timed_row e in
      let p = row_got (pairs_by (timed k)) s a _ row in
      record {
        opened = f.opened;
        behind = f.behind;
        date = f.date;
        small = three_small_by (timed k) s a h m n row;
        fits = f.fits ∙ rw (time_fit d s (timed k) a, p.0, place);
        says = f.says ∙ rw (time_says d s (timed k) a, p.1, place);
        next = omega (arith, place, f.next, clock_long (timed k) false d);
      }

-- ---- the fraction

module _ {k : Kind} {d : ℕ} {s : List ℕ} {x : Day} {h m n a : ℕ} (f : Paired k d s x h m n a) where
  pub clock_small : (h ≤ 255) × (m ≤ 255) × (n ≤ 255)
  clock_small = (omega (arith, f.small.first), omega (arith, f.small.second), omega (arith, f.small.third))

  pub part_room : a + width (fraction_field (if_any (timed k) d)) ≤ length s
  part_room = omega (arith, f.next, f.date.next, long f.opened)

  pub part_wrong : {r : Option (ℕ × Cursor)} → r ≡ None → parted_row r ≡ part_at (if_any (timed k) d) s a → Refuses k s 6
  part_wrong e g =
      refuses f.opened 6 (no_clock_lem k d s f.opened.few f.behind (omega (arith, f.date.next)) (f.fits ∙ part_not (if_any (timed k) d) s a 6 (sym g ∙ ap parted_row e)))

  pub part_read : {r : Option (ℕ × Cursor)} {u : ℕ} {c : Cursor} → r ≡ Some (u, c)
      → (parted_row r ≡ part_at (if_any (timed k) d) s a) × parted_to (a + width (fraction_field (if_any (timed k) d))) r → Rear k d s x (clock_with h m n u) c.at
  part_read {u = u} {c = c} e g =
      let place : c.at ≡ a + width (fraction_field (if_any (timed k) d)) = rw e at g.1 in
      let q = part_got (if_any (timed k) d) s a u (sym g.0 ∙ ap parted_row e) in
      let few : if_any (timed k) d ≤ 6 = omega (arith, if_most (timed k) d, f.opened.few) in
      record {
        opened = f.opened;
        next = omega (arith, place, f.next, f.date.next);
        reads = λ z w. text_parts k d s f.opened.few x h m n (says_at (fraction_field (if_any (timed k) d)) s a) u f.behind c.at _ z f.date
            (record { fits = f.fits ∙ q.0; says = f.says; next = omega (arith, place, f.next) }) w (q.1 ∙ time_unit d s (timed k) a) (rw q.1 (part_below (if_any (timed k) d) s a few q.0));
      }

-- ---- the offset

module _ {k : Kind} {d : ℕ} {s : List ℕ} {x : Day} {t : Clock} {a : ℕ} (f : Rear k d s x t a) where
  pub zone_room : a + if_any (zoned k) 6 ≤ length s
  zone_room = omega (arith, zone_width (zoned k), f.next, long f.opened)

  pub zone_wrong : {r : Option (Zone × Cursor)} → r ≡ None → zoned_row r ≡ row_at (offset_row (zoned k)) s a → Refuses k s 6
  zone_wrong e h =
      refuses f.opened 6 (no_offset k d s f.opened.few a f.next (row_not (offset_row (zoned k)) s a 6 (sym h ∙ ap zoned_row e)))

  -- v is the clock that was made of the numbers
  pub zone_read : {v : Clock} → v ≡ t → {r : Option (Zone × Cursor)} {z : Zone} {c : Cursor} → r ≡ Some (z, c)
      → zoned_row r ≡ row_at (offset_row (zoned k)) s a → Said k d s x v z
  zone_read made {z = z} e h =
      let p = row_got (offset_row (zoned k)) s a _ (sym h ∙ ap zoned_row e) in
      rw made (record { opened = f.opened; read = f.reads z (record { fits = p.0; says = p.1; next = refl }) })
