-- What is answered of a text whose octets are all right, by what its numbers are: -00:00, a part out of its range, or the stamp. Over the kind;
-- b is what a test answered. Assumes nothing.
use Rattle.std.proofs.Common.{◌≡◌, ℕ, Bool, true, false, not, eqb, leb, List, length, sym, ◌∙◌, refl}
use Rattle.format.specs.Words.{both, needs, accepted, refused, unless}
use Rattle.format.specs.Calendar.{Day, is_day}
use Rattle.format.specs.Values.{Kind, dated, time_in_range, text}
use Rattle.format.specs.TextReading.{digits_found}
use Rattle.format.specs.Reading.{read_as}
use Rattle.format.proofs.Cases.{both_true, both_false}
use Rattle.calendar.specs.declared.Date.{Date}
use Rattle.calendar.specs.Meaning.{day_from}
use Rattle.values.specs.declared.parts.Time.{Time}
use Rattle.values.specs.declared.parts.Offset.{Offset}
use Rattle.values.specs.Meaning.{value_from}
use Rattle.text.specs.declared.parts.Zone.{Zone}
use Rattle.text.specs.declared.parts.Clock.{Clock}
use Rattle.text.specs.Parts.{clock_in_day, offset_of}
use Rattle.text.specs.Outcomes.{outcome_of}
use Rattle.text.proofs.Rows.{fails}
use Rattle.text.proofs.Texts.{accepted_as}
use Rattle.text.proofs.Places.{Refuses, Said, refuses}

abbrev redundant : Zone → Bool
redundant z = both z.minus (both (eqb z.hours 0) (eqb z.minutes 0))

abbrev zone_fits : Zone → Bool
zone_fits z = both (leb z.hours 23) (leb z.minutes 59)

-- and it is not -00:00
pub record Plain (k : Kind) (d : ℕ) (s : List ℕ) (x : Day) (t : Clock) (z : Zone) : Type 0 where
  pub said : Said k d s x t z
  pub plain : redundant z ≡ false

module _ {k : Kind} {d : ℕ} {s : List ℕ} {x : Day} {t : Clock} {z : Zone} where
  module _ (w : Said k d s x t z) where
    pub is_redundant : {b : Bool} → b ≡ redundant z → b ≡ true → Refuses k s 7
    is_redundant e h = refuses w.opened 7 (w.read ∙ (unfold outcome_of in rw (sym e ∙ h)))

    pub not_redundant : {b : Bool} → b ≡ redundant z → b ≡ false → Plain k d s x t z
    not_redundant e h = record { said = w; plain = sym e ∙ h }

  module _ (w : Plain k d s x t z) where
    out_of_range : outcome_of k x t.minute t.second t.time.micros z ≡ refused 8 → Refuses k s 8
    out_of_range h = refuses w.said.opened 8 (w.said.read ∙ h)

    pub no_day : {b : Bool} → b ≡ needs (dated k) (is_day x) → not b ≡ true → Refuses k s 8
    no_day e h = out_of_range (unfold outcome_of in rw (w.plain, fails e h))

    pub no_time : {b : Bool} → b ≡ clock_in_day t.minute t.second t.time.micros → not b ≡ true → Refuses k s 8
    no_time e h = out_of_range (unfold outcome_of in rw (w.plain, fails e h, both_false (needs (dated k) (is_day x))))

    pub no_zone_lem : {b : Bool} → b ≡ zone_fits z → not b ≡ true → Refuses k s 8
    no_zone_lem e h =
        out_of_range (unfold outcome_of in rw (w.plain, fails e h, both_false (clock_in_day t.minute t.second t.time.micros), both_false (needs (dated k) (is_day x))))

    pub stamped : needs (dated k) (is_day x) ≡ true → clock_in_day t.minute t.second t.time.micros ≡ true → zone_fits z ≡ true
        → {y : Date} {v : Time} {o : Offset} → day_from y ≡ x → v ≡ t.time → o.minutes ≡ offset_of z
        → accepted (record { kind = k; form = text d; value = value_from (record { date = y; time = v; offset = o }) }) ≡ read_as k (text (digits_found k (length s))) s
    unfolding outcome_of
    stamped f g h {v = v} a b c =
        accepted_as k d s w.said.opened.found _ (w.said.read ∙ rw (w.plain, f, g, h, a, b, c))

    -- where it was not yet asked whether there is such a day
    pub all_but_the_day : clock_in_day t.minute t.second t.time.micros ≡ true → zone_fits z ≡ true
        → {y : Date} {v : Time} {o : Offset} → day_from y ≡ x → v ≡ t.time → o.minutes ≡ offset_of z
        → unless (needs (dated k) (is_day (day_from y))) 8 (accepted (record { kind = k; form = text d; value = value_from (record { date = y; time = v; offset = o }) }))
        ≡ read_as k (text (digits_found k (length s))) s
    all_but_the_day g h {y} {v} {o} a b c = go (needs (dated k) (is_day (day_from y))) refl
      where
        go : (n : Bool) → n ≡ needs (dated k) (is_day (day_from y))
            → unless n 8 (accepted (record { kind = k; form = text d; value = value_from (record { date = y; time = v; offset = o }) })) ≡ read_as k (text (digits_found k (length s))) s
        go true e = stamped (rw a at (sym e)) g h a b c
        go false e = no_day (rw a at e) refl

pub in_day : (m n u : ℕ) → clock_in_day m n u ≡ true → time_in_range u ≡ true
in_day m n u e = (both_true (leb n 59) _ (both_true (leb m 59) _ e).1).1
