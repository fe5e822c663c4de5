-- What reading comes to, by the length and by what was taken from the octets. Assumes nothing.
use mathlib.Core.Path.{◌≡◌, refl, sym, ◌∙◌}
use mathlib.Core.Bool.{Bool, true, false, not}
use mathlib.Core.List.{List}
use Prim.Native.Nat.{ℕ}
use lib.IntN.{ℤ, pos, nat_abs}
use lib.Dec.{eqb}
use lib.ListN.{length, take}
use Rattle.std.specs.Prelude.{Option, Some}
use Rattle.std.specs.Option.{is_some, unwrap_or}
use Rattle.format.specs.Words.{both, needs, if_any, Outcome, refused}
use Rattle.format.specs.Values.{Kind, Value}
use Rattle.format.specs.Octets.{signed_of}
use Rattle.format.specs.CompactReading.{carried_in, read_number, read_compact}
use Rattle.compact.specs.declared.reading.Taken.{Taken}
use Rattle.compact.specs.Meaning.{has_length, offset_at, Takes, Sees, read_taken}

-- ---- an offset where one stands in front

front_at : (front : Bool) (s : List ℕ) → is_some (offset_at front s) ≡ front
front_at true s = refl
front_at false s = refl

minutes_at : (front : Bool) (s : List ℕ) → unwrap_or (offset_at front s) (pos 0) ≡ signed_of (take (if_any front 2) s)
unfolding signed_of
minutes_at true s = refl
minutes_at false s = refl

-- whether it may be zero
pub needed_at : (front timed : Bool) (s : List ℕ) {o : Option ℤ} → o ≡ offset_at front s
    → needs (both (is_some o) timed) (not (eqb (nat_abs (unwrap_or o (pos 0))) 0)) ≡ needs (both front timed) (not (eqb (nat_abs (signed_of (take (if_any front 2) s))) 0))
needed_at front timed s e = rw (e, front_at front s, minutes_at front s)

-- ---- by the length, and by what was taken

module _ (k : Kind) (s : List ℕ) where
  pub no_length : has_length k s ≡ false → read_compact k s ≡ refused 5
  unfolding read_compact
  no_length e = rw e

  pub by_taken : (t : Taken) → has_length k s ≡ true → Takes k (carried_in k (length s)) s t → read_compact k s ≡ read_taken k t
  unfolding read_compact read_number read_taken
  by_taken t e h =
      rw (e, ← h.number, ← h.usual, h.offset, front_at (carried_in k (length s)) s, minutes_at (carried_in k (length s)) s)

  -- what was seen at a glance is what was taken
  pub by_seen : (t : Taken) {o : Outcome Value} → Sees k s (Some t) → o ≡ read_taken k t → o ≡ read_compact k s
  by_seen t h a = a ∙ sym (by_taken t h.0 h.1)
