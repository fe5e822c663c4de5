-- Restating a stamp, and the stamp of an instant at an offset. Assumes nothing.
--     at_bad_offset      an offset out of range is refused, whatever the instant is
--     restate_is         of a stamp and an offset in range: accepted with the stamp of the local reading there, or 9
--     restated           what an accepted restating tells
--     at_only, restate_only   whatever stamp in range has that instant at that offset and is not at 24:00 is the result
--     own_offset, own_end, own_last   at its own offset: the stamp, the next day's start, 9
use mathlib.Core.Path.{◌≡◌, refl, sym, ◌∙◌, ap}
use mathlib.Core.Bool.{Bool, true, false}
use Prim.Native.Nat.{◌≤◌, ◌<◌}
use native.Mathlib.Omega.{arith}
use lib.IntN.{ℤ, pos, nat_abs, -ℤ-+ℤ_cancel}
use borrow.Author.Tests.{lt-ltb, le-ltb}
use Rattle.format.specs.Words.{Outcome, accepted, refused, unless}
use Rattle.format.specs.Calendar.{day_number}
use Rattle.format.specs.Values.{DatetimeTz, Value, in_range, offset_in_range}
use Rattle.format.proofs.Cases.{passed, same}
use Rattle.format.proofs.Dates.{number_small}
use Rattle.moments.specs.Instant.{local_of, ahead, instant_of, is_instant, local_at, in_years, stamp_of, next_start}
use Rattle.moments.specs.Calls.{at, restate}
use Rattle.moments.proofs.Stamps.{good, stamp_time, stamp_offset, stamp_back, stamp_next}
use Rattle.moments.proofs.Limits.{at_good, at_instant, within}

-- the last step: the local reading there is within the years, or it is not
abbrev pub placed : ℤ → ℤ → Outcome Value
placed i o = unless (in_years (local_at i o)) 9 (accepted (stamp_of (nat_abs (local_at i o)) o))

pub at_is : (i o : ℤ) → is_instant i ≡ true → offset_in_range o ≡ true → at i o ≡ placed i o
unfolding at
at_is i o h g = rw (h, g) refl

pub restate_is : (v : Value) (o : ℤ) → in_range DatetimeTz v ≡ true → offset_in_range o ≡ true → restate v o ≡ placed (instant_of v) o
unfolding restate
restate_is v o r g = rw r (at_is (instant_of v) o (within v r) g)

pub restate_bad : (v : Value) (o : ℤ) → in_range DatetimeTz v ≡ false → restate v o ≡ refused 2
unfolding restate
restate_bad v o r = rw r refl

pub at_bad_offset : (i o : ℤ) → offset_in_range o ≡ false → at i o ≡ refused 2
unfolding at
at_bad_offset i o g = rw g (by (is_instant i))
  where
    by : (s : Bool) → unless s 2 (unless false 2 (placed i o)) ≡ refused 2
    by true = refl
    by false = refl

pub restate_bad_offset : (v : Value) (o : ℤ) → offset_in_range o ≡ false → restate v o ≡ refused 2
unfolding restate
restate_bad_offset v o g = rw (at_bad_offset (instant_of v) o g) (by (in_range DatetimeTz v))
  where
    by : (r : Bool) → unless {A = Value} r 2 (refused 2) ≡ refused 2
    by true = refl
    by false = refl

-- ---- what an accepted one tells

pub record Placed (i o : ℤ) (w : Value) : Type 0 where
  pub range : in_range DatetimeTz w ≡ true
  pub instant : instant_of w ≡ i
  pub offset : w.offset ≡ o
  pub time : w.micros < 86400000000

was_placed : (i o : ℤ) (w : Value) → offset_in_range o ≡ true → placed i o ≡ accepted w → Placed i o w
was_placed i o w g e =
    let s = stamp_of (nat_abs (local_at i o)) o in
    let p = passed (in_years (local_at i o)) 9 (accepted s) w e in
    let z : s ≡ w = same p.1 in
    record {
      range = ap (in_range DatetimeTz) (sym z) ∙ at_good i o g p.0;
      instant = ap instant_of (sym z) ∙ at_instant i o p.0;
      offset = ap (λ x. x.offset) (sym z) ∙ stamp_offset (nat_abs (local_at i o)) o;
      time = rw z at (stamp_time (nat_abs (local_at i o)) o);
    }

pub was_at : (i o : ℤ) (w : Value) → at i o ≡ accepted w → (is_instant i ≡ true) × (offset_in_range o ≡ true) × Placed i o w
unfolding at
was_at i o w e =
    let p = passed (is_instant i) 2 (unless (offset_in_range o) 2 (placed i o)) w e in
    let q = passed (offset_in_range o) 2 (placed i o) w p.1 in
    (p.0, q.0, was_placed i o w q.0 q.1)

pub restated : (v : Value) (o : ℤ) (w : Value) → restate v o ≡ accepted w
    → (in_range DatetimeTz v ≡ true) × (offset_in_range o ≡ true) × Placed (instant_of v) o w
unfolding restate
restated v o w e =
    let p = passed (in_range DatetimeTz v) 2 (at (instant_of v) o) w e in
    let q = was_at (instant_of v) o w p.1 in
    (p.0, q.1, q.2)

-- ---- at its own offset

pub own_local : (v : Value) → local_at (instant_of v) v.offset ≡ pos (local_of v)
unfolding local_at instant_of
own_local v = -ℤ-+ℤ_cancel (pos (local_of v)) (ahead v.offset)

place_own : (v : Value) → local_of v < 315537897600000000 → placed (instant_of v) v.offset ≡ accepted (stamp_of (local_of v) v.offset)
place_own v h = rw (own_local v, lt-ltb (local_of v) 315537897600000000 h) refl

pub own_offset : (v : Value) → in_range DatetimeTz v ≡ true → v.micros < 86400000000 → placed (instant_of v) v.offset ≡ accepted v
own_offset v r h =
    let n = number_small v.date (good v r).day in
    place_own v (unfold local_of in omega arith) ∙ ap accepted (stamp_back v r h)

pub own_end : (v : Value) → v.micros ≡ 86400000000 → day_number v.date < 3652058 → placed (instant_of v) v.offset ≡ accepted (next_start v)
own_end v h d = place_own v (unfold local_of in omega arith) ∙ ap accepted (stamp_next v h)

pub own_last : (v : Value) → v.micros ≡ 86400000000 → day_number v.date ≡ 3652058 → placed (instant_of v) v.offset ≡ refused 9
own_last v h d =
    let l : 315537897600000000 ≤ local_of v = unfold local_of in omega arith in
    rw (own_local v, le-ltb (local_of v) 315537897600000000 l) refl

-- ---- no other

pub at_only : (i o : ℤ) (w : Value) → in_range DatetimeTz w ≡ true → instant_of w ≡ i → w.offset ≡ o → w.micros < 86400000000 → at i o ≡ accepted w
at_only i o w g e f h =
    ap (λ z. at z o) (sym e) ∙ ap (at (instant_of w)) (sym f) ∙ at_is (instant_of w) w.offset (within w g) (good w g).offset ∙ own_offset w g h

pub restate_only : (v : Value) (o : ℤ) (w : Value) → in_range DatetimeTz v ≡ true → in_range DatetimeTz w ≡ true
    → instant_of w ≡ instant_of v → w.offset ≡ o → w.micros < 86400000000 → restate v o ≡ accepted w
unfolding restate
restate_only v o w r g e f h = rw r (at_only (instant_of v) o w g e f h)
