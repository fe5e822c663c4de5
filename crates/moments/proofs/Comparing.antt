-- Two stamps with one offset: their instants are ordered as their local readings are, and with one instant they are one stamp, or one of them is at 24:00
-- and the other the next day's start. Assumes nothing.
--     next_good, next_instant   the start of the day after a stamp at 24:00 is in range, and has its instant
--     later                     the order
--     one_stamp                 the stamps with one offset and one instant
use mathlib.Core.Path.{◌≡◌, sym, ◌∙◌, ap}
use mathlib.Core.Logic.{◌⊎◌, inl, inr, ⊎_elim}
use mathlib.Core.Bool.{true}
use Prim.Native.Nat.{suc, ◌<◌}
use native.Mathlib.Omega.{arith}
use lib.IntN.{pos, nat_abs, neg_ℤ, ◌-ℤ◌}
use lib.Dec.{ltb}
use lib.Signed.{lt_z}
use Rattle.format.specs.Calendar.{day_number, day_of}
use Rattle.format.specs.Values.{DatetimeTz, Value, in_range}
use Rattle.format.proofs.Cases.{lt_or_le}
use Rattle.format.proofs.Dates.{date_number, number_date}
use Rattle.moments.specs.Instant.{local_of, ahead, instant_of, local_at, stamp_of, next_start}
use Rattle.moments.proofs.Stamps.{good, good_back, stamp_back, stamp_next}
use Rattle.moments.proofs.Order.{plus_order}
use Rattle.moments.proofs.Restating.{own_local}

-- ---- 24:00 and the next day's start

pub next_good : (v : Value) → in_range DatetimeTz v ≡ true → day_number v.date < 3652058 → in_range DatetimeTz (next_start v) ≡ true
next_good v r d =
    let n = number_date (suc (day_number v.date)) (omega arith) in
    good_back (next_start v) (record { day = n.0; time = omega arith; offset = (good v r).offset })

next_local : (v : Value) → v.micros ≡ 86400000000 → day_number v.date < 3652058 → local_of (next_start v) ≡ local_of v
unfolding local_of
next_local v m d = let n = number_date (suc (day_number v.date)) (omega arith) in rw n.1 (omega arith)

pub next_instant : (v : Value) → v.micros ≡ 86400000000 → day_number v.date < 3652058 → instant_of (next_start v) ≡ instant_of v
unfolding instant_of
next_instant v m d = ap (λ z. pos z -ℤ ahead v.offset) (next_local v m d)

-- ---- two stamps with one offset

pub later : (v w : Value) → v.offset ≡ w.offset → lt_z (instant_of v) (instant_of w) ≡ ltb (local_of v) (local_of w)
unfolding instant_of
later v w o =
    ap (λ z. lt_z (pos (local_of v) -ℤ ahead v.offset) (pos (local_of w) -ℤ ahead z)) (sym o)
    ∙ plus_order (pos (local_of v)) (pos (local_of w)) (neg_ℤ (ahead v.offset))

same_local : (v w : Value) → v.offset ≡ w.offset → instant_of v ≡ instant_of w → local_of v ≡ local_of w
same_local v w o i =
    ap nat_abs (sym (own_local v) ∙ ap (λ z. local_at z v.offset) i ∙ ap (local_at (instant_of w)) o ∙ own_local w)

-- at the end of their days
same_day : (v w : Value) → v.micros ≡ 86400000000 → w.micros ≡ 86400000000 → local_of v ≡ local_of w → day_number v.date ≡ day_number w.date
unfolding local_of
same_day v w m n l = omega arith

same_value : (v w : Value) → v.date ≡ w.date → v.micros ≡ w.micros → v.offset ≡ w.offset → v ≡ w
same_value v w d m o =
    ap (λ z. record { date = z; micros = v.micros; offset = v.offset }) d
    ∙ ap (λ z. record { date = w.date; micros = z; offset = v.offset }) m
    ∙ ap (λ z. record { date = w.date; micros = w.micros; offset = z }) o

module _ (v w : Value) (g : in_range DatetimeTz v ≡ true) (h : in_range DatetimeTz w ≡ true) (o : v.offset ≡ w.offset) (i : instant_of v ≡ instant_of w) where
  readings : stamp_of (local_of v) v.offset ≡ stamp_of (local_of w) w.offset
  readings = ap (λ z. stamp_of z v.offset) (same_local v w o i) ∙ ap (stamp_of (local_of w)) o

  both-at-end : v.micros ≡ 86400000000 → w.micros ≡ 86400000000 → v ≡ w
  both-at-end m n =
      let d = same_day v w m n (same_local v w o i) in
      same_value v w (sym (date_number v.date (good v g).day) ∙ ap day_of d ∙ date_number w.date (good w h).day) (m ∙ sym n) o

  pub one_stamp : (v ≡ w) ⊎ (((v.micros ≡ 86400000000) × (w ≡ next_start v)) ⊎ ((w.micros ≡ 86400000000) × (v ≡ next_start w)))
  one_stamp =
      let s = (good v g).time in
      let t = (good w h).time in
      ⊎_elim
      (λ m. ⊎_elim
      (λ n. inl (sym (stamp_back v g m) ∙ readings ∙ stamp_back w h n))
      (λ n. let e : w.micros ≡ 86400000000 = omega arith in inr (inr (e, sym (stamp_back v g m) ∙ readings ∙ stamp_next w e)))
      (lt_or_le w.micros 86400000000))
      (λ m. let e : v.micros ≡ 86400000000 = omega arith in ⊎_elim
      (λ n. inr (inl (e, sym (stamp_back w h n) ∙ sym readings ∙ stamp_next v e)))
      (λ n. inl (both-at-end e (omega arith)))
      (lt_or_le w.micros 86400000000))
      (lt_or_le v.micros 86400000000)
