-- A local reading and its stamp: there and back. Assumes nothing.
--     local_small        the local reading of a value in range is at most that of the end of 9999-12-31
--     ahead_size         an offset in microseconds is less than a day
--     stamp_local        the stamp of a local reading has it
--     stamp_good         and is in range
--     stamp_back         a value in range, not at 24:00, is the stamp of its local reading
--     stamp_next         at 24:00 that stamp is the next day's start
use mathlib.Core.Path.{◌≡◌, refl}
use mathlib.Core.Bool.{true}
use Prim.Native.Nat.{ℕ, zero, suc, ◌+◌, ◌*◌, ◌/◌, ◌%◌, ◌≤◌, ◌<◌}
use native.Mathlib.Omega.{arith}
use lib.IntN.{ℤ, pos, negsuc, neg_ℤ, nat_abs}
use lib.Dec.{leb}
use borrow.Author.Tests.{le-leb, leb-true}
use Rattle.format.specs.Calendar.{is_day, day_number}
use Rattle.format.specs.Values.{DatetimeTz, Value, in_range, time_in_range, offset_in_range}
use Rattle.format.proofs.Cases.{both_true}
use Rattle.format.proofs.Dates.{number_small, date_number, number_date}
use Rattle.moments.specs.Instant.{local_of, ahead, stamp_of, next_start}

pub record Good (v : Value) : Type 0 where
  pub day : is_day v.date ≡ true
  pub time : v.micros ≤ 86400000000
  pub offset : offset_in_range v.offset ≡ true

pub good : (v : Value) → in_range DatetimeTz v ≡ true → Good v
unfolding in_range time_in_range
good v r =
    let d = both_true (is_day v.date) _ r in
    let t = both_true (leb v.micros 86400000000) _ d.1 in
    record { day = d.0; time = leb-true v.micros 86400000000 t.0; offset = t.1 }

pub good_back : (v : Value) → Good v → in_range DatetimeTz v ≡ true
unfolding in_range time_in_range
good_back v g = rw (g.day, le-leb v.micros 86400000000 g.time, g.offset) refl

pub local_small : (v : Value) → in_range DatetimeTz v ≡ true → local_of v ≤ 315537897600000000
unfolding local_of
local_small v r =
    let g = good v r in
    let n = number_small v.date g.day in
    let m = g.time in
    omega arith

pub offset_small : (v : Value) → in_range DatetimeTz v ≡ true → nat_abs v.offset ≤ 1439
unfolding offset_in_range
offset_small v r = leb-true (nat_abs v.offset) 1439 (good v r).offset

pub neg_size : (z : ℤ) → nat_abs (neg_ℤ z) ≡ nat_abs z
neg_size (pos zero) = refl
neg_size (pos (suc n)) = refl
neg_size (negsuc n) = refl

pub ahead_size : (o : ℤ) → offset_in_range o ≡ true → nat_abs (ahead o) ≤ 86340000000
unfolding offset_in_range ahead
ahead_size (pos m) e = omega (arith, leb-true m 1439 e)
ahead_size (negsuc m) e = rw (neg_size (pos (suc m * 60000000))) (omega (arith, leb-true (suc m) 1439 e))

pub stamp_local : (n : ℕ) (o : ℤ) → n < 315537897600000000 → local_of (stamp_of n o) ≡ n
unfolding local_of stamp_of
stamp_local n o h =
    let d = number_date (n / 86400000000) (omega arith) in
    rw d.1 (omega arith)

pub stamp_good : (n : ℕ) (o : ℤ) → n < 315537897600000000 → offset_in_range o ≡ true → in_range DatetimeTz (stamp_of n o) ≡ true
unfolding stamp_of
stamp_good n o h e =
    let d = number_date (n / 86400000000) (omega arith) in
    good_back (stamp_of n o) (record { day = d.0; time = omega arith; offset = e })

pub stamp_time : (n : ℕ) (o : ℤ) → (stamp_of n o).micros < 86400000000
unfolding stamp_of
stamp_time n o = omega arith

pub stamp_offset : (n : ℕ) (o : ℤ) → (stamp_of n o).offset ≡ o
unfolding stamp_of
stamp_offset n o = refl

pub stamp_back : (v : Value) → in_range DatetimeTz v ≡ true → v.micros < 86400000000 → stamp_of (local_of v) v.offset ≡ v
unfolding local_of stamp_of
stamp_back v r h =
    let D = day_number v.date in
    let q : (D * 86400000000 + v.micros) / 86400000000 ≡ D = omega arith in
    let m : (D * 86400000000 + v.micros) % 86400000000 ≡ v.micros = omega arith in
    rw (q, m, date_number v.date (good v r).day) refl

pub stamp_next : (v : Value) → v.micros ≡ 86400000000
    → stamp_of (local_of v) v.offset ≡ next_start v
unfolding local_of stamp_of
stamp_next v h =
    let D = day_number v.date in
    let q : (D * 86400000000 + v.micros) / 86400000000 ≡ suc D = omega arith in
    let m : (D * 86400000000 + v.micros) % 86400000000 ≡ 0 = omega arith in
    rw (q, m) refl
