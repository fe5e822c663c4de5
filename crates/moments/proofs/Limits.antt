-- The limits of the instants are those that some stamp has; and the stamp of an instant at an offset has that instant. Assumes nothing.
--     instant_is, instant_had   a value in range has its instant, and what has one is in range
--     at_good, at_instant    the stamp of an instant at an offset is in range and has the instant, where the local reading is within the years
--     within                 the instant of a value in range is within the limits
--     some_stamp             and each number within them is the instant of some value in range
use mathlib.Core.Path.{◌≡◌, refl}
use mathlib.Core.Logic.{⊎_elim}
use mathlib.Core.Bool.{Bool, true, false, cond}
use Prim.Native.Nat.{ℕ, zero, suc, ◌+◌, ◌-◌, ◌*◌, ◌≤◌, ◌<◌}
use native.Mathlib.Omega.{arith}
use lib.IntN.{ℤ, pos, negsuc, nat_abs, neg_ℤ-neg_ℤ, ◌-ℤ◌, +ℤ-neg_ℤ_cancel}
use lib.Dec.{ltb}
use borrow.Author.Tests.{le-leb, lt-ltb, ltb-true}
use Rattle.format.specs.Words.{accepted}
use Rattle.format.specs.Calendar.{day_of}
use Rattle.format.specs.Values.{DatetimeTz, Value, in_range, offset_in_range}
use Rattle.format.proofs.Cases.{lt_or_le, never, passed, same}
use Rattle.format.proofs.Dates.{number_date}
use Rattle.moments.specs.Instant.{local_of, ahead, instant_of, is_instant, local_at, in_years, stamp_of}
use Rattle.moments.specs.Calls.{instant}
use Rattle.moments.proofs.Order.{high, low}
use Rattle.moments.proofs.Stamps.{good_back, local_small, offset_small, stamp_local, stamp_good, stamp_offset}

pub instant_is : (v : Value) → in_range DatetimeTz v ≡ true → instant v ≡ accepted (instant_of v)
unfolding instant
instant_is v r = rw r refl

pub instant_had : (v : Value) (i : ℤ) → instant v ≡ accepted i → (in_range DatetimeTz v ≡ true) × (instant_of v ≡ i)
unfolding instant
instant_had v i e = let p = passed (in_range DatetimeTz v) 2 (accepted (instant_of v)) i e in (p.0, same p.1)

-- ---- the stamp of an instant at an offset

pub years_low : (x : ℤ) → in_years x ≡ true → nat_abs x < 315537897600000000
years_low (pos n) e = ltb-true n 315537897600000000 e
years_low (negsuc n) e = never e

pub years_pos : (x : ℤ) → in_years x ≡ true → pos (nat_abs x) ≡ x
years_pos (pos n) e = refl
years_pos (negsuc n) e = never e

pub at_good : (i o : ℤ) → offset_in_range o ≡ true → in_years (local_at i o) ≡ true → in_range DatetimeTz (stamp_of (nat_abs (local_at i o)) o) ≡ true
at_good i o g e = stamp_good (nat_abs (local_at i o)) o (years_low (local_at i o) e) g

pub at_instant : (i o : ℤ) → in_years (local_at i o) ≡ true → instant_of (stamp_of (nat_abs (local_at i o)) o) ≡ i
unfolding instant_of
at_instant i o e =
    let l : local_of (stamp_of (nat_abs (local_at i o)) o) ≡ nat_abs (local_at i o) = stamp_local (nat_abs (local_at i o)) o (years_low (local_at i o) e) in
    let s : (stamp_of (nat_abs (local_at i o)) o).offset ≡ o = stamp_offset (nat_abs (local_at i o)) o in
    rw (l, s, years_pos (local_at i o) e) (unfold local_at in +ℤ-neg_ℤ_cancel i (ahead o))

-- ---- within the limits

sub_within : (a s : ℕ) (t : Bool) → s ≤ 86340000000 → a ≤ 315537897600000000 → is_instant (cond t (negsuc (s - suc a)) (pos (a - s))) ≡ true
unfolding is_instant
sub_within a s true h g = rw (le-leb (s - suc a) 86339999999 (omega arith)) refl
sub_within a s false h g = le-leb (a - s) 315537983940000000 (omega arith)

minus_within : (a s : ℕ) → s ≤ 86340000000 → a ≤ 315537897600000000 → is_instant (pos a -ℤ pos s) ≡ true
minus_within a zero h g = unfold is_instant in le-leb (a + 0) 315537983940000000 (omega arith)
minus_within a (suc s) h g = sub_within a (suc s) (ltb a (suc s)) h g

less_within : (a : ℕ) (o : ℤ) → nat_abs o ≤ 1439 → a ≤ 315537897600000000 → is_instant (pos a -ℤ ahead o) ≡ true
unfolding ahead
less_within a (pos m) h g = minus_within a (m * 60000000) (omega arith) g
less_within a (negsuc m) h g =
    rw (neg_ℤ-neg_ℤ (pos (suc m * 60000000))) (unfold is_instant in le-leb (a + suc m * 60000000) 315537983940000000 (omega arith))

pub within : (v : Value) → in_range DatetimeTz v ≡ true → is_instant (instant_of v) ≡ true
unfolding instant_of
within v r = less_within (local_of v) v.offset (offset_small v r) (local_small v r)

-- ---- each is some stamp's

abbrev pub SomeStampHas : ℤ → Type 0
SomeStampHas i = (v : Value) × (in_range DatetimeTz v ≡ true) × (instant_of v ≡ i)

by_offset : (i o : ℤ) → offset_in_range o ≡ true → in_years (local_at i o) ≡ true → SomeStampHas i
by_offset i o g e = (stamp_of (nat_abs (local_at i o)) o, at_good i o g e, at_instant i o e)

below_zero : (a : ℕ) (t : Bool) → a < 86340000000 → ltb 86340000000 (suc a) ≡ t → in_years (cond t (negsuc (suc a - suc 86340000000)) (pos (86340000000 - suc a))) ≡ true
below_zero a true h e = let z = ltb-true 86340000000 (suc a) e in absurd (omega arith)
below_zero a false h e = lt-ltb (86340000000 - suc a) 315537897600000000 (omega arith)

past_years : (n : ℕ) (t : Bool) → 315537897600000000 ≤ n → n < 315537983940000000 → ltb n 86340000000 ≡ t
    → in_years (cond t (negsuc (86340000000 - suc n)) (pos (n - 86340000000))) ≡ true
past_years n true h g e = let z = ltb-true n 86340000000 e in absurd (omega arith)
past_years n false h g e = lt-ltb (n - 86340000000) 315537897600000000 (omega arith)

-- 9999-12-31T24:00-23:59
last_stamp : Value
last_stamp = record { date = day_of 3652058; micros = 86400000000; offset = negsuc 1438 }

the_last : SomeStampHas (pos 315537983940000000)
unfolding last_stamp
the_last =
    let d = number_date 3652058 (omega arith) in (
      last_stamp,
      good_back last_stamp (record { day = d.0; time = omega arith; offset = unfold offset_in_range in refl }),
      unfold instant_of local_of ahead in rw d.1 refl,
    )

pub some_stamp : (i : ℤ) → is_instant i ≡ true → SomeStampHas i
unfolding offset_in_range local_at ahead
some_stamp (negsuc a) e =
    let h = low a e in
    by_offset (negsuc a) (pos 1439) (refl) (below_zero a (ltb 86340000000 (suc a)) (omega arith) refl)
some_stamp (pos n) e =
    let h = high n e in
    ⊎_elim
    (λ l. by_offset (pos n) (pos 0) (refl) (lt-ltb (n + 0) 315537897600000000 (omega arith)))
    (λ l. ⊎_elim
    (λ k. by_offset (pos n) (negsuc 1438) (refl) (past_years n (ltb n 86340000000) l k refl))
    (λ k. let z : n ≡ 315537983940000000 = omega arith in rw z the_last)
    (lt_or_le n 315537983940000000))
    (lt_or_le n 315537897600000000)
