-- Two clocks: what one reads, from what the other does. Assumes nothing.
--     same_month   a date in the same month: its day number moves as its day does
--     stays        so a stamp whose day stays in its month is restated by its day and its time alone
use Rattle.std.proofs.Common.{◌≡◌, ℕ, ◌+◌, ◌-◌, ◌*◌, ◌/◌, ◌≤◌, true, ℤ, pos, ◌+ℤ◌, ◌-ℤ◌, refl, arith}
use Rattle.std.proofs.lemmas.Int.{ints}
use Rattle.format.specs.Words.{accepted}
use Rattle.format.specs.Calendar.{is_day, day_number}
use Rattle.format.specs.Values.{DatetimeTz, Value, in_range, offset_in_range}
use Rattle.format.proofs.Dates.{parts}
use Rattle.moments.specs.Instant.{local_of, ahead, instant_of}
use Rattle.moments.specs.Calls.{restate}
use Rattle.moments.proofs.Stamps.{good, good_back}
use Rattle.moments.proofs.Restating.{restate_only}

same_month : (y m d n q : ℕ) → 1 ≤ d → 1 ≤ n → n ≡ d + q - 2
    → day_number (record { year = y; month = m; day = n }) + 2 ≡ day_number (record { year = y; month = m; day = d }) + q
unfolding day_number
same_month y m d n q h k e = omega arith

-- a clock at the offset t reads r, from the start of the day two days before v's: q days and what is over; n is the day of the month then
module _ (v : Value) (t : ℤ) (r q n : ℕ) where
  abbrev pub moved : Value
  moved = record { date = record { year = v.date.year; month = v.date.month; day = n }; micros = r - q * 86400000000; offset = t }

  same_instant : 1 ≤ v.date.day → 1 ≤ n → n ≡ v.date.day + q - 2 → q ≡ r / 86400000000
      → pos r ≡ pos (172800000000 + v.micros) -ℤ ahead v.offset +ℤ ahead t → instant_of moved ≡ instant_of v
  unfolding instant_of local_of
  same_instant h k e f g = let m = same_month v.date.year v.date.month v.date.day n q h k e in omega (arith, ints)

  pub stays : in_range DatetimeTz v ≡ true → offset_in_range t ≡ true → n ≡ v.date.day + q - 2 → q ≡ r / 86400000000
      → pos r ≡ pos (172800000000 + v.micros) -ℤ ahead v.offset +ℤ ahead t → is_day moved.date ≡ true → restate v t ≡ accepted moved
  stays i o e f g d =
      let s = same_instant (parts v.date (good v i).day).day_low (parts moved.date d).day_low e f g in
      restate_only v t moved i (good_back moved (record { day = d; time = omega arith; offset = o })) s refl (omega arith)
