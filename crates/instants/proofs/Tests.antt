-- What the code's tests tell. Assumes nothing.
--     day_small               the day number that the calendar answers is small
--     instant_known           the instant of a stamp whose date has a day number, and whose other parts are in range
--     no_instant, no_rest     a stamp without one: there is no such day, or another part is out of range
--     stamp_tests             these, for the search
--     date_known, past_years  of the calendar's answer for the day of a local reading
--     restated_at, not_restated   restating, by what is answered for the instant
use Rattle.std.proofs.Common.{◌≡◌, ℕ, ◌/◌, ◌≤◌, true, false, ltb, leb, ℤ, pos, ◌-ℤ◌, sym, arith, le-ltb, lt-ltb, leb-false, leb-true}
use Rattle.format.specs.Words.{accepted, refused}
use Rattle.format.specs.Calendar.{Day, is_day, day_number, day_of, number_asked, day_asked}
use Rattle.format.specs.Local.{join}
use Rattle.format.specs.Values.{end_of_day, DatetimeTz, Value, in_range, rest_in_range}
use Rattle.format.proofs.Cases.{passed, failed, same, both_false}
use Rattle.format.proofs.Dates.{number_small}
use Rattle.moments.specs.Instant.{local_of, ahead, instant_of, end_of_years}
use Rattle.moments.specs.Calls.{instant, at, restate}
use Rattle.moments.proofs.Limits.{instant_had}

is_day_known : (d : Day) (n : ℕ) → accepted n ≡ number_asked d → is_day d ≡ true
unfolding number_asked
is_day_known d n e = (passed (is_day d) 2 (accepted (day_number d)) n (sym e)).0

number_known : (d : Day) (n : ℕ) → accepted n ≡ number_asked d → day_number d ≡ n
unfolding number_asked
number_known d n e = same (passed (is_day d) 2 (accepted (day_number d)) n (sym e)).1

pub day_small : (d : Day) (n : ℕ) → accepted n ≡ number_asked d → n ≤ 3652058
day_small d n e = omega (arith, number_small d (is_day_known d n e), number_known d n e)

pub no_instant : (v : Value) → refused 2 ≡ number_asked v.date → instant v ≡ refused 2
unfolding number_asked instant in_range
no_instant v e = rw (failed (is_day v.date) 2 2 (day_number v.date) (sym e))

pub no_rest : (v : Value) → rest_in_range DatetimeTz v ≡ false → instant v ≡ refused 2
unfolding instant in_range
no_rest v e = rw (e, both_false (is_day v.date))

pub instant_known : (v : Value) (n : ℕ) → accepted n ≡ number_asked v.date → rest_in_range DatetimeTz v ≡ true
    → instant v ≡ accepted (pos (join end_of_day n v.micros) -ℤ ahead v.offset)
unfolding instant instant_of local_of in_range
instant_known v n e r = rw (is_day_known v.date n e, r, number_known v.date n e)

pub ruleset stamp_tests = (day_small, instant_known, no_instant, no_rest)

pub date_known : (n : ℕ) (d : Day) → accepted d ≡ day_asked (n / 86400000000) → (ltb n end_of_years ≡ true) × (day_of (n / 86400000000) ≡ d)
unfolding day_asked
date_known n d e =
    let p = passed (leb (n / 86400000000) 3652058) 2 (accepted (day_of (n / 86400000000))) d (sym e) in
    let h = leb-true (n / 86400000000) 3652058 p.0 in
    (lt-ltb n end_of_years (omega arith), same p.1)

pub past_years : (n : ℕ) → refused 2 ≡ day_asked (n / 86400000000) → ltb n end_of_years ≡ false
unfolding day_asked
past_years n e =
    let h = leb-false (n / 86400000000) 3652058 (failed (leb (n / 86400000000) 3652058) 2 2 (day_of (n / 86400000000)) (sym e)) in
    le-ltb n end_of_years (omega arith)

pub not_restated : (v : Value) (o : ℤ) (n : ℕ) → refused n ≡ instant v → refused n ≡ restate v o
unfolding instant restate
not_restated v o n e =
    let f = failed (in_range DatetimeTz v) 2 n (instant_of v) (sym e) in
    let g = rw f at e in
    let h : n ≡ 2 = cc in
    rw (f, h)

pub restated_at : (v : Value) (o i : ℤ) → accepted i ≡ instant v → at i o ≡ restate v o
unfolding restate
restated_at v o i e = let k = instant_had v i (sym e) in rw (k.0, k.1)
