-- The bench: examples by numbers, what each call comes to. Each refusal is met, by each reason; both limits are met, from both sides. (02, request 2.)
--
--   on y m d t o     the stamp of that day, t microseconds of it, o minutes ahead of UTC
--   behind o         o minutes behind UTC
use Rattle.std.specs.Prelude.{ℕ, ◌≡◌, ℤ, pos, neg_ℤ}
use Rattle.format.specs.Words.{accepted, refused}
use Rattle.format.specs.Values.{Value, end_of_day}
use Rattle.moments.specs.Calls.{instant, add, difference, at, restate}

abbrev pub on : ℕ → ℕ → ℕ → ℕ → ℤ → Value
on y m d t o = record { date = record { year = y; month = m; day = d }; micros = t; offset = o }

abbrev pub behind : ℕ → ℤ
behind o = neg_ℤ (pos o)

-- 1970-01-01T00:00+00:00; noon at -04:30 is nine hours after noon at +04:30; 24:00 is the next day's start; both limits;
-- a day, a time and an offset out of range
abbrev pub OfStamps : Type 0
OfStamps =
    (instant (on 1970 1 1 0 (pos 0)) ≡ accepted (pos 62135596800000000))
    × (instant (on 2020 1 1 43200000000 (behind 270)) ≡ accepted (pos 63713493000000000))
    × (instant (on 2020 1 1 43200000000 (pos 270)) ≡ accepted (pos 63713460600000000))
    × (instant (on 2019 12 31 end_of_day (pos 0)) ≡ accepted (pos 63713433600000000))
    × (instant (on 2020 1 1 0 (pos 0)) ≡ accepted (pos 63713433600000000))
    × (instant (on 1 1 1 0 (pos 1439)) ≡ accepted (neg_ℤ (pos 86340000000)))
    × (instant (on 9999 12 31 end_of_day (behind 1439)) ≡ accepted (pos 315537983940000000))
    × (instant (on 2023 2 29 0 (pos 0)) ≡ refused 2)
    × (instant (on 2020 1 1 86400000001 (pos 0)) ≡ refused 2)
    × (instant (on 2020 1 1 0 (behind 1440)) ≡ refused 2)

-- the sum at a limit and one past it, either way; no instant, and then the sum is not asked for; the least number of 64 bits; the whole width of the limits,
-- both ways
abbrev pub OfSums : Type 0
OfSums =
    (add (pos 315537983939999999) (pos 1) ≡ accepted (pos 315537983940000000))
    × (add (pos 315537983940000000) (pos 1) ≡ refused 9)
    × (add (neg_ℤ (pos 86339999999)) (neg_ℤ (pos 1)) ≡ accepted (neg_ℤ (pos 86340000000)))
    × (add (neg_ℤ (pos 86340000000)) (neg_ℤ (pos 1)) ≡ refused 9)
    × (add (pos 315537983940000001) (neg_ℤ (pos 1)) ≡ refused 2)
    × (add (neg_ℤ (pos 86340000001)) (pos 9223372036854775807) ≡ refused 2)
    × (add (pos 0) (neg_ℤ (pos 9223372036854775808)) ≡ refused 9)
    × (difference (pos 5) (pos 3) ≡ accepted (pos 2))
    × (difference (pos 315537983940000000) (neg_ℤ (pos 86340000000)) ≡ accepted (pos 315538070280000000))
    × (difference (neg_ℤ (pos 86340000000)) (pos 315537983940000000) ≡ accepted (neg_ℤ (pos 315538070280000000)))
    × (difference (pos 315537983940000001) (pos 0) ≡ refused 2)
    × (difference (pos 0) (neg_ℤ (pos 86340000001)) ≡ refused 2)

-- the day before and the day after; 24:00 becomes the next day's start; out of the years at either end, and just within; the offset, the stamp and
-- the instant out of range, which come before 9
abbrev pub OfRestating : Type 0
OfRestating =
    (restate (on 2020 1 1 7200000000 (pos 270)) (behind 270) ≡ accepted (on 2019 12 31 61200000000 (behind 270)))
    × (restate (on 2020 2 28 79200000000 (behind 270)) (pos 270) ≡ accepted (on 2020 2 29 25200000000 (pos 270)))
    × (restate (on 2019 12 31 end_of_day (pos 60)) (pos 60) ≡ accepted (on 2020 1 1 0 (pos 60)))
    × (restate (on 1 1 1 1800000000 (pos 0)) (behind 30) ≡ accepted (on 1 1 1 0 (behind 30)))
    × (restate (on 1 1 1 1800000000 (pos 0)) (behind 31) ≡ refused 9)
    × (restate (on 9999 12 31 end_of_day (pos 0)) (behind 1) ≡ accepted (on 9999 12 31 86340000000 (behind 1)))
    × (restate (on 9999 12 31 end_of_day (pos 60)) (pos 0) ≡ accepted (on 9999 12 31 82800000000 (pos 0)))
    × (restate (on 9999 12 31 end_of_day (pos 0)) (pos 0) ≡ refused 9)
    × (restate (on 1 1 1 0 (pos 0)) (behind 1440) ≡ refused 2)
    × (restate (on 1 0 1 0 (pos 0)) (behind 1) ≡ refused 2)
    × (at (neg_ℤ (pos 1)) (pos 1) ≡ accepted (on 1 1 1 59999999 (pos 1)))
    × (at (neg_ℤ (pos 1)) (pos 0) ≡ refused 9)
    × (at (pos 315537897599999999) (pos 0) ≡ accepted (on 9999 12 31 86399999999 (pos 0)))
    × (at (pos 315537897600000000) (pos 0) ≡ refused 9)
    × (at (pos 315537983940000000) (behind 1439) ≡ refused 9)
    × (at (neg_ℤ (pos 86340000001)) (pos 0) ≡ refused 2)
    × (at (pos 0) (behind 1440) ≡ refused 2)
