-- What each call on instants comes to. (02, request 2.) "Refusals: 2, a stamp, offset or instant handed in that is out of range (for an instant:
-- one that no stamp has); then 9, the result isn't representable (an instant that no stamp has, or a local reading outside years 1 to 9999)."
--
--   instant v        the instant of a stamp
--   add i n          the sum of an instant and a number of microseconds; the number itself is never refused
--   difference a b   a less b; it is never 9
--   at i o           the stamp of an instant at an offset, never at 24:00
--   restate v o      a stamp at another offset, by its instant, never at 24:00
--
-- In each, all tests with 2 stand before the one with 9.
use Rattle.std.specs.Prelude.{ℤ, nat_abs, ◌+ℤ◌, ◌-ℤ◌}
use Rattle.format.specs.Words.{Outcome, accepted, unless}
use Rattle.format.specs.Values.{DatetimeTz, Value, in_range, offset_in_range}
use Rattle.moments.specs.Instant.{instant_of, is_instant, local_at, in_years, stamp_of}

-- "give each DatetimeTz its instant"
unfoldable pub instant : Value → Outcome ℤ
instant v =
    unless (in_range DatetimeTz v) 2
    (accepted (instant_of v))

-- "Add a signed 64-bit number of microseconds to an instant"
unfoldable pub add : ℤ → ℤ → Outcome ℤ
add i n =
    unless (is_instant i) 2
    (unless (is_instant (i +ℤ n)) 9
    (accepted (i +ℤ n)))

-- "take the difference of two"
unfoldable pub difference : ℤ → ℤ → Outcome ℤ
difference a b =
    unless (is_instant a) 2
    (unless (is_instant b) 2
    (accepted (a -ℤ b)))

-- the end of 9999-12-31 is no reading of the years: as 24:00 it is not used, and the next day's start has no date
unfoldable pub at : ℤ → ℤ → Outcome Value
at i o =
    unless (is_instant i) 2
    (unless (offset_in_range o) 2
    (unless (in_years (local_at i o)) 9
    (accepted (stamp_of (nat_abs (local_at i o)) o))))

-- "restate a stamp at another offset (the result never uses 24:00)"
unfoldable pub restate : Value → ℤ → Outcome Value
restate v o =
    unless (in_range DatetimeTz v) 2
    (at (instant_of v) o)
