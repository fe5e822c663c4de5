-- The claims in 01's own numbers: the definitions, taken apart. Assumes nothing.
use Prim.Native.Nat.{ℕ, ◌+◌, ◌-◌, ◌*◌, ◌/◌, ◌<◌, ◌≤◌}
use native.Mathlib.Omega.{arith}
use mathlib.Core.Path.{◌≡◌, refl, sym, ap}
use mathlib.Core.Logic.{⊎_elim}
use mathlib.Core.Bool.{true, false}
use lib.IntN.{ℤ, pos, negsuc, sub_ℕ, nat_abs}
use lib.Dec.{leb}
use borrow.Author.Tests.{le-leb, lt-leb, lt-ltb, le-ltb, eq-eqb, ne_eqb}
use Rattle.format.specs.Words.{both}
use Rattle.format.specs.Calendar.{day_number}
use Rattle.format.specs.Values as format
use Rattle.format.specs.Values.{Kind, Date, DateTz, Time, TimeTz, Datetime, DatetimeTz, dated, timed, Value, in_range, permitted, time_in_range, offset_in_range, compact}
use Rattle.format.specs.Choice.{form_for}
use Rattle.format.specs.Compact.{per_day, start, count, number, greatest, carried, has_compact}
use Rattle.format.specs.Writing.{has_form}
use Rattle.format.proofs.Cases.{lt_or_le, never}
use Rattle.format.proofs.Dates.{number_small}
use Rattle.format.proofs.Text.{in_range_lem, micros_small}
use Rattle.claims.specs.ReaderRefusals.{signed_between}
use Rattle.claims.specs.PlainNumbers.{TheLimits, TheDefaults, WrittenForm, up_to, CompactLimits}

-- ---- limits and defaults

offset_limit : (x : ℤ) → leb (nat_abs x) 1439 ≡ signed_between 1439 1439 x
offset_limit (pos n) = refl
offset_limit (negsuc n) = refl

pub the_limits : TheLimits
unfolding in_range time_in_range offset_in_range permitted
the_limits = (λ k v. rw (offset_limit v.offset), λ t. refl, λ s. (λ o i. omega (arith, o i), λ o i. omega (arith, o i)))

pub the_defaults : TheDefaults
the_defaults = (refl, λ r e. (ap (λ (t : format.Settings). t.binary) e, ap (λ (t : format.Settings). t.version) e, ap (λ (t : format.Settings). t.digits) e))

-- ---- the form

pub written_form : WrittenForm
unfolding form_for
written_form k t v = (λ b. rw b, λ b n. rw (b, n), λ b n. rw (b, n))

-- ---- T's limits

-- n is at most a + b where n - a is at most b
below : (n a b : ℕ) → leb n (a + b) ≡ up_to b (sub_ℕ n a)
below n a b =
    ⊎_elim (λ (h : n < a). rw (lt-ltb n a h) (le-leb n (a + b) (omega arith)))
    (λ (h : a ≤ n). rw (le-ltb n a h) (⊎_elim
    (λ (p : a + b < n). rw (lt-leb n (a + b) p) (sym (lt-leb (n - a) b (omega arith))))
    (λ (p : n ≤ a + b). rw (le-leb n (a + b) p) (sym (le-leb (n - a) b (omega arith))))
    (lt_or_le (a + b) n)))
    (lt_or_le n a)

-- a day's number and a time's milliseconds have a compact form
days : (n : ℕ) → n < 3652059 → leb (n * 1 + 0) (737424 * 1 + 2914634) ≡ true
days n h = le-leb (n * 1 + 0) (737424 * 1 + 2914634) (omega arith)

millis : (m : ℕ) → m ≤ 86400000000 → leb (0 * 86400000 + m / 1000) (0 + 86400000) ≡ true
millis m h = le-leb (0 * 86400000 + m / 1000) (0 + 86400000) (omega arith)

pub compact_limits : CompactLimits
unfolding has_form has_compact count number start per_day greatest carried
compact_limits = (
  λ v. below (count Datetime v) (start Datetime) 140737488355327,
  λ v z. rw (eq-eqb (nat_abs v.offset) 0 z) (below (count DatetimeTz v) (start DatetimeTz) 140737488355327),
  λ v z. rw (ne_eqb (nat_abs v.offset) 0 z) (below (count DatetimeTz v) (start DatetimeTz) 251824463999999),
  others,
  λ k v. (λ d. refl, refl),
)
  where
    others : (k : Kind) (v : Value) → both (dated k) (timed k) ≡ false → in_range k v ≡ true → has_form k compact v ≡ true
    others Date v e r = days (day_number v.date) (number_small v.date (in_range_lem Date v r).date)
    others DateTz v e r = days (day_number v.date) (number_small v.date (in_range_lem DateTz v r).date)
    others Time v e r = millis v.micros (micros_small Time v (in_range_lem Time v r) refl)
    others TimeTz v e r = millis v.micros (micros_small TimeTz v (in_range_lem TimeTz v r) refl)
    others Datetime v e r = never (sym e)
    others DatetimeTz v e r = never (sym e)
