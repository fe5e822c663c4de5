-- The instant of a stamp, from its local reading and its offset. Assumes nothing.
--     fits_utc      what a clock reads, less its offset, fits
--     Told, told    what a stamp's local reading and offset tell: that they are small, and what its instant is
--     told_refused  one that is refused, either way
use mathlib.Core.Path.{◌≡◌, refl, ap}
use mathlib.Core.Bool.{true}
use mathlib.Core.List.{List}
use Prim.Native.Nat.{ℕ, ◌≤◌}
use native.Mathlib.Omega.{arith}
use lib.IntN.{ℤ, pos, negsuc, neg_ℤ, nat_abs, ◌-ℤ◌}
use lib.Signed.{mag}
use mir.Syntax.{w64}
use mir.Val.{SFits}
use borrow.Author.Rules.{sfits_of}
use Rattle.format.specs.Words.{Outcome, accepted, refused}
use Rattle.format.specs.Octets.{Octets}
use Rattle.format.specs.Values.{DatetimeTz, Answer, offset_in_range}
use Rattle.format.specs.Reading.{read}
use Rattle.format.proofs.Cases.{same}
use Rattle.format.proofs.Round.{was_read}
use Rattle.moments.specs.Instant.{local_of, ahead, instant_of, end_of_years}
use Rattle.moments.proofs.Stamps.{good, local_small, neg_size, ahead_size}
use Rattle.instants.proofs.Sizes.{sum_small}
use Rattle.values.specs.Answers.{local_and_offset, local_in}
use Rattle.schedule.specs.Steps.{instant_in}

mag_size : (a : ℤ) → mag a ≤ nat_abs a
mag_size (pos n) = omega arith
mag_size (negsuc n) = omega arith

pub fits_utc : (n : ℕ) (o : ℤ) → n ≤ end_of_years → offset_in_range o ≡ true → SFits w64 (pos n -ℤ ahead o)
fits_utc n o h e =
    sfits_of (omega (arith, sum_small (pos n) (neg_ℤ (ahead o)), mag_size (neg_ℤ (ahead o)), neg_size (ahead o), ahead_size o e))

pub record Told (s : List ℕ) (n : ℕ) (m : ℤ) : Type 0 where
  pub few : n ≤ end_of_years
  pub offset : offset_in_range m ≡ true
  pub instant : instant_in (read DatetimeTz s) ≡ accepted (pos n -ℤ ahead m)

-- of a value by its local reading
instant_from : (a : Answer) (n : ℕ) (m : ℤ) → n ≡ (local_and_offset a.value).0 → m ≡ a.value.offset → instant_of a.value ≡ pos n -ℤ ahead m
unfolding instant_of local_of
instant_from a n m p q = rw (p, q)

few_from : (a : Answer) (n : ℕ) → n ≡ (local_and_offset a.value).0 → local_of a.value ≤ end_of_years → n ≤ end_of_years
unfolding local_of
few_from a n p h = rw p h

pub told : (s : List ℕ) (n : ℕ) (m : ℤ) → Octets s → accepted (n, m) ≡ local_in (read DatetimeTz s) → Told s n m
told s n m o e = go (read DatetimeTz s) refl e
  where
    go : (x : Outcome Answer) → read DatetimeTz s ≡ x → accepted (n, m) ≡ local_in x → Told s n m
    go (accepted a) q p =
        let r = (was_read DatetimeTz s a o q).from.range in
        let l : n ≡ (local_and_offset a.value).0 = ap (λ (x : ℕ × ℤ). x.0) (same p) in
        let z : m ≡ a.value.offset = ap (λ (x : ℕ × ℤ). x.1) (same p) in
        record {
          few = few_from a n l (local_small a.value r);
          offset = rw z (good a.value r).offset;
          instant = rw q (ap accepted (instant_from a n m l z));
        }
    go (refused k) q p = absurd (let z : ◌≡◌ {A = ℕ} 0 1 = cc in omega arith)

pub told_refused : (x : Outcome Answer) (n : ℕ) → refused n ≡ local_in x → refused n ≡ instant_in x
told_refused (accepted a) n p = absurd (let z : ◌≡◌ {A = ℕ} 0 1 = cc in omega arith)
told_refused (refused k) n p = ap refused (cc)
