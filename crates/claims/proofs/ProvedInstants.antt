-- The claims of request 2, each from the laws of `moments`. Assumes nothing.
use mathlib.Core.Path.{◌≡◌, refl, sym, ◌∙◌, ap}
use mathlib.Core.Bool.{Bool, true, false}
use Prim.Native.Nat.{ℕ, suc}
use native.Mathlib.Omega.{arith}
use lib.IntN.{ℤ, pos, negsuc, nat_abs, ◌-ℤ◌}
use lib.Dec.{leb, ltb}
use lib.Signed.{lt_z}
use borrow.Author.Tests.{le-leb, lt-ltb, leb-true, leb-false, le-ltb}
use Rattle.format.specs.Words.{both, Outcome, accepted, refused, unless}
use Rattle.format.specs.Calendar.{day_number}
use Rattle.format.specs.Values.{DatetimeTz, Value, in_range, offset_in_range}
use Rattle.format.specs.Promises.{number_of}
use Rattle.format.proofs.Cases.{both_true}
use Rattle.format.proofs.Dates.{number_date}
use Rattle.format.proofs.Round.{was_read}
use Rattle.moments.specs.Instant.{local_of, ahead, instant_of, is_instant, local_at, in_years, stamp_of, next_start}
use Rattle.moments.specs.Calls.{instant, add, difference, at, restate}
use Rattle.moments.proofs.Stamps.{good}
use Rattle.moments.proofs.Limits.{instant_is, instant_had, within, some_stamp}
use Rattle.moments.proofs.Sums.{add_zero, differ, differ_neg, differs, add_differ, add_twice}
use Rattle.moments.proofs.Order.{less_small}
use Rattle.moments.proofs.Restating.{placed, at_is, restate_is, restate_bad, restate_bad_offset, was_at, restated, at_only, restate_only, own_offset, own_end, own_last}
use Rattle.moments.proofs.Comparing.{next_good, next_instant, later, one_stamp}
use Rattle.moments.proofs.Bench.{of_stamps, of_sums, of_restating}
use Rattle.values.specs.Meaning.{datetime_tz_value}
use Rattle.values.specs.Answers.{decoded}
use Rattle.values.specs.declared.answers.Decoded.TheVariants as D
use Rattle.boundary.specs.Utc.{after, stamp_numbers, HandsOver}
use Rattle.claims.specs.ReaderRefusals.{signed_between}
use Rattle.claims.specs.Instants.{EachHasItsInstant, TheInstants, LaterIsLater, SitesCompared, EndIsNextStart, OneStamp, Sums, AddingZero, AddingTwice, Differences, NegativeDifference, AddingDifference}
use Rattle.claims.specs.Instants.{reading_at, in_the_years, RestatedExactly, TheRestated, StampsAt, AtItsOwnOffset, InstantsWorked}
use Rattle.claims.specs.Instants.{ReadStampsHaveInstants, OwnCallsAgree, Gets, InstantsToC}

pub refused_same : {A : Type 0} {m n : ℕ} → ◌≡◌ {A = Outcome A} (refused m) (refused n) → m ≡ n
refused_same p = cc

-- ---- instants

pub each_has_its_instant : EachHasItsInstant
unfolding instant instant_of local_of ahead
each_has_its_instant v = (λ r. rw r, λ r. rw r)

below_or_not : (n m : ℕ) → both (leb n m) true ≡ ltb n (suc m)
below_or_not n m = go (leb n m) refl
  where
    go : (t : Bool) → leb n m ≡ t → both (leb n m) true ≡ ltb n (suc m)
    go true e = rw e (sym (lt-ltb n (suc m) (omega (arith, leb-true n m e))))
    go false e = rw e (sym (le-ltb n (suc m) (omega (arith, leb-false n m e))))

limits : (i : ℤ) → is_instant i ≡ signed_between 86340000000 315537983940000000 i
unfolding is_instant
limits (pos n) = refl
limits (negsuc n) = below_or_not n 86339999999

pub the_instants : TheInstants
the_instants i = (
  limits i,
  (
    λ e. let s = some_stamp i e in (s.0, instant_is s.0 s.1 ∙ ap accepted s.2),
    λ h. let k = instant_had h.0 i h.1 in ap is_instant (sym k.1) ∙ within h.0 k.0,
  ),
)

pub later_is_later : LaterIsLater
unfolding local_of
later_is_later v w a b e f o =
    let x : instant_of v ≡ a = (instant_had v a e).1 in
    let y : instant_of w ≡ b = (instant_had w b f).1 in
    (refl, ap (λ z. lt_z z b) (sym x) ∙ ap (lt_z (instant_of v)) (sym y) ∙ later v w o)

pub sites_compared : SitesCompared
sites_compared v w u a b e f g =
    let p = (restated w v.offset u g).2 in
    let x : instant_of v ≡ a = (instant_had v a e).1 in
    let y : instant_of u ≡ b = p.instant ∙ (instant_had w b f).1 in
    ap (λ z. lt_z z b) (sym x) ∙ ap (lt_z (instant_of v)) (sym y) ∙ later v u (sym p.offset)

pub end_is_next_start : EndIsNextStart
end_is_next_start v r m d =
    let n = (number_date (suc (day_number v.date)) (omega arith)).1 in
    (instant_is (next_start v) (next_good v r d) ∙ ap accepted (next_instant v m d) ∙ sym (instant_is v r), omega arith, refl, refl)

pub one_stamp_each : OneStamp
one_stamp_each v w i e f o =
    let p = instant_had v i e in
    let q = instant_had w i f in
    one_stamp v w p.0 q.0 o (p.1 ∙ sym q.1)

-- ---- sums and differences

pub sums : Sums
unfolding add
sums i n = (λ h. rw h, λ h g. rw (h, g), λ h g. rw (h, g))

pub adding_zero : AddingZero
adding_zero = add_zero

pub adding_twice : AddingTwice
adding_twice = add_twice

-- two tests, one of which fails; and what can't be refused but by these
one_fails : {A : Type 0} (t u : Bool) (o : Outcome A) → both t u ≡ false → unless t 2 (unless u 2 o) ≡ refused 2
one_fails true u o e = rw e refl
one_fails false u o e = refl

only_two : {A : Type 0} (t u : Bool) (x : A) (n : ℕ) → unless t 2 (unless u 2 (accepted x)) ≡ refused n → n ≡ 2
only_two true true x n e = absurd (let z : ◌≡◌ {A = ℕ} 0 1 = cc in omega arith)
only_two true false x n e = sym (refused_same e)
only_two false u x n e = sym (refused_same e)

pub differences : Differences
unfolding difference
differences a b = (
  λ e. let p = both_true (is_instant a) (is_instant b) e in differs a b p.0 p.1,
  λ e. one_fails (is_instant a) (is_instant b) (accepted (a -ℤ b)) e,
  λ n e. only_two (is_instant a) (is_instant b) (a -ℤ b) n e,
  λ x e. let d = differ a b x e in rw d.less at (less_small a b d.first d.second),
)

pub negative_difference : NegativeDifference
negative_difference = differ_neg

pub adding_difference : AddingDifference
adding_difference = add_differ

-- ---- stamps at an offset

-- the years by their literals
years : (x : ℤ) → in_the_years x ≡ in_years x
years (pos n) = rw (le-leb 0 n (omega arith))
years (negsuc n) = refl

-- the last test, by these
place : (i o : ℤ) (t : Bool) → in_the_years (reading_at i o) ≡ t → placed i o ≡ unless t 9 (accepted (stamp_of (nat_abs (local_at i o)) o))
unfolding local_at ahead
place i o t e = rw (sym (years (reading_at i o)) ∙ e)

out_of_range : (v : Value) (o : ℤ) (r : Bool) → in_range DatetimeTz v ≡ r → both r (offset_in_range o) ≡ false → restate v o ≡ refused 2
out_of_range v o true r e = restate_bad_offset v o e
out_of_range v o false r e = restate_bad v o r

pub restated_exactly : RestatedExactly
restated_exactly v o = (
  λ e. out_of_range v o (in_range DatetimeTz v) refl e,
  λ i e g.
      let k = instant_had v i e in
      let r = restate_is v o k.0 g ∙ ap (λ z. placed z o) k.1 in
      (λ n. r ∙ place i o false n, λ n. (stamp_of (nat_abs (local_at i o)) o, r ∙ place i o true n)),
)

-- what has the instant i, by the call
has : (w : Value) (i : ℤ) → in_range DatetimeTz w ≡ true → instant_of w ≡ i → instant w ≡ accepted i
has w i g e = instant_is w g ∙ ap accepted e

pub the_restated : TheRestated
the_restated v i o w e =
    let k = instant_had v i e in (
      λ f. let p = (restated v o w f).2 in (p.range, has w i p.range (p.instant ∙ k.1), p.offset, p.time),
      λ h. restate_only v o w k.0 h.0 ((instant_had w i h.1).1 ∙ sym k.1) h.2 h.3,
    )

pub stamps_at : StampsAt
unfolding at
stamps_at = (
  λ i o. (
    λ e. one_fails (is_instant i) (offset_in_range o) (placed i o) e,
    λ e n. let p = both_true (is_instant i) (offset_in_range o) e in at_is i o p.0 p.1 ∙ place i o false n,
    λ e n. let p = both_true (is_instant i) (offset_in_range o) e in
        (stamp_of (nat_abs (local_at i o)) o, at_is i o p.0 p.1 ∙ place i o true n),
  ),
  λ i o w. (
    λ e. let p = (was_at i o w e).2 in (p.range, has w i p.range p.instant, p.offset, p.time),
    λ h. at_only i o w h.0 (instant_had w i h.1).1 h.2 h.3,
  ),
)

pub at_its_own_offset : AtItsOwnOffset
at_its_own_offset v i e =
    let k = instant_had v i e in
    let a = ap (λ z. at z v.offset) (sym k.1) ∙ at_is (instant_of v) v.offset (within v k.0) (good v k.0).offset in
    (λ h. a ∙ own_offset v k.0 h, λ h d. a ∙ own_end v h d, λ h d. a ∙ own_last v h d)

pub instants_worked : InstantsWorked
instants_worked = (of_stamps, of_sums, of_restating)

-- ---- our own calls

pub read_stamps_have_instants : ReadStampsHaveInstants
read_stamps_have_instants s a o p =
    let v = datetime_tz_value a.value in
    let r : in_range DatetimeTz v ≡ true = (was_read DatetimeTz s (decoded (D.DatetimeTz a)) o (sym p)).from.range in
    (record { micros = instant_of v }, sym (instant_is v r))

pub own_calls_agree : OwnCallsAgree
own_calls_agree = (
  λ v w o i e f.
      let p = (restated (datetime_tz_value v) o.minutes (datetime_tz_value w) (sym f)).2 in
      sym (instant_is (datetime_tz_value w) p.range ∙ ap accepted (p.instant ∙ (instant_had (datetime_tz_value v) i.micros (sym e)).1)),
  λ i o w e. let p = (was_at i.micros o.minutes (datetime_tz_value w) (sym e)).2 in sym (instant_is (datetime_tz_value w) p.range ∙ ap accepted p.instant),
  λ a b n e. sym (add_differ b.micros a.micros n (sym e)),
)

pub gets : {A B : Type 0} {put : A → B} (o : Outcome A) (lent : B) (r : ℕ) (left : B) → HandsOver A B put o lent r left → Gets put o lent r left
gets {put = put} o lent r left p = (
  λ m e. (p.number ∙ ap number_of e, p.handed ∙ ap (λ z. after put z lent) e),
  λ a e. (p.number ∙ ap number_of e, p.handed ∙ ap (λ z. after put z lent) e),
)

pub instants_to_c : InstantsToC
unfolding stamp_numbers
instants_to_c = (
  λ v. gets (instant v),
  λ i n. gets (add i n),
  λ a b. gets (difference a b),
  λ i o. gets (at i o),
  λ v o. gets (restate v o),
)
