-- The words of a schedule file over places, in 02's numbers (specs/Schedule), are those of `card`'s laws. Assumes nothing.
--     to_header, from_header, to_good, from_good    the header; a record
--     moment_is, stamp_is, record_is                the instant of a record's stamp; its octets; what an answer shows of a record
--     step_faulty, faulty_step                      what a record is refused with
use mathlib.Core.Path.{◌≡◌, refl, sym, ◌∙◌, ap}
use mathlib.Core.Logic.{⊎_elim, inl, inr}
use mathlib.Core.Bool.{Bool, true, false}
use mathlib.Core.List.{List}
use Prim.Native.Nat.{ℕ, zero, suc, ◌+◌, ◌*◌}
use native.Mathlib.Omega.{arith}
use Rattle.format.specs.Words.{Outcome, accepted, refused, unless}
use Rattle.format.specs.Octets.{unsigned_at}
use Rattle.format.specs.Values.{DatetimeTz, Answer}
use Rattle.format.specs.Reading.{read}
use Rattle.format.proofs.Cases.{never}
use Rattle.moments.specs.Instant.{local_of, ahead, instant_of}
use Rattle.card.specs.Header.{twelve, count_of, stamp_octets, stamps_start}
use Rattle.card.specs.Records.{start_at, length_at, channel_at, correction_at, stamp_at, instant_at, record_at, in_file}
use Rattle.card.specs.Step.{Last, before_at, in_order, fields_good, timed, step}
use Rattle.card.proofs.Described as D
use Rattle.card.proofs.Stepping as stepping
use Rattle.claims.specs.Schedule.{start_of, length_of, channel_of, correction_of, stamp_of, moment_of, StartsAt, Header, InPlace, InOrder, Good, Faulty}
use Rattle.claims.proofs.ProvedInstants.{refused_same}

module _ (s : List ℕ) where
  pub to_header : Header s → D.HeaderDescribed twelve s
  unfolding count_of stamp_octets stamps_start
  to_header h =
      record {
        whole = h.whole;
        few = h.few;
        records_follow = h.records_start;
        stamps_follow = h.stamps_start;
        ends_file = omega (arith, h.stamps_start, h.ends_file);
        none_none = h.none_none;
      }

  pub from_header : D.HeaderDescribed twelve s → Header s
  unfolding count_of stamp_octets stamps_start
  from_header h =
      record {
        whole = h.whole;
        few = h.few;
        records_start = h.records_follow;
        stamps_start = h.stamps_follow;
        ends_file = omega (arith, h.stamps_follow, h.ends_file);
        none_none = h.none_none;
      }

  pub moment_is : (i : ℕ) → instant_at twelve s i ≡ moment_of s i
  unfolding instant_at stamp_at stamps_start count_of start_at length_at instant_of local_of ahead
  moment_is i = go (read DatetimeTz (stamp_of s i)) refl
    where
      go : (o : Outcome Answer) → read DatetimeTz (stamp_of s i) ≡ o → instant_at twelve s i ≡ moment_of s i
      go (accepted a) e = rw e
      go (refused n) e = rw e

  pub to_place : (i : ℕ) → InPlace s i → D.InPlace twelve s i (before_at twelve s i)
  unfolding count_of stamp_octets record_at start_at length_at channel_at correction_at
  to_place i p =
      record { channel = p.channel; correction = p.correction; starts = starts i p.starts; within = p.within; ends = p.ends }
    where
      starts : (i : ℕ) → StartsAt s i (start_of s i) → start_of s i ≡ (before_at twelve s i).ended
      starts zero h = ⊎_elim (λ x. x.1) (λ x. absurd (let z : 0 ≡ suc x.0 = x.1 in omega arith)) h
      starts (suc j) h =
          ⊎_elim (λ x. absurd (let z : suc j ≡ 0 = x.0 in omega arith)) (λ x. let e : x.0 ≡ j = omega (arith, x.1) in rw e at x.2) h

  pub from_place : (i : ℕ) → D.InPlace twelve s i (before_at twelve s i) → InPlace s i
  unfolding count_of stamp_octets record_at start_at length_at channel_at correction_at
  from_place i p =
      record { channel = p.channel; correction = p.correction; starts = starts i p.starts; within = p.within; ends = p.ends }
    where
      starts : (i : ℕ) → start_of s i ≡ (before_at twelve s i).ended → StartsAt s i (start_of s i)
      starts zero e = inl (refl, e)
      starts (suc j) e = inr (j, refl, e)

  pub to_order : (i : ℕ) → InOrder s i → in_order (before_at twelve s i).last (instant_at twelve s i) ≡ true
  unfolding record_at
  to_order zero h = refl
  to_order (suc j) h = rw (moment_is j, moment_is (suc j)) (h j refl)

  pub from_order : (i : ℕ) → in_order (before_at twelve s i).last (instant_at twelve s i) ≡ true → InOrder s i
  unfolding record_at
  from_order zero h j e = absurd (omega arith)
  from_order (suc k) h j e =
      let z : j ≡ k = omega arith in
      rw z (rw (moment_is k, moment_is (suc k)) at h)

  pub stamp_is : (i : ℕ) → stamp_at twelve s i ≡ stamp_of s i
  unfolding stamp_at stamps_start count_of start_at length_at
  stamp_is i = refl

  pub to_good : (i : ℕ) → Good s i → D.GoodAfter twelve s i (before_at twelve s i)
  to_good i g = record { place = to_place i g.0; stamp = (g.1.0, ap (read DatetimeTz) (stamp_is i) ∙ g.1.1); order = to_order i g.2 }

  pub from_good : (i : ℕ) → D.GoodAfter twelve s i (before_at twelve s i) → Good s i
  from_good i g = (from_place i g.place, (g.stamp.0, ap (read DatetimeTz) (sym (stamp_is i)) ∙ g.stamp.1), from_order i g.order)

  -- ---- what a record is refused with

  module _ (i : ℕ) where
    abbrev last : Last
    last = (before_at twelve s i).last

    -- the three tests, one after the other
    step_is : (b : Bool) (o : Outcome Answer) → fields_good twelve s i (before_at twelve s i) ≡ b → read DatetimeTz (stamp_at twelve s i) ≡ o
        → step twelve s i (before_at twelve s i) ≡ unless b 14 (timed (record_at twelve s i) last o)
    unfolding step
    step_is b o e f = rw (e, f)

    wrong-place : fields_good twelve s i (before_at twelve s i) ≡ false → InPlace s i → ⊥
    wrong-place e p = never (sym e ∙ stepping.in_place_is twelve s i (before_at twelve s i) (to_place i p))

    wrong-order : (a : Answer) → read DatetimeTz (stamp_at twelve s i) ≡ accepted a → in_order last (instant_of a.value) ≡ false → InOrder s i → ⊥
    wrong-order a e f h = never (sym f ∙ ap (in_order last) (sym (stepping.instant_is twelve s i (before_at twelve s i) a e)) ∙ to_order i h)

    faulty-from : (m : ℕ) (b : Bool) (o : Outcome Answer) → fields_good twelve s i (before_at twelve s i) ≡ b → read DatetimeTz (stamp_at twelve s i) ≡ o
        → unless b 14 (timed (record_at twelve s i) last o) ≡ refused m → Faulty s i m
    faulty-from m false o e f h = inl (wrong-place e, sym (refused_same h))
    faulty-from m true (refused n) e f h =
        inr (inl (from_place i (stepping.in_place_told twelve s i (before_at twelve s i) e), ap (read DatetimeTz) (sym (stamp_is i)) ∙ f ∙ ap refused (refused_same h)))
    faulty-from m true (accepted a) e f h = go (in_order last (instant_of a.value)) refl h
      where
        go : (b : Bool) → in_order last (instant_of a.value) ≡ b → unless b 15 (accepted (record_at twelve s i)) ≡ refused m → Faulty s i m
        go true q h = absurd (let z : ◌≡◌ {A = ℕ} 0 1 = cc in omega arith)
        go false q h =
            inr (inr (
              from_place i (stepping.in_place_told twelve s i (before_at twelve s i) e),
              (a, ap (read DatetimeTz) (sym (stamp_is i)) ∙ f),
              wrong-order a f q,
              sym (refused_same h),
            ))

    pub step_faulty : (m : ℕ) → step twelve s i (before_at twelve s i) ≡ refused m → Faulty s i m
    step_faulty m h = faulty-from m _ _ refl refl (sym (step_is _ _ refl refl) ∙ h)

    pub faulty_step : (m : ℕ) → Faulty s i m → step twelve s i (before_at twelve s i) ≡ refused m
    faulty_step m h =
        ⊎_elim
        (λ x. place x.0 (fields_good twelve s i (before_at twelve s i)) refl ∙ ap refused (sym x.1))
        (λ y. ⊎_elim
        (λ x. step_is true (refused m) (right x.0) (ap (read DatetimeTz) (stamp_is i) ∙ x.1))
        (λ x. order x.2 x.1.0 (right x.0) (ap (read DatetimeTz) (stamp_is i) ∙ x.1.1) ∙ ap refused (sym x.3))
        y)
        h
      where
        right : InPlace s i → fields_good twelve s i (before_at twelve s i) ≡ true
        right p = stepping.in_place_is twelve s i (before_at twelve s i) (to_place i p)

        place : (InPlace s i → ⊥) → (b : Bool) → fields_good twelve s i (before_at twelve s i) ≡ b → step twelve s i (before_at twelve s i) ≡ refused 14
        place n true e = absurd (n (from_place i (stepping.in_place_told twelve s i (before_at twelve s i) e)))
        place n false e = step_is false (read DatetimeTz (stamp_at twelve s i)) e refl

        order : (InOrder s i → ⊥) → (a : Answer) → fields_good twelve s i (before_at twelve s i) ≡ true → read DatetimeTz (stamp_at twelve s i) ≡ accepted a
            → step twelve s i (before_at twelve s i) ≡ refused 15
        order n a e f = go (in_order last (instant_of a.value)) refl
          where
            go : (b : Bool) → in_order last (instant_of a.value) ≡ b → step twelve s i (before_at twelve s i) ≡ refused 15
            go true q = absurd (n (from_order i (ap (in_order last) (stepping.instant_is twelve s i (before_at twelve s i) a f) ∙ q)))
            go false q = step_is true (accepted a) e f ∙ ap (λ b. unless b 15 (accepted (record_at twelve s i))) q

pub record_is : (s : List ℕ) (n i : ℕ) → n ≡ unsigned_at s 0 4 → in_file twelve s (record_at twelve s i) ≡ record { place = suc i; start = 16 + 12 * n + start_of s i; size = length_of s i; channel = channel_of s i; correction = correction_of s i; instant = moment_of s i }
unfolding record_at stamps_start count_of start_at length_at channel_at correction_at
record_is s n i e = rw (e, moment_is s i)
