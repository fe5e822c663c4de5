-- A step takes a record exactly where the record is good, and what it takes is the record at that place. Assumes nothing.
--     in_place_is, in_place_told     the fields are right exactly where channel, correction and stamp place are
--     good_step    a good record is taken
--     step_good    a record that was taken is good, and is the one at its place
use mathlib.Core.Path.{◌≡◌, refl, sym}
use mathlib.Core.Bool.{true}
use mathlib.Core.List.{List}
use Prim.Native.Nat.{ℕ, suc}
use native.Mathlib.Omega.{arith}
use lib.IntN.{nat_abs}
use lib.Dec.{eqb, leb}
use borrow.Author.Tests.{le-leb, leb-true, eq-eqb, eqb-true}
use Rattle.format.specs.Words.{needs, Outcome, accepted, refused}
use Rattle.format.specs.Values.{DatetimeTz, Answer}
use Rattle.format.specs.Reading.{read}
use Rattle.format.proofs.Cases.{both_true, passed, same}
use Rattle.moments.specs.Instant.{instant_of}
use Rattle.card.specs.Header.{RecordForm, count_of, stamp_octets}
use Rattle.card.specs.Records.{start_at, end_at, channel_at, correction_at, stamp_at, instant_at, Record, record_at}
use Rattle.card.specs.Step.{Before, channel_good, placed, place_good, fields_good, in_order, timed, step}
use Rattle.card.proofs.Described.{InPlace, GoodAfter}
use Rattle.card.proofs.Tests.{needs_is, needs_told}

module _ (f : RecordForm) (s : List ℕ) (i : ℕ) (b : Before) where
  -- ---- what refusal 14 tests

  pub in_place_is : InPlace f s i b → fields_good f s i b ≡ true
  unfolding fields_good place_good placed channel_good
  in_place_is g =
      let n : needs (eqb (suc i) (count_of s)) (eqb (end_at f s i) (stamp_octets s)) ≡ true =
      needs_is (suc i) (count_of s) (eqb (end_at f s i) (stamp_octets s)) (λ e. eq-eqb (end_at f s i) (stamp_octets s) (g.ends e)) in
      rw (
        le-leb 1 (channel_at f s i) g.channel.0,
        le-leb (channel_at f s i) 16 g.channel.1,
        le-leb (nat_abs (correction_at f s i)) 1000000 g.correction,
        eq-eqb (start_at f s i) b.ended g.starts,
        le-leb (end_at f s i) (stamp_octets s) g.within,
      ) n

  pub in_place_told : fields_good f s i b ≡ true → InPlace f s i b
  unfolding fields_good place_good placed channel_good
  in_place_told e =
      let c = both_true (channel_good (channel_at f s i)) _ e in
      let c2 = both_true (leb 1 (channel_at f s i)) (leb (channel_at f s i) 16) c.0 in
      let k = both_true (leb (nat_abs (correction_at f s i)) 1000000) _ c.1 in
      let l = both_true (eqb (start_at f s i) b.ended) _ k.1 in
      let w = both_true (leb (end_at f s i) (stamp_octets s)) _ l.1 in
      record {
        channel = (leb-true _ _ c2.0, leb-true _ _ c2.1);
        correction = leb-true _ _ k.0;
        starts = eqb-true _ _ l.0;
        within = leb-true _ _ w.0;
        ends = λ h. eqb-true _ _ (needs_told (suc i) (count_of s) (eqb (end_at f s i) (stamp_octets s)) w.1 h);
      }

  -- ---- a good record is taken

  pub instant_is : (a : Answer) → read DatetimeTz (stamp_at f s i) ≡ accepted a → instant_at f s i ≡ instant_of a.value
  unfolding instant_at
  instant_is a e = rw e

  pub good_step : GoodAfter f s i b → step f s i b ≡ accepted (record_at f s i)
  unfolding step
  good_step g =
      let t = g.stamp in
      rw (in_place_is g.place, t.1, ← instant_is t.0 t.1, g.order)

  -- ---- a record that was taken is good

  record Timed (r : Record) : Type 0 where
    stamp : (a : Answer) × (read DatetimeTz (stamp_at f s i) ≡ accepted a)
    order : in_order b.last (instant_at f s i) ≡ true
    is : r ≡ record_at f s i

  was-timed : (r : Record) → timed (record_at f s i) b.last (read DatetimeTz (stamp_at f s i)) ≡ accepted r → Timed r
  was-timed r = go (read DatetimeTz (stamp_at f s i)) refl
    where
      go : (o : Outcome Answer) → read DatetimeTz (stamp_at f s i) ≡ o → timed (record_at f s i) b.last o ≡ accepted r → Timed r
      go (refused n) e h = absurd (let z : ◌≡◌ {A = ℕ} 0 1 = cc in omega arith)
      go (accepted a) e h =
          let p = passed (in_order b.last (instant_of a.value)) 15 (accepted (record_at f s i)) r h in
          record { stamp = (a, e); order = rw (instant_is a e) p.0; is = sym (same p.1) }

  pub step_good : (r : Record) → step f s i b ≡ accepted r → GoodAfter f s i b × (r ≡ record_at f s i)
  unfolding step
  step_good r e =
      let p = passed (fields_good f s i b) 14 _ r e in
      let t = was-timed r p.1 in
      (record { place = in_place_told p.0; stamp = t.stamp; order = t.order }, t.is)
