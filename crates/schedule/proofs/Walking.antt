-- A walk over the records. Assumes nothing.
--     low, walk_low     before the first record the code has the least number for the last instant: no instant is below it
--     taken_is          a record that a step took is the one at its place
--     alone_good        it is good by itself too: its stamp can be read once more
--     above_least       and later than the least number
use mathlib.Core.Path.{◌≡◌, refl, sym, ap, ◌∙◌}
use mathlib.Core.Bool.{Bool, true, false}
use mathlib.Core.List.{List}
use Prim.Native.Nat.{ℕ, zero, suc, ◌<◌}
use native.Mathlib.Omega.{arith}
use lib.IntN.{negsuc}
use lib.Signed.{le_z}
use Rattle.format.specs.Words.{Outcome, accepted, refused, unless}
use Rattle.format.specs.Octets.{Octets}
use Rattle.format.specs.Values.{DatetimeTz, Answer}
use Rattle.format.specs.Reading.{read}
use Rattle.format.proofs.Cases.{never, both_true}
use Rattle.format.proofs.Round.{was_read}
use Rattle.moments.specs.Instant.{instant_of, least_instant, is_instant}
use Rattle.moments.proofs.Limits.{within}
use Rattle.card.specs.Header.{twelve}
use Rattle.card.specs.Records.{stamp_at, start_at, length_at, instant_at, record_at, Record as FileRecord}
use Rattle.card.specs.Step.{at, none, Before as FileBefore, at_front, after, place_good, fields_good, timed, step}
use Rattle.card.specs.Reading.{walk, go_on}
use Rattle.card.proofs.Tests.{le_z_trans}
use Rattle.card.proofs.Stepping.{step_good, good_step, instant_is}
use Rattle.card.proofs.Limits.{stamp_octets_lem}
use Rattle.schedule.specs.declared.Refusal.{Refusal}
use Rattle.schedule.specs.declared.walk.Taken.{Taken}
use Rattle.std.specs.Prelude.{Result, Ok, Err}
use Rattle.schedule.specs.Meaning.{refusal_number}
use Rattle.schedule.specs.Steps.{taken, stepped, alone, GoodAlone}
use Rattle.schedule.proofs.Stepping.{fields_small}

abbrev pub low : FileBefore
low = record { ended = 0; last = at (negsuc 9223372036854775807) }

module _ (s : List ℕ) (o : Octets s) where
  from_least : (a : Answer) (i : ℕ) → read DatetimeTz (stamp_at twelve s i) ≡ accepted a → le_z least_instant (instant_of a.value) ≡ true
  unfolding is_instant
  from_least a i e =
      let r = within a.value (was_read DatetimeTz (stamp_at twelve s i) a (stamp_octets_lem twelve s o i) e).from.range in
      (both_true (le_z least_instant (instant_of a.value)) _ r).0

  above_low : (a : Answer) (i : ℕ) → read DatetimeTz (stamp_at twelve s i) ≡ accepted a → le_z (negsuc 9223372036854775807) (instant_of a.value) ≡ true
  above_low a i e = le_z_trans (negsuc 9223372036854775807) least_instant (instant_of a.value) refl (from_least a i e)

  step-low : (i : ℕ) → step twelve s i low ≡ step twelve s i at_front
  unfolding step fields_good place_good
  step-low i = ap (unless (fields_good twelve s i low) 14) (go (read DatetimeTz (stamp_at twelve s i)) refl)
    where
      go : (x : Outcome Answer) → read DatetimeTz (stamp_at twelve s i) ≡ x
          → timed (record_at twelve s i) (at (negsuc 9223372036854775807)) x ≡ timed (record_at twelve s i) none x
      go (accepted a) e = rw (above_low a i e)
      go (refused n) e = refl

  pub walk_low : (stop : FileRecord → Bool) (n : ℕ) → walk twelve s stop 0 n low ≡ walk twelve s stop 0 n at_front
  unfolding walk
  walk_low stop zero = refl
  walk_low stop (suc n) = ap (λ x. go_on stop 1 x (λ r. walk twelve s stop 1 n (after r))) (step-low 0)

  pub alone_good : (i : ℕ) (b : FileBefore) (r : FileRecord) → step twelve s i b ≡ accepted r → GoodAlone s i
  alone_good i b r e =
      let g = (step_good twelve s i b r e).0 in
      let p = g.place in
      let a = g.stamp in
      good_step twelve s i (alone s i)
      (record {
        place = record { channel = p.channel; correction = p.correction; starts = refl; within = p.within; ends = p.ends };
        stamp = a;
        order = rw (instant_is twelve s i b a.0 a.1) (above_low a.0 i a.1);
      })

  pub above_least : (i : ℕ) → GoodAlone s i → le_z (instant_at twelve s i) (negsuc 9223372036854775807) ≡ false
  above_least i e =
      let a = (step_good twelve s i (alone s i) _ e).0.stamp in
      let l : le_z least_instant (instant_at twelve s i) ≡ true = rw (instant_is twelve s i (alone s i) a.0 a.1) (from_least a.0 i a.1) in
      go (le_z (instant_at twelve s i) (negsuc 9223372036854775807)) refl l
    where
      go : (x : Bool) → le_z (instant_at twelve s i) (negsuc 9223372036854775807) ≡ x → le_z least_instant (instant_at twelve s i) ≡ true → x ≡ false
      go true q l = never (le_z_trans least_instant (instant_at twelve s i) (negsuc 9223372036854775807) l q)
      go false q l = refl

-- what a step answered
pub step_took : (s : List ℕ) (i : ℕ) (b : FileBefore) (t : Taken) (r : Result Taken Refusal) → r ≡ Ok t → stepped i r ≡ step twelve s i b → step twelve s i b ≡ accepted (taken i t)
step_took s i b t r e h = sym h ∙ ap (stepped i) e

pub step_bad : (s : List ℕ) (i : ℕ) (b : FileBefore) (f : Refusal) (r : Result Taken Refusal) → r ≡ Err f → stepped i r ≡ step twelve s i b → step twelve s i b ≡ refused (refusal_number f)
step_bad s i b f r e h = sym h ∙ ap (stepped i) e

pub taken_is : (s : List ℕ) (i : ℕ) (b : FileBefore) (t : Taken) → step twelve s i b ≡ accepted (taken i t) → taken i t ≡ record_at twelve s i
taken_is s i b t e = (step_good twelve s i b (taken i t) e).1

pub taken_small : (s : List ℕ) (i : ℕ) (t : Taken) → Octets s → taken i t ≡ record_at twelve s i → (t.fields.start < 4294967296) × (t.fields.length < 65536)
unfolding record_at
taken_small s i t o e =
    let f = fields_small s i o in
    let p : t.fields.start ≡ start_at twelve s i = ap (λ r. r.start) e in
    let q : t.fields.length ≡ length_at twelve s i = ap (λ r. r.size) e in
    (omega (arith, f.0, p), omega (arith, f.1, q))

pub taken_instant : (s : List ℕ) (i : ℕ) (t : Taken) → taken i t ≡ record_at twelve s i → t.instant ≡ instant_at twelve s i
unfolding record_at
taken_instant s i t e = ap (λ r. r.instant) e
