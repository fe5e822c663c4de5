-- No record is later than the greatest number of 64 bits: up to that the whole file is read. (02, request 5.) Assumes nothing.
--     all_before      a stop that no record meets is no stop
--     up_to_greatest  reading up to the greatest number is full reading
use mathlib.Core.Path.{◌≡◌, refl, sym, ap, ◌∙◌}
use mathlib.Core.Bool.{Bool, true, false, not}
use mathlib.Core.List.{List}
use Prim.Native.Nat.{ℕ, zero, suc}
use lib.IntN.{ℤ, pos}
use lib.Signed.{le_z}
use Rattle.format.specs.Words.{Outcome, accepted, refused}
use Rattle.format.specs.Octets.{Octets}
use Rattle.format.specs.Values.{DatetimeTz}
use Rattle.format.proofs.Cases.{both_true}
use Rattle.format.proofs.Round.{was_read}
use Rattle.moments.specs.Instant.{instant_of, least_instant, greatest_instant, is_instant}
use Rattle.moments.proofs.Limits.{within}
use Rattle.card.specs.Header.{RecordForm, count_of, header_good}
use Rattle.card.specs.Records.{Record, record_at, instant_at, stamp_at}
use Rattle.card.specs.Step.{Before, at_front, after, step}
use Rattle.card.specs.Reading.{Walked, joined, go_on, walk, walk_file, never}
use Rattle.card.specs.Question.{later}
use Rattle.card.proofs.Described.{GoodAfter}
use Rattle.card.proofs.Tests.{le_z_trans}
use Rattle.card.proofs.Stepping.{step_good, instant_is}
use Rattle.card.proofs.Exactly.{file_walk, file_fault}
use Rattle.card.proofs.Limits.{stamp_octets_lem}

abbrev pub greatest_asked : ℤ
greatest_asked = pos 9223372036854775807

module _ (f : RecordForm) (s : List ℕ) where
  same_step : (stop : Record → Bool) (place : ℕ) (o : Outcome Record) (next all : Record → Walked) → ((r : Record) → o ≡ accepted r → stop r ≡ false)
      → ((r : Record) → next r ≡ all r) → go_on stop place o next ≡ go_on never place o all
  same_step stop place (refused n) next all q h = refl
  same_step stop place (accepted r) next all q h = rw (q r refl) (ap (joined r) (h r))

  module _ (stop : Record → Bool) (q : (i : ℕ) (b : Before) (r : Record) → step f s i b ≡ accepted r → stop r ≡ false) where
    same-walk : (i n : ℕ) (b : Before) → walk f s stop i n b ≡ walk f s never i n b
    unfolding walk
    same-walk i zero b = refl
    same-walk i (suc n) b =
        same_step stop (suc i) (step f s i b) (λ r. walk f s stop (suc i) n (after r)) (λ r. walk f s never (suc i) n (after r)) (q i b)
        (λ r. same-walk (suc i) n (after r))

    pub all_before : walk_file f s stop ≡ walk_file f s never
    all_before = go (header_good f s) refl
      where
        go : (b : Bool) → header_good f s ≡ b → walk_file f s stop ≡ walk_file f s never
        go true h = file_walk f s stop h ∙ same-walk 0 (count_of s) at_front ∙ sym (file_walk f s never h)
        go false h = file_fault f s stop h ∙ sym (file_fault f s never h)

  module _ (o : Octets s) where
    pub not_above : (i : ℕ) (b : Before) → GoodAfter f s i b → le_z (instant_at f s i) greatest_asked ≡ true
    unfolding is_instant
    not_above i b g =
        let a = g.stamp in
        let w = within a.0.value (was_read DatetimeTz (stamp_at f s i) a.0 (stamp_octets_lem f s o i) a.1).from.range in
        let t = both_true (le_z least_instant (instant_of a.0.value)) _ w in
        rw (instant_is f s i b a.0 a.1) (le_z_trans (instant_of a.0.value) greatest_instant greatest_asked t.1 refl)

    not-later : (i : ℕ) (b : Before) (r : Record) → step f s i b ≡ accepted r → later greatest_asked r ≡ false
    unfolding record_at
    not-later i b r e = let g = step_good f s i b r e in rw g.1 (ap not (not_above i b g.0))

    pub up_to_greatest : walk_file f s (later greatest_asked) ≡ walk_file f s never
    up_to_greatest = all_before (later greatest_asked) not-later
