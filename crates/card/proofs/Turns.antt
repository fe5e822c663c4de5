-- One turn of a loop over the records, for code: what is left to come from record i on, and what a turn makes of it. Assumes nothing.
--     walk_end     behind the last record
--     walk_turn    at record i: what its step leads to
use mathlib.Core.Path.{◌≡◌, ap, ◌∙◌}
use mathlib.Core.Bool.{Bool}
use mathlib.Core.List.{List, []}
use Prim.Native.Nat.{ℕ, suc, ◌-◌, ◌≤◌, ◌<◌}
use native.Mathlib.Omega.{arith}
use Rattle.format.specs.Words.{Outcome}
use Rattle.card.specs.Header.{RecordForm}
use Rattle.card.specs.Records.{Record}
use Rattle.card.specs.Step.{Before, after, step}
use Rattle.card.specs.Reading.{taken, go_on, walk}

module _ (f : RecordForm) (s : List ℕ) (stop : Record → Bool) (n i : ℕ) (b : Before) where
  pub walk_end : n ≤ i → walk f s stop i (n - i) b ≡ taken []
  unfolding walk
  walk_end l = let e : n - i ≡ 0 = omega arith in ap (λ k. walk f s stop i k b) e

  pub walk_turn : i < n → (o : Outcome Record) → step f s i b ≡ o → walk f s stop i (n - i) b ≡ go_on stop (suc i) o (λ r. walk f s stop (suc i) (n - suc i) (after r))
  unfolding walk
  walk_turn l o x =
      let e : n - i ≡ suc (n - suc i) = omega arith in
      ap (λ k. walk f s stop i k b) e ∙ ap (λ y. go_on stop (suc i) y (λ r. walk f s stop (suc i) (n - suc i) (after r))) x
