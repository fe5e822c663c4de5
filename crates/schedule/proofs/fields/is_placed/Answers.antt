-- `is_placed` meets its contract: its tests are those of `placed`. Assumes nothing.
use mathlib.Core.Path.{◌≡◌, refl}
use mathlib.Core.Bool.{Bool, true, false}
use Prim.Native.Nat.{ℕ}
use native.Mathlib.Omega.{arith}
use lib.Dec.{eqb, leb}
use borrow.Author.Tests.{eq-eqb, ne_eqb, eqb-true, le-leb}
use Rattle.format.specs.Words.{both}
use Rattle.format.proofs.Cases.{both_false}
use Rattle.card.specs.Step.{placed}
use Rattle.schedule.proofs.fields.is_placed.Goals as goal

-- where the ends are the same, the one is not past the other
same_end : (a b : ℕ) → eqb a b ≡ both (leb a b) (eqb a b)
same_end a b = go (eqb a b) refl
  where
    go : (t : Bool) → eqb a b ≡ t → eqb a b ≡ both (leb a b) (eqb a b)
    go true e = rw (e, le-leb a b (omega (arith, eqb-true a b e)))
    go false e = rw (e, both_false (leb a b))

pub returns-then-start-ended : goal.returns-then-start-ended
unfolding placed
returns-then-start-ended c = rw (ne_eqb _ _ c.if-start-ended.true)

pub returns-then-last : goal.returns-then-last
unfolding placed
returns-then-last c =
    let a = c.args in
    rw (eq-eqb a.start a.ended c.if-start-ended.false, c.if-last.true) (same_end a.end a.octets)

pub returns : goal.returns
unfolding placed
returns c =
    let a = c.args in
    rw (eq-eqb a.start a.ended c.if-start-ended.false, c.if-last.false) (both-true-is (leb a.end a.octets))
  where
    both-true-is : (b : Bool) → b ≡ both b true
    both-true-is true = refl
    both-true-is false = refl
