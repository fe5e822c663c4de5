-- `Offset::in_range` meets its contract: by the sign, one of the two tests decides. Assumes nothing.
use mathlib.Core.Path.{◌≡◌, refl, sym}
use mathlib.Core.Bool.{true, false, false≢true}
use Prim.Native.Nat.{suc}
use native.Mathlib.Omega.{arith}
use lib.IntN.{ℤ, pos, negsuc}
use lib.Signed.{lt_z, le_z}
use mir.Syntax.{w32}
use mir.Val.{to_z, of_z}
use mir.Facts.{to_z-of_z}
use borrow.Author.Rules.{rules, sfits_of}
use borrow.Author.Tests.{ltb-true, ltb-false, lt-leb, le-leb}
use Rattle.format.specs.Values.{offset_in_range}
use Rattle.values.proofs.parts.Offset.in_range.Goals as goal

below : (z : ℤ) → lt_z z (negsuc 1438) ≡ true → offset_in_range z ≡ false
unfolding offset_in_range
below (pos n) e = absurd (false≢true e)
below (negsuc n) e = lt-leb (suc n) 1439 (omega (arith, ltb-true 1438 n e))

above : (z : ℤ) → lt_z z (negsuc 1438) ≡ false → offset_in_range z ≡ le_z z (pos 1439)
unfolding offset_in_range
above (pos n) e = refl
above (negsuc n) e = le-leb (suc n) 1439 (omega (arith, ltb-false 1438 n e))

pub returns-then-minutes : goal.returns-then-minutes
returns-then-minutes c =
    let m = c.args.self.minutes in
    let e : to_z w32 (of_z w32 m) ≡ m = to_z-of_z {w = w32} (sfits_of (search rules)) in
    sym (below m (rw e at c.if-minutes.true))

pub returns : goal.returns
returns c =
    let m = c.args.self.minutes in
    let e : to_z w32 (of_z w32 m) ≡ m = to_z-of_z {w = w32} (sfits_of (search rules)) in
    rw e (sym (above m (rw e at c.if-minutes.false)))
