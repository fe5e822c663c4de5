-- `octets::with_rest` meets its contract: each octet has room, and is one more of those passed. Assumes nothing.
use Rattle.std.proofs.Common.{◌≡◌, ℕ, ◌+◌, ◌-◌, ◌<◌, ◌≤◌, List, length, get_or, take, drop, sym, ◌∙◌, arith, to_z-of_z, w64, length-take, length-drop, get_or-take, get_or-drop}
use Rattle.octets.proofs.Taking.{one_more, all_passed, room}
use Rattle.octets.proofs.with_rest.Goals as goal

-- the octets behind the first p of n
module _ (s : List ℕ) (at n p i : ℕ) (l : at + n ≤ length s) (q : p ≤ n) where
  count : length (take (at + n - (at + p)) (drop (at + p) s)) ≡ n - p
  count = simp (length-take, length-drop) (omega arith)

  octet : i < n - p → get_or (take (at + n - (at + p)) (drop (at + p) s)) i 0 ≡ get_or s (at + (p + i)) 0
  octet h =
      let e : at + p + i ≡ at + (p + i) = omega arith in
      get_or-take (at + n - (at + p)) (drop (at + p) s) i 0 (omega arith) ∙ rw (get_or-drop, e)

pub with_octet-v-requires : goal.with_octet-v-requires
with_octet-v-requires c =
    let f = c.requires.fits in
    let h = rw (count c.args.s.now c.args.at c.args.n c.args.passed 0 f.0 f.3) at c.loop-octet-test.true in
    rw c.loop-octet.invariant (room c.args.s.now c.args.at _ (λ k. omega (arith, c.type_inv.s k)) (omega (arith, f, h)) (omega (arith, f, h)))

pub loop-octet-preserved : goal.loop-octet-preserved
loop-octet-preserved c =
    let p = c.args.passed in
    let i = c.loop-octet.octet-index in
    let f = c.requires.fits in
    let h = rw (count c.args.s.now c.args.at c.args.n p 0 f.0 f.3) at c.loop-octet-test.true in
    let e : p + (i + 1) ≡ p + i + 1 = omega arith in
    rw (to_z-of_z {w = w64} (record { sfits = c.with_octet-v.type_inv }), c.with_octet-v.ensures, c.loop-octet.invariant, octet c.args.s.now c.args.at c.args.n p i f.0 f.3 h, e)
    (sym (one_more c.args.s.now c.args.at (p + i) (omega (arith, f, h))))

pub returns : goal.returns
returns c =
    let f = c.requires.fits in
    let n = count c.args.s.now c.args.at c.args.n c.args.passed 0 f.0 f.3 in
    let e : c.args.passed + c.loop-octet.octet-index ≡ c.args.n = omega (arith, f, n) in
    rw e at c.loop-octet.invariant ∙ all_passed c.args.s.now c.args.at c.args.n f.0 f.1
