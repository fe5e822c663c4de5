-- `octets::take_low` meets its contract: eight octets are one word, and the zeros above do not count. Assumes nothing.
use Rattle.std.proofs.Common.{◌≡◌, ◌+◌, ◌-◌, [], ◌∷◌, ◌++◌, length, drop, arith, ◌∙◌, sym, ap, length-append, length-take, length-drop}
use Rattle.octets.specs.Words.{word}
use Rattle.octets.proofs.Storing.{eight_loaded, padded, standing_taken}
use Rattle.octets.proofs.low.take_low.Goals as goal

pub returns : goal.returns
returns g c =
    let n = g.row.N in
    let e : c.args.at + n - c.args.at ≡ n = omega arith in
    let t = standing_taken n c.args.s.now c.args.at c.requires.0 in
    let taken = rw e at c.copy_from_slice.ensures.after in
    let count : length (c.copy_from_slice.new.self ++ drop n (0 ∷ 0 ∷ 0 ∷ 0 ∷ 0 ∷ 0 ∷ 0 ∷ 0 ∷ [])) ≡ 8 = simp (length-append, taken, length-take, length-drop) (omega (arith, c.requires)) in
    record {
      number = eight_loaded _ _ count c.from_le_bytes.ensures ∙ padded n _ ∙ ap word (taken ∙ sym t);
      octets = λ k. omega (arith, c.type_inv.s k);
    }
