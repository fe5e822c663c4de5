-- `octets::take8` meets its contract: by halves. Assumes nothing.
use Rattle.std.proofs.Common.{◌≡◌, ◌+◌, arith}
use Rattle.format.specs.Octets.{unsigned_at}
use Rattle.octets.proofs.words.take8.Goals as goal

pub returns : goal.returns
unfolding unsigned_at
returns c =
    let at = c.args.at in
    let a : at + 4 + 0 ≡ at + 4 = omega arith in
    let b : at + 4 + 1 ≡ at + 5 = omega arith in
    let d : at + 4 + 2 ≡ at + 6 = omega arith in
    let e : at + 4 + 3 ≡ at + 7 = omega arith in
    rw (c.take4.ensures, c.take4-2.ensures, a, b, d, e) (omega arith)
