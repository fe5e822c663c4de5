-- `Taken::in_file` meets its contract. Assumes nothing.
use mir.Syntax.{w64}
use mir.Facts.{to_z-of_z}
use borrow.Author.Rules.{sfits_of}
use borrow.Author.Rules.{rules}
use native.Mathlib.Omega.{arith}
use Rattle.schedule.proofs.Stepping.{stamps_small}
use Rattle.schedule.proofs.walk.Taken.in_file.Goals as goal

pub overflow_add-result : goal.overflow_add-result
overflow_add-result c = record { fits = omega (arith, stamps_small c.args.card, c.requires) }

pub returns : goal.returns
returns c =
    let t = c.args.self in
    rw (to_z-of_z {w = w64} {z = t.fields.correction} (sfits_of (search rules)), c.new.ensures, to_z-of_z {w = w64} {z = t.instant} (sfits_of (search rules)))
