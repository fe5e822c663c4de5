-- `put_numbers` meets its contract: each cast keeps its number. Assumes nothing.
use mathlib.Core.Path.{◌∙◌}
use borrow.Author.Rules.{rules, sfits_of}
use Rattle.boundary.specs.Boundary.{numbers_of}
use Rattle.boundary.proofs.Parts.{eight_kept}
use Rattle.boundary.proofs.handing.put_numbers.Goals as goal

pub returns : goal.returns
unfolding numbers_of
returns c =
    let v = c.args.value in
    eight_kept _ c.args.form c.args.digits v.date.year v.date.month v.date.day v.time.micros v.offset.minutes
    (search rules) (search rules) (search rules) (search rules) (search rules) (search rules) c.requires (sfits_of (search rules))
    ∙ rw c.from-kind.ensures
