-- `is_beyond` meets its contract: the numbers are those since 2020-01-01. Assumes nothing.
use mir.Syntax.{w64}
use mir.Facts.{to_z-of_z}
use borrow.Author.Rules.{rules, sfits_of}
use Rattle.format.specs.Compact.{start, count, number, greatest, carried, has_compact}
use Rattle.values.specs.Meaning.{kind_from, value_from}
use Rattle.compact.proofs.Since.{beyond_since}
use Rattle.compact.proofs.writing.is_beyond.Goals as goal

pub returns : goal.returns
unfolding has_compact number
returns c =
    let k = kind_from c.args.kind in
    let v = value_from c.args.value in
    rw (
      to_z-of_z {z = c.greatest_number.result} (record { sfits = c.greatest_number.type_inv }),
      to_z-of_z {w = w64} {z = c.args.x} (sfits_of (search rules)),
      c.greatest_number.ensures,
      c.requires.1,
      c.requires.0,
    ) (beyond_since (count k v) (start k) (greatest k (carried k v)))
