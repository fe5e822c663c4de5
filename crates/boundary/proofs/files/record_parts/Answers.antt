-- `record_parts` meets its contract: each cast keeps its number. Assumes nothing.
use mir.Syntax.{w64}
use mir.Facts.{to_z-of_z}
use Rattle.boundary.specs.Files.{record_numbers}
use Rattle.boundary.proofs.Parts.{unsigned_kept}
use borrow.Author.Rules.{rules, sfits_of}
use Rattle.boundary.proofs.files.record_parts.Goals as goal

pub returns : goal.returns
unfolding record_numbers
returns c =
    let s = c.args.shown in
    rw (
      unsigned_kept s.channel (search rules),
      unsigned_kept s.start (search rules),
      unsigned_kept s.length (search rules),
      to_z-of_z {w = w64} {z = s.correction} (sfits_of (search rules)),
      to_z-of_z {w = w64} {z = s.instant.micros} (sfits_of (search rules)),
    )
