-- `instant_of` meets its contract: a run over the one record. Assumes nothing.
use native.Mathlib.Omega.{arith}
use mir.Syntax.{w64}
use mir.Facts.{to_z-of_z}
use borrow.Author.Rules.{sfits_of}
use lib.IntN.{negsuc}
use Rattle.std.specs.Prelude.{Ok, Err}
use Rattle.schedule.specs.Steps.{alone, Runs}
use Rattle.schedule.proofs.Endings.{alone_instant, alone_never}
use borrow.Author.Rules.{rules}
use Rattle.schedule.proofs.header.Card.instant_of.Goals as goal

pub returns-in-Ok : goal.returns-in-Ok
returns-in-Ok c =
    let a = c.args in
    let s = a.self.file.now in
    let w : Runs s (negsuc 9223372036854775807) a.i (alone s a.i) (Ok c.in-Ok.ended) = rw (c.in-Ok.is, c.requires.1) at c.run.ensures in
    rw (to_z-of_z {w = w64} {z = c.in-Ok.ended.instant} (sfits_of (search rules)))
    (alone_instant s a.self.in_octets a.i (omega (arith, c.requires.0, c.args.self.counted)) c.requires.2 c.in-Ok.ended w)

pub returns-in-Err : goal.returns-in-Err
returns-in-Err c =
    let a = c.args in
    let s = a.self.file.now in
    let w : Runs s (negsuc 9223372036854775807) a.i (alone s a.i) (Err c.in-Err.field-0) = rw (c.in-Err.is, c.requires.1) at c.run.ensures in
    alone_never s a.self.in_octets a.i (omega (arith, c.requires.0, c.args.self.counted)) c.requires.2 c.in-Err.field-0 w
