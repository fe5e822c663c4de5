-- `Ended::shown` meets its contract. Assumes nothing.
use mathlib.Core.Path.{◌≡◌, ap}
use Prim.Native.Nat.{suc, ◌-◌}
use native.Mathlib.Omega.{arith}
use mir.Syntax.{w64}
use mir.Facts.{to_z-of_z}
use borrow.Author.Rules.{sfits_of}
use Rattle.schedule.proofs.Stepping.{fields_small}
use Rattle.schedule.proofs.Finding.{shown_is}
use borrow.Author.Rules.{rules}
use Rattle.schedule.proofs.walk.Ended.shown.Goals as goal

pub fields-fields-requires : goal.fields-fields-requires
fields-fields-requires c = omega (arith, c.requires.0.few, c.requires.1, c.requires.2, c.args.card.counted)

pub in_file-requires : goal.in_file-requires
in_file-requires c = rw c.fields-fields.ensures (fields_small c.args.card.file.now _ c.args.card.in_octets).0

pub returns-then-place-self : goal.returns-then-place-self
returns-then-place-self c =
    let a = c.args in
    let p : a.self.passed ≡ suc (a.place - 1) = omega (arith, c.requires.1, c.if-place-self.true) in
    rw (c.in_file.ensures, c.fields-fields.ensures, to_z-of_z {w = w64} {z = a.self.last} (sfits_of (search rules)))
    (shown_is a.card.file.now a.place a.card.stamps _ c.requires.1 a.card.follow (c.requires.0.last (a.place - 1) p))

pub instant_of-requires : goal.instant_of-requires
instant_of-requires c =
    let a = c.args in (
      omega (arith, a.card.counted, c.requires.0.few, c.requires.1, c.requires.2),
      ap (λ x. x.start) c.fields-fields.ensures,
      c.requires.0.each (a.place - 1) (omega (arith, c.requires.1, c.requires.2)),
    )

pub in_file-requires-2 : goal.in_file-requires-2
in_file-requires-2 c = rw c.fields-fields.ensures (fields_small c.args.card.file.now _ c.args.card.in_octets).0

pub returns : goal.returns
returns c =
    let a = c.args in
    rw (c.in_file-2.ensures, c.fields-fields.ensures, to_z-of_z {w = w64} {z = c.instant_of.result} (sfits_of (search rules)))
    (shown_is a.card.file.now a.place a.card.stamps _ c.requires.1 a.card.follow c.instant_of.ensures)
