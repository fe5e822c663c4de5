-- `Card::fields` meets its contract: the word taken apart is the first three fields. Assumes nothing.
use native.Mathlib.Omega.{arith}
use Prim.Native.Nat.{◌+◌, ◌*◌}
use mir.Facts.{to_z-of_z}
use Rattle.card.specs.Records.{start_at, length_at, channel_at, correction_at}
use Rattle.schedule.proofs.Stepping.{record_fits}
use Rattle.schedule.proofs.Words.{word_first, word_next, word_last}
use Rattle.schedule.proofs.header.Card.fields.Goals as goal

pub take8-word-requires : goal.take8-word-requires
take8-word-requires c = omega (arith, record_fits c.args.self c.args.i c.requires)

pub signed-correction-requires : goal.signed-correction-requires
signed-correction-requires c = omega (arith, record_fits c.args.self c.args.i c.requires)

pub returns : goal.returns
unfolding start_at length_at channel_at correction_at
returns c =
    let a = c.args in
    let o = a.self.in_octets in
    let at = 16 + 12 * a.i in
    rw (
      c.take8-word.ensures,
      word_first a.self.file.now at o,
      word_next a.self.file.now at o,
      word_last a.self.file.now at o,
      to_z-of_z {z = c.signed-correction.result} (record { sfits = c.signed-correction.type_inv }),
      c.signed-correction.ensures,
    )
