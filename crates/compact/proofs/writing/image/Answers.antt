-- `image` meets its contract: no form beyond the greatest number; else the parts of the image. Assumes nothing.
use mathlib.Core.Path.{◌≡◌, refl, sym}
use mathlib.Core.Bool.{Bool, true, false}
use lib.IntN.{ℤ}
use mir.Syntax.{w32, w64}
use mir.Val.{to_z, of_z}
use mir.Facts.{to_z-of_z}
use borrow.Author.Rules.{rules, sfits_of}
use Rattle.std.specs.Bool.{then_some}
use Rattle.format.specs.Words.{if_any}
use Rattle.format.specs.Octets.{signed_octets}
use Rattle.format.specs.Compact.{has_compact, compact_image}
use Rattle.format.proofs.Cases.{not_false}
use Rattle.values.specs.Meaning.{kind_from, value_from}
use Rattle.compact.specs.Meaning.{offset_octets, image_octets}
use Rattle.compact.proofs.writing.image.Goals as goal

-- ---- an offset where it is carried

carried_octets : (b : Bool) (m : ℤ) → offset_octets (then_some b m) ≡ signed_octets (if_any b 2) m
unfolding signed_octets
carried_octets true m = refl
carried_octets false m = refl

pub number_of-number-requires : goal.number_of-number-requires
number_of-number-requires c = c.requires.1

pub returns : goal.returns
unfolding image_octets compact_image
returns c =
    let m : to_z w32 (of_z w32 c.args.value.offset.minutes) ≡ c.args.value.offset.minutes = to_z-of_z {w = w32} (sfits_of (search rules)) in
    let n : to_z w64 (of_z w64 c.number_of-number.result) ≡ c.number_of-number.result = to_z-of_z {w = w64} (record { sfits = c.number_of-number.type_inv }) in
    rw (
      not_false (has_compact (kind_from c.args.kind) (value_from c.args.value)) (sym c.if-is_beyond.ensures),
      c.octets_of.ensures,
      n,
      c.then_some.ensures,
      carried_octets c.carries-front.result _,
      m,
      c.number_of-number.ensures,
      c.carries-front.ensures,
    )
