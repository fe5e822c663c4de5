-- An image's two parts: their length, and that storing one behind the other stores the image. Assumes nothing.
use mathlib.Core.Path.{◌≡◌, refl, sym, ◌∙◌}
use mathlib.Core.List.{List}
use Prim.Native.Nat.{ℕ, ◌+◌}
use native.Mathlib.Omega.{arith}
use lib.IntN.{ℤ}
use lib.ListN.{length, length-append}
use lib.Seq.{sets}
use Rattle.std.specs.Prelude.{Option, Some, None}
use Rattle.std.specs.Option.{is_some}
use Rattle.format.specs.Words.{if_any}
use Rattle.format.specs.Octets.{signed_octets}
use Rattle.format.proofs.Signed.{octets_length}
use Rattle.format.proofs.Storing.{sets_append}
use Rattle.compact.specs.declared.put.Image.{Image}
use Rattle.compact.specs.Meaning.{offset_octets, image_octets}

offset_length : (o : Option ℤ) → length (offset_octets o) ≡ if_any (is_some o) 2
offset_length (Some m) = octets_length 2 m
offset_length None = refl

module _ (i : Image) where
  pub image_length : length (image_octets i) ≡ if_any (is_some i.offset) 2 + i.octets
  unfolding image_octets
  image_length = simp (length-append, octets_length, offset_length)

  pub parts_stored : (lent : List ℕ) {front left : List ℕ} {at : ℕ} → at ≡ if_any (is_some i.offset) 2
      → front ≡ sets lent 0 (offset_octets i.offset) → left ≡ sets front at (signed_octets i.octets i.number) → left ≡ sets lent 0 (image_octets i)
  unfolding image_octets
  parts_stored lent a f l =
      let e : 0 + length (offset_octets i.offset) ≡ if_any (is_some i.offset) 2 = omega (arith, offset_length i.offset) in
      l ∙ rw (f, a) (sym (rw e at (sets_append lent 0 (offset_octets i.offset) (signed_octets i.octets i.number))))
