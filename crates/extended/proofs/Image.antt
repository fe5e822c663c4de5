-- The octets of an extended stamp: the parts stored one after the other. Assumes nothing.
use Prim.Native.Nat.{ℕ, ◌+◌, ◌*◌}
use mathlib.Core.Path.{◌≡◌, refl, ◌∙◌}
use mathlib.Core.List.{List, ◌++◌}
use lib.Seq.{sets}
use Rattle.format.specs.Words.{if_any}
use Rattle.format.specs.Floor.{mod_f}
use Rattle.format.specs.Calendar.{day_number}
use Rattle.format.specs.Values.{Kind, dated, zoned, Value}
use Rattle.format.specs.Octets.{unsigned_octets}
use Rattle.format.specs.Extended.{head_bits, twelve, day_width, extended_image}
use Rattle.format.proofs.Unsigned.{unsigned_length}
use Rattle.format.proofs.Storing.{sets_then}

-- a buffer l, then m with a number of n octets stored at i, then r with the rest stored behind it
pub then_stored : (l m r : List ℕ) (i n x : ℕ) (ys : List ℕ)
    → m ≡ sets l i (unsigned_octets n x) → r ≡ sets m (i + n) ys → r ≡ sets l i (unsigned_octets n x ++ ys)
then_stored l m r i n x ys p q =
    q ∙ rw p (sets_then l i (i + n) (unsigned_octets n x) ys _ (rw (unsigned_length n x)) refl)

pub image_is : (k : Kind) (v : Value) (h day : ℕ) → h ≡ head_bits k * 4096 + if_any (zoned k) (mod_f v.offset 4096) → day ≡ if_any (dated k) (day_number v.date)
    → unsigned_octets 2 h ++ (unsigned_octets (day_width k) day ++ unsigned_octets 5 v.micros) ≡ extended_image k v
unfolding extended_image twelve
image_is k v h day s d = rw (s, d)
