-- What the code's types mean in the terms of `format`, and what `take` promises.
--
--   offset_octets o   the octets of an offset in front: two, or none
--   image_octets i    the octets of an image in the making: those, then the number's
--   has_length k s    the octets s are as many as compact can have
--   offset_at b s     what stands in front of s, where b says that an offset does
--   Takes k b s r     r is what stands in the octets s of a compact image of kind k, where b says that an offset stands in front
--   Sees k s r        r is that, of octets with a length that compact can have, or says nothing: the length is a rare one
--   counted_value c   the value of a number in its range
--   read_taken k r    what reading comes to, by what was taken
use Rattle.std.specs.Prelude.{ℕ, ◌≡◌, Bool, true, false, ℤ, pos, List, [], Option, Some, None, ◌++◌, leb, length, take, drop}
use Rattle.std.specs.Option.{is_some, unwrap_or}
use Rattle.format.specs.Words.{both, if_any, Outcome, accepted, unless}
use Rattle.format.specs.Values.{Kind, Value, offset_in_range}
use Rattle.format.specs.Octets.{signed_octets, signed_of}
use Rattle.format.specs.Compact.{start}
use Rattle.format.specs.CompactReading.{longest, shortest, carried_in, counted, number_in_range, usual, compact_value}
use Rattle.values.specs.Meaning.{kind_from}
use Rattle.compact.specs.declared.put.Image.{Image}
use Rattle.compact.specs.declared.reading.Taken.{Taken}
use Rattle.compact.specs.declared.counted.Counted.{Counted}

abbrev pub offset_octets : Option ℤ → List ℕ
offset_octets (Some minutes) = signed_octets 2 minutes
offset_octets None = []

unfoldable pub image_octets : Image → List ℕ
image_octets i = offset_octets i.offset ++ signed_octets i.octets i.number

abbrev pub has_length : Kind → List ℕ → Bool
has_length k s = both (leb (shortest k) (length s)) (leb (length s) (longest k))

abbrev pub offset_at : Bool → List ℕ → Option ℤ
offset_at true s = Some (signed_of (take 2 s))
offset_at false s = None

-- every field, so that no two answers are possible
pub record Takes (k : Kind) (front : Bool) (s : List ℕ) (r : Taken) : Type 0 where
  pub offset : r.offset ≡ offset_at front s
  pub number : r.number ≡ signed_of (drop (if_any front 2) s)
  pub usual : r.usual ≡ usual k front (signed_of (take (if_any front 2) s)) (length (drop (if_any front 2) s)) r.number

abbrev pub Sees : Kind → List ℕ → Option Taken → Type 0
Sees k s (Some t) = (has_length k s ≡ true) × Takes k (carried_in k (length s)) s t
Sees k s None = Unit {0}

abbrev pub counted_value : Counted → Value
counted_value c = compact_value (kind_from c.kind) c.count c.offset.minutes

-- 7, 8
unfoldable pub read_taken : Kind → Taken → Outcome Value
read_taken k t =
    unless t.usual 7
    (unless (both (offset_in_range (unwrap_or t.offset (pos 0))) (number_in_range k (is_some t.offset) t.number)) 8
    (accepted (compact_value k (counted (start k) t.number) (unwrap_or t.offset (pos 0)))))
