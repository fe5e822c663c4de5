-- What a writer writes: the image in the chosen form, or the first refusal that applies. (01, Refusal numbers.)
--
--   image_in k f v    the image of a value in a form
--   has_form k f v    the value has that form
--   encode_in k f v   what writing in that form comes to: 2, 3, or the image
--   encode k t v      what writing comes to: 1, or what it comes to in the chosen form; 4, the buffer, comes after all of them (`Buffer.antt`)
use Rattle.std.specs.Prelude.{ℕ, List, Bool, true}
use Rattle.format.specs.Words.{Outcome, accepted, unless}
use Rattle.format.specs.Values.{Kind, Value, in_range, Settings, digits_in_range, Form, text, compact, extended}
use Rattle.format.specs.Choice.{form_for}
use Rattle.format.specs.Text.{text_image}
use Rattle.format.specs.Compact.{has_compact, compact_image}
use Rattle.format.specs.Extended.{extended_image}

unfoldable pub image_in : Kind → Form → Value → List ℕ
image_in k (text d) v = text_image k d v
image_in k compact v = compact_image k v
image_in k extended v = extended_image k v

unfoldable pub has_form : Kind → Form → Value → Bool
has_form k (text d) v = true
has_form k compact v = has_compact k v
has_form k extended v = true

-- 2, a value part out of its range, or no such day; 3, no compact form
abbrev pub encode_in : Kind → Form → Value → Outcome (List ℕ)
encode_in k f v =
    unless (in_range k v) 2
    (unless (has_form k f v) 3
    (accepted (image_in k f v)))

-- 1, digits above 6, in every kind and form
unfoldable pub encode : Kind → Settings → Value → Outcome (List ℕ)
encode k t v = unless (digits_in_range t.digits) 1 (encode_in k (form_for k t v) v)
