-- What a reader of one kind answers. (01, How a reader chooses; Refusal numbers.)
--
--   first_bits s    the first four bits
--   form_in k s     the form that is chosen
--   read_in k f s   what reading s in that form comes to: the first of 5, 6, 7, 8 that applies, each over the whole input before the next
--   read_as k f s   the same, with the answer under its kind and form
--   read k s        the same in the form that is chosen
use Rattle.std.specs.Prelude.{ℕ, ◌/◌, List, leb, eqb, length, get_or}
use Rattle.format.specs.Words.{pick, both, Outcome, accepted, refused}
use Rattle.format.specs.Values.{Kind, timed, Value, Form, text, compact, extended, Answer}
use Rattle.format.specs.TextReading.{digits_found, read_text}
use Rattle.format.specs.CompactReading.{longest, read_compact}
use Rattle.format.specs.Extended.{head_bits, read_extended}

unfoldable pub first_bits : List ℕ → ℕ
first_bits s = get_or s 0 0 / 16

-- 01's table: up to so many octets compact; longer, with this kind's first bits, extended; others text
unfoldable pub form_in : Kind → List ℕ → Form
form_in k s =
    pick (leb (length s) (longest k)) compact
    (pick (both (timed k) (eqb (first_bits s) (head_bits k))) extended
    (text (digits_found k (length s))))

unfoldable pub read_in : Kind → Form → List ℕ → Outcome Value
read_in k (text d) s = read_text k d s
read_in k compact s = read_compact k s
read_in k extended s = read_extended k s

abbrev pub answer : Kind → Form → Outcome Value → Outcome Answer
answer k f (accepted v) = accepted (record { kind = k; form = f; value = v })
answer k f (refused n) = refused n

abbrev pub read_as : Kind → Form → List ℕ → Outcome Answer
read_as k f s = answer k f (read_in k f s)

unfoldable pub read : Kind → List ℕ → Outcome Answer
read k s = read_as k (form_in k s) s
