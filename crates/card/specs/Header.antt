-- The schedule file: the form of its records, and its header. (02, request 4.) `format/specs/Words.antt` has the legend of what is not ours.
--
--   RecordForm         how long a record is: one of twelve octets is the only one so far
--   record_size f      the octets of one record
--   header_size        the octets of the header
--   most_records       the most records that a file can have
--   count_of s         the count of records that the header says
--   stamp_octets s     the count of stamp octets that it says
--   stamps_start f s   where the stamp octets start in the file: behind the header and the records
--   header_good f s    header, counts and regions are right; else refusal 13
--
-- Here s is a file, octet by octet, of any length. Numbers have no upper end, so no sum wraps. A place beyond the file reads as 0; the first test of the
-- header rules that out.
use Rattle.std.specs.Prelude.{ℕ, ◌+◌, ◌*◌, Bool, List, leb, ltb, eqb, length}
use Rattle.format.specs.Words.{both, either}
use Rattle.format.specs.Octets.{unsigned_at}

pub data RecordForm : Type 0 where
  twelve : RecordForm

-- "A record is 12 octets"
abbrev pub record_size : RecordForm → ℕ
record_size twelve = 12

-- "Its header is four big-endian 32-bit numbers, the count of records, where they start, the count of stamp octets, where these start."
abbrev pub header_size : ℕ
header_size = 16

unfoldable pub count_of : List ℕ → ℕ
count_of s = unsigned_at s 0 4

unfoldable pub stamp_octets : List ℕ → ℕ
stamp_octets s = unsigned_at s 8 4

unfoldable pub stamps_start : RecordForm → List ℕ → ℕ
stamps_start f s = header_size + record_size f * count_of s

abbrev pub most_records : ℕ
most_records = 1000

-- "The two regions follow the header in that order, without gap or overlap, and end the file. At most 1,000 records"; "with no records there are no stamp octets"
unfoldable pub header_good : RecordForm → List ℕ → Bool
header_good f s =
    both (leb header_size (length s))
    (both (leb (count_of s) most_records)
    (both (eqb (unsigned_at s 4 4) header_size)
    (both (eqb (unsigned_at s 12 4) (stamps_start f s))
    (both (eqb (stamps_start f s + stamp_octets s) (length s))
    (either (ltb 0 (count_of s)) (eqb (stamp_octets s) 0))))))
