-- The extended form: two header octets, the day number in 3 where there is a date, the microseconds of the day in 5. (01, Extended.)
--
--   head_bits k           the header's first four bits: 1000 plain, 1001 zoned
--   twelve k v            its other twelve: the offset in two's complement, or zeros
--   day_width k           the octets of the day number
--   extended_image k v    the octets
--   offset_from b         twelve bits as an offset: they are signed
--   extended_value k ..   the value of what was read
--   read_extended k s     what reading s as extended comes to
use Rattle.std.specs.Prelude.{ℕ, ◌+◌, ◌*◌, ◌%◌, List, ◌++◌, ℤ, pos, leb, ltb, eqb, length}
use Rattle.std.proofs.Math.IntN.{sub_ℕ}
use Rattle.format.specs.Words.{pick, both, either, if_any, Outcome, accepted, unless}
use Rattle.format.specs.Calendar.{no_date, last_number, day_number, day_of}
use Rattle.format.specs.Values.{Kind, dated, zoned, Value, time_in_range, offset_in_range}
use Rattle.format.specs.Floor.{mod_f}
use Rattle.format.specs.Octets.{unsigned_octets, unsigned_at}

unfoldable pub head_bits : Kind → ℕ
head_bits k = pick (zoned k) 9 8

-- bits 1000 and twelve zero bits for plain; bits 1001 and a 12-bit two's complement offset for zoned
unfoldable pub twelve : Kind → Value → ℕ
twelve k v = if_any (zoned k) (mod_f v.offset 4096)

unfoldable pub day_width : Kind → ℕ
day_width k = if_any (dated k) 3

-- Time and TimeTz are 7 octets, Datetime and DatetimeTz 10
unfoldable pub extended_image : Kind → Value → List ℕ
extended_image k v =
    unsigned_octets 2 (head_bits k * 4096 + twelve k v)
    ++ (unsigned_octets (day_width k) (if_any (dated k) (day_number v.date))
    ++ unsigned_octets 5 v.micros)

-- ---- reading

unfoldable pub offset_from : ℕ → ℤ
offset_from b = pick (ltb b 2048) (pos b) (sub_ℕ b 4096)

unfoldable pub extended_value : Kind → ℕ → ℕ → ℕ → Value
extended_value k bits day micros =
    record {
      date = pick (dated k) (day_of day) no_date;
      micros = micros;
      offset = offset_from bits;
    }

-- 5; 6, extended plain: the twelve bits aren't zero; 8. There is no 7: offset zero is good.
unfoldable pub read_extended : Kind → List ℕ → Outcome Value
read_extended k s =
    let bits = unsigned_at s 0 2 % 4096 in
    let day = unsigned_at s 2 (day_width k) in
    let micros = unsigned_at s (2 + day_width k) 5 in
    unless (eqb (length s) (7 + day_width k)) 5
    (unless (either (zoned k) (eqb bits 0)) 6
    (unless (both (offset_in_range (offset_from bits)) (both (leb day last_number) (time_in_range micros))) 8
    (accepted (extended_value k bits day micros))))
