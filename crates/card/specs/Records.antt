-- A record by its place, and the list of all records. (02, request 4.) Places count from 0 here; an answer's place counts from one.
--
--   record_start f i    where record i starts in the file
--   start_at, end_at    where its stamp starts and ends, within the stamp octets
--   length_at           its stamp's length
--   channel_at          its channel
--   correction_at       its correction, signed, in parts in 10 to the 18
--   stamp_at            the octets of its stamp
--   instant_at          the instant of its stamp; 0 where the stamp is refused
--   Record, record_at   all that is asked of a record: its place from one, where its stamp starts within the stamp octets and how long it is, channel,
--                       correction, instant
--   in_file f s r       r with its stamp's start within the file
--   records_from f s i n the n records from i on, in their order
use Rattle.std.specs.Prelude.{ℕ, zero, suc, ◌+◌, ◌*◌, List, [], ◌∷◌, ℤ, pos, take, drop}
use Rattle.format.specs.Words.{Outcome, accepted, refused}
use Rattle.format.specs.Octets.{unsigned_at, signed_of}
use Rattle.format.specs.Values.{DatetimeTz, Answer}
use Rattle.format.specs.Reading.{read}
use Rattle.moments.specs.Instant.{instant_of}
use Rattle.card.specs.Header.{RecordForm, record_size, header_size, stamps_start}

abbrev pub record_start : RecordForm → ℕ → ℕ
record_start f i = header_size + record_size f * i

-- "stamp start within the stamp octets (32 bits), stamp length (16), channel 1 to 16 (16), correction (signed 32, in parts in 10 to the 18 ..)"
unfoldable pub start_at : RecordForm → List ℕ → ℕ → ℕ
start_at f s i = unsigned_at s (record_start f i) 4

unfoldable pub length_at : RecordForm → List ℕ → ℕ → ℕ
length_at f s i = unsigned_at s (record_start f i + 4) 2

unfoldable pub channel_at : RecordForm → List ℕ → ℕ → ℕ
channel_at f s i = unsigned_at s (record_start f i + 6) 2

unfoldable pub correction_at : RecordForm → List ℕ → ℕ → ℤ
correction_at f s i = signed_of (take 4 (drop (record_start f i + 8) s))

abbrev pub end_at : RecordForm → List ℕ → ℕ → ℕ
end_at f s i = start_at f s i + length_at f s i

unfoldable pub stamp_at : RecordForm → List ℕ → ℕ → List ℕ
stamp_at f s i = take (length_at f s i) (drop (stamps_start f s + start_at f s i) s)

abbrev pub instant_read : Outcome Answer → ℤ
instant_read (accepted a) = instant_of a.value
instant_read (refused n) = pos 0

-- "Stamps are DatetimeTz contents": by the reader of DatetimeTz, never either-or
unfoldable pub instant_at : RecordForm → List ℕ → ℕ → ℤ
instant_at f s i = instant_read (read DatetimeTz (stamp_at f s i))

pub record Record : Type 0 where
  pub place : ℕ
  -- within the stamp octets; `in_file` makes it one within the file
  pub start : ℕ
  pub size : ℕ
  pub channel : ℕ
  pub correction : ℤ
  pub instant : ℤ

unfoldable pub record_at : RecordForm → List ℕ → ℕ → Record
record_at f s i =
    record {
      place = suc i;
      start = start_at f s i;
      size = length_at f s i;
      channel = channel_at f s i;
      correction = correction_at f s i;
      instant = instant_at f s i;
    }

abbrev pub in_file : RecordForm → List ℕ → Record → Record
in_file f s r =
    record {
      place = r.place;
      start = stamps_start f s + r.start;
      size = r.size;
      channel = r.channel;
      correction = r.correction;
      instant = r.instant;
    }

-- the n records from i on
unfoldable pub records_from : RecordForm → List ℕ → ℕ → ℕ → List Record
records_from f s i zero = []
records_from f s i (suc n) = record_at f s i ∷ records_from f s (suc i) n
