-- What is claimed of the schedule file: each claim stands under its sentence of 02, request 4. How to read a claim stands in `Claims.antt`; the words of
-- numbers, and `accepted`, `refused`, in `format/specs/Words.antt`. The document's numbers stand here as literals. s is any file, octet by octet; i, j and k
-- count records from 0.
--
--   unsigned_at s p n         the unsigned big-endian number of the n octets of s from place p on; `signed_of` the signed number of octets
--   stamp_of s i              the octets of the stamp of record i: where its start, counted from the first stamp octet, and its length say
--   moment_of s i             the instant of that stamp, by the reader of DatetimeTz; 0 where it is refused
--   Header s                  the header is as 02 has it
--   InPlace s i               channel, correction and stamp place of record i are as 02 has them
--   Stamped s i               its stamp is accepted by the reader of DatetimeTz, never either-or
--   InOrder s i               its instant is not below that of the record before
--   Good s i                  all three
--   Card s                    the file is as 02 has it
--   Faulty s i m              record i is refused with m: the first of the three that fails
--   full_reading twelve s     what full reading comes to (`card/specs/Reading.antt`): `records n`, or `refused_at p m`, refused with m at the record of place p, from one
--   record_asked twelve s p   what the record at the place p, from one, comes to
--   ReadsFile, FindsRecord    what `read` and `record_at` promise (`schedule/specs/Calls.antt`): `Ok` and `Err` are their answers, an `Err` of `read` with the place too
--   ReadForC, RecordForC      what the two C functions promise (`boundary/specs/Files.antt`); `Gets` is what C gets of a call (`Instants.antt`)
--   le_z a b                  a ≤ b, of integers; `a -ℤ b` is a less b; `A ⊎ B`: A or B
use Rattle.std.specs.Prelude.{ℕ, suc, ◌+◌, ◌*◌, ◌<◌, ◌≤◌, ◌≡◌, ◌↔◌, ◌⊎◌, true, List, [], ◌∷◌, ℤ, pos, nat_abs, ◌-ℤ◌, ◌*ℤ◌, length, take, drop, Ok, Err}
use Rattle.std.specs.Int.Signed.{le_z}
use Rattle.format.specs.Words.{Outcome, accepted, refused}
use Rattle.format.specs.Octets.{Octets, unsigned_at, signed_of}
use Rattle.format.specs.Values.{DatetimeTz, Answer}
use Rattle.format.specs.Choice.{settings_for}
use Rattle.format.specs.Writing.{encode}
use Rattle.format.specs.Reading.{read}
use Rattle.format.specs.Calendar.{day_number}
use Rattle.moments.specs.Calls.{instant}
use Rattle.card.specs.Header.{twelve}
use Rattle.card.specs.Records.{Record}
use Rattle.card.specs.Reading.{records, refused_at, full_reading, record_asked}
use Rattle.card.specs.Bench.{TheCard, Accepted, OfHeaders, OfFields, OfPlaces, OfStamps, OfOrder, FirstOfTwo, OfRecords}
use Rattle.schedule.specs.declared.Record.{Record as GivenRecord}
use Rattle.schedule.specs.declared.Refusal.{Refusal}
use Rattle.schedule.specs.Meaning.{refusal_number}
use Rattle.schedule.specs.Calls.{ReadsFile, FindsRecord}
use Rattle.boundary.specs.Files.{ReadForC, RecordForC}
use Rattle.claims.specs.Instants.{Gets}

-- ---- the file, over places

-- "A record is 12 octets: stamp start within the stamp octets (32 bits), stamp length (16), channel .. (16), correction (signed 32, ..)"; records start at 16
abbrev pub start_of : List ℕ → ℕ → ℕ
start_of s i = unsigned_at s (16 + 12 * i) 4

abbrev pub length_of : List ℕ → ℕ → ℕ
length_of s i = unsigned_at s (16 + 12 * i + 4) 2

abbrev pub channel_of : List ℕ → ℕ → ℕ
channel_of s i = unsigned_at s (16 + 12 * i + 6) 2

abbrev pub correction_of : List ℕ → ℕ → ℤ
correction_of s i = signed_of (take 4 (drop (16 + 12 * i + 8) s))

-- the first header number is the count of records, so that the stamp octets start behind 16 + 12 n octets
abbrev pub stamp_of : List ℕ → ℕ → List ℕ
stamp_of s i = take (length_of s i) (drop (16 + 12 * unsigned_at s 0 4 + start_of s i) s)

-- the local reading less the offset, as of every stamp (`EachHasItsInstant`)
abbrev pub moment_read : Outcome Answer → ℤ
moment_read (accepted a) = pos (day_number a.value.date * 86400000000 + a.value.micros) -ℤ (a.value.offset *ℤ pos 60000000)
moment_read (refused n) = pos 0

abbrev pub moment_of : List ℕ → ℕ → ℤ
moment_of s i = moment_read (read DatetimeTz (stamp_of s i))

-- "Its header is four big-endian 32-bit numbers, the count of records, where they start, the count of stamp octets, where these start."; "The two regions follow the
-- header in that order, without gap or overlap, and end the file. At most 1,000 records"; "with no records there are no stamp octets"
pub record Header (s : List ℕ) : Type 0 where
  pub whole : 16 ≤ length s
  pub few : unsigned_at s 0 4 ≤ 1000
  pub records_start : unsigned_at s 4 4 ≡ 16
  pub stamps_start : unsigned_at s 12 4 ≡ 16 + 12 * unsigned_at s 0 4
  pub ends_file : unsigned_at s 12 4 + unsigned_at s 8 4 ≡ length s
  pub none_none : unsigned_at s 0 4 ≡ 0 → unsigned_at s 8 4 ≡ 0

-- where the stamp of record i has to start: "the first starts at 0", the others where the one before ended
abbrev pub StartsAt : List ℕ → ℕ → ℕ → Type 0
StartsAt s i p = ((i ≡ 0) × (p ≡ 0)) ⊎ ((j : ℕ) × (i ≡ suc j) × (p ≡ start_of s j + length_of s j))

-- "channel 1 to 16 .., correction (.. at most 1,000,000 either way)"; "Stamps follow one another in record order without gaps, the first starts at 0, and the last
-- record's stamp ends its region"; none ends past it
pub record InPlace (s : List ℕ) (i : ℕ) : Type 0 where
  pub channel : (1 ≤ channel_of s i) × (channel_of s i ≤ 16)
  pub correction : nat_abs (correction_of s i) ≤ 1000000
  pub starts : StartsAt s i (start_of s i)
  pub within : start_of s i + length_of s i ≤ unsigned_at s 8 4
  pub ends : suc i ≡ unsigned_at s 0 4 → start_of s i + length_of s i ≡ unsigned_at s 8 4

-- the stamp is accepted by the reader of DatetimeTz
abbrev pub Stamped : List ℕ → ℕ → Type 0
Stamped s i = (a : Answer) × (read DatetimeTz (stamp_of s i) ≡ accepted a)

-- "instants never decrease": the instant is not below that of the record before, if there is one
abbrev pub InOrder : List ℕ → ℕ → Type 0
InOrder s i = (j : ℕ) → i ≡ suc j → le_z (moment_of s j) (moment_of s i) ≡ true

abbrev pub Good : List ℕ → ℕ → Type 0
Good s i = InPlace s i × Stamped s i × InOrder s i

pub record Card (s : List ℕ) : Type 0 where
  pub header : Header s
  pub each : (i : ℕ) → i < unsigned_at s 0 4 → Good s i

-- ---- accepted exactly

-- A file is accepted exactly when its header and its records are so, "full reading answers their number"; nothing of the order of reading stands in `Card`.
abbrev pub FileAcceptedExactly : Type 0
FileAcceptedExactly = (s : List ℕ) (n : ℕ) → (full_reading twelve s ≡ records n) ↔ (Card s × (n ≡ unsigned_at s 0 4))

-- ---- the first refusal

-- "14 a record's channel, correction or stamp place; then 5 to 8 for a stamp; 15 order": what is refused with m of record i
abbrev pub Faulty : List ℕ → ℕ → ℕ → Type 0
Faulty s i m =
    ((InPlace s i → ⊥) × (m ≡ 14))
    ⊎ ((InPlace s i × (read DatetimeTz (stamp_of s i) ≡ refused m))
    ⊎ (InPlace s i × Stamped s i × (InOrder s i → ⊥) × (m ≡ 15)))

-- "Header first, then each record in turn": refused at the header exactly where it is wrong, with 13; refused at record k, so at the place k + 1, with m exactly
-- where the header and the records before it are right, and m is what record k is refused with.
abbrev pub FirstInTurn : Type 0
FirstInTurn =
    (s : List ℕ)
    → ((m : ℕ) → (full_reading twelve s ≡ refused_at 0 m) ↔ ((Header s → ⊥) × (m ≡ 13)))
    × ((k m : ℕ) → (full_reading twelve s ≡ refused_at (suc k) m)
    ↔ (Header s × (k < unsigned_at s 0 4) × ((j : ℕ) → j < k → Good s j) × Faulty s k m))

-- A file is refused with 13, 14, 5 to 8 or 15, and with nothing else; 13 at the header alone.
abbrev pub NoOtherRefusal : Type 0
NoOtherRefusal =
    (s : List ℕ) (p m : ℕ) → full_reading twelve s ≡ refused_at p m
    → ((p ≡ 0) × (m ≡ 13)) ⊎ ((1 ≤ p) × (p ≤ 1000) × ((m ≡ 14) ⊎ ((m ≡ 15) ⊎ ((5 ≤ m) × (m ≤ 8)))))

-- ---- what an accepted file holds

-- "instants never decrease", over any two records.
abbrev pub NeverDecrease : Type 0
NeverDecrease =
    (s : List ℕ) (n : ℕ) → full_reading twelve s ≡ records n → (i j : ℕ) → i ≤ j → j < n → le_z (moment_of s i) (moment_of s j) ≡ true

-- "Stamps are DatetimeTz contents": each has an instant, and is written again as it stands (01, demand 3).
abbrev pub StampsAgain : Type 0
StampsAgain =
    (s : List ℕ) (n : ℕ) → Octets s → full_reading twelve s ≡ records n → (i : ℕ) → i < n
    → (a : Answer) × (read DatetimeTz (stamp_of s i) ≡ accepted a) × (instant a.value ≡ accepted (moment_of s i)) × (encode DatetimeTz (settings_for a.form) a.value ≡ accepted (stamp_of s i))

-- The record at a place, from one, of an accepted file: its fields, its instant, and where its stamp stands in the file. 2 for a place that the file hasn't. Of a file
-- that is refused its own refusal, whatever the place.
abbrev pub TheRecord : Type 0
TheRecord =
    (s : List ℕ)
    → ((n : ℕ) → full_reading twelve s ≡ records n
    → ((i : ℕ) → i < n
    → record_asked twelve s (suc i)
    ≡ accepted
    (record {
      place = suc i;
      start = 16 + 12 * n + start_of s i;
      size = length_of s i;
      channel = channel_of s i;
      correction = correction_of s i;
      instant = moment_of s i;
    }))
    × ((p : ℕ) → n < p → record_asked twelve s p ≡ refused 2)
    × (record_asked twelve s 0 ≡ refused 2))
    × ((p q m : ℕ) → full_reading twelve s ≡ refused_at q m → record_asked twelve s p ≡ refused m)

-- No accepted file is longer than 44,016 octets: 1,000 records, and as many stamps of 32 octets.
abbrev pub LongestFile : Type 0
LongestFile = (s : List ℕ) (n : ℕ) → Octets s → full_reading twelve s ≡ records n → (length s ≤ 44016) × (n ≤ 1000)

-- Each refusal is met, by each reason: 13; 14 and 5 to 8 at the first, a middle and the last record; 15 at the second, a middle and the last; two at once. The table is
-- `card/specs/Bench.antt`.
abbrev pub EachRefusalMet : Type 0
EachRefusalMet = TheCard × Accepted × OfHeaders × OfFields × OfPlaces × OfStamps × OfOrder × FirstOfTwo × OfRecords

-- ---- what our own calls answer, over the promises that they are proved to keep

-- `read` answers that many records exactly where the file is so, and a refusal, with its place, where it is not; a refusal has no number of records with it.
abbrev pub OwnReading : Type 0
OwnReading =
    ((s : List ℕ) (n : ℕ) → ReadsFile s (Ok n) ↔ (Card s × (n ≡ unsigned_at s 0 4)))
    × ((s : List ℕ) (f : Refusal) (p : ℕ) → ReadsFile s (Err (record { refusal = f; place = p })) ↔ (full_reading twelve s ≡ refused_at p (refusal_number f)))

-- `record_at` answers a record exactly where the file is so and has that place: the one there, with its stamp where it says, within the file; never at place 0; and a
-- refusal exactly where the record is refused so.
abbrev pub shown_as : GivenRecord → List ℕ → ℕ → Type 0
shown_as r s i =
    (r.place ≡ suc i) × (r.start ≡ 16 + 12 * unsigned_at s 0 4 + start_of s i) × (r.length ≡ length_of s i) × (r.channel ≡ channel_of s i)
    × (r.correction ≡ correction_of s i) × (r.instant.micros ≡ moment_of s i)

abbrev pub OwnRecord : Type 0
OwnRecord =
    ((s : List ℕ) (i : ℕ) (r : GivenRecord) → FindsRecord s (suc i) (Ok r) ↔ (Card s × (i < unsigned_at s 0 4) × shown_as r s i))
    × ((s : List ℕ) (r : GivenRecord) → FindsRecord s 0 (Ok r) → ⊥)
    × ((s : List ℕ) (p : ℕ) (f : Refusal) → FindsRecord s p (Err f) ↔ (record_asked twelve s p ≡ refused (refusal_number f)))

-- channel, correction, instant, start of the stamp within the file, its length
abbrev pub five_numbers : Record → List ℤ
five_numbers r = pos r.channel ∷ r.correction ∷ r.instant ∷ pos r.start ∷ pos r.size ∷ []

-- What C gets of a file: 0, the number of records and fault 0; or the refusal, no records, and the place.
abbrev pub FilesToC : Type 0
FilesToC =
    ((s : List ℕ) (r count fault : ℕ) → ReadForC s r count fault
    → ((n : ℕ) → full_reading twelve s ≡ records n → (r ≡ 0) × (count ≡ n) × (fault ≡ 0))
    × ((p m : ℕ) → full_reading twelve s ≡ refused_at p m → (r ≡ m) × (count ≡ 0) × (fault ≡ p)))
    × ((s : List ℕ) (p : ℕ) (lent : List ℤ) (r : ℕ) (left : List ℤ) → RecordForC s p lent r left → Gets five_numbers (record_asked twelve s p) lent r left)
