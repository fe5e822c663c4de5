-- The bench: files, and what reading each comes to. Each refusal is met, by each reason. (02, request 4.)
--
--   Row, file_of rows      a record by stamp, channel and correction; the file of such records
--   first, second, third   the records of the card: 2020-01-01T00:00 UTC as text, the same instant at +01:00 in compact form, 2020-01-01T24:00 UTC in extended form
--   later                  one behind them: 2020-01-02T00:00 UTC, as text, which is the same instant as 24:00 before
--   card                   the file of the three
--   with p v               the card with v for the octet at place p
--   reads s                full reading of a file of records of twelve octets: `records n`, or `refused_at p m`, refused with m at the place p
--   Thrice x n             the record x is refused with n as the first, as the second and as the last of three
--   header_of a b c d      a header of these four numbers
--   zeros n                n octets 0
use Rattle.std.specs.Prelude.{ℕ, zero, suc, ◌+◌, ◌*◌, ◌≡◌, List, [], ◌∷◌, ◌++◌, ℤ, pos, neg_ℤ, length, set, take, drop}
use Rattle.format.specs.Words.{accepted, refused}
use Rattle.format.specs.Octets.{unsigned_octets, signed_octets}
use Rattle.format.specs.Bench.{ascii}
use Rattle.card.specs.Header.{twelve}
use Rattle.card.specs.Reading.{FullReading, records, refused_at, full_reading, record_asked}

-- ---- files

pub record Row : Type 0 where
  pub stamp : List ℕ
  pub channel : ℕ
  pub correction : ℤ

abbrev pub row : List ℕ → ℕ → ℤ → Row
row s c x = record { stamp = s; channel = c; correction = x }

unfoldable pub row_octets : ℕ → List Row → List ℕ
row_octets start [] = []
row_octets start (r ∷ rs) =
    unsigned_octets 4 start
    ++ (unsigned_octets 2 (length r.stamp)
    ++ (unsigned_octets 2 r.channel
    ++ (signed_octets 4 r.correction
    ++ row_octets (start + length r.stamp) rs)))

unfoldable pub stamps : List Row → List ℕ
stamps [] = []
stamps (r ∷ rs) = r.stamp ++ stamps rs

unfoldable pub header_of : ℕ → ℕ → ℕ → ℕ → List ℕ
header_of a b c d = unsigned_octets 4 a ++ (unsigned_octets 4 b ++ (unsigned_octets 4 c ++ unsigned_octets 4 d))

unfoldable pub file_of : List Row → List ℕ
file_of rows = header_of (length rows) 16 (length (stamps rows)) (16 + 12 * length rows) ++ (row_octets 0 rows ++ stamps rows)

unfoldable pub zeros : ℕ → List ℕ
zeros zero = []
zeros (suc n) = 0 ∷ zeros n

-- ---- the card

abbrev pub first : Row
first = row (ascii "2020-01-01T00:00:00+00:00") 1 (pos 1000000)

abbrev pub second : Row
second = row (0x00 ∷ 0x3C ∷ 0x00 ∷ 0x00 ∷ 0x36 ∷ 0xEE ∷ 0x80 ∷ []) 16 (neg_ℤ (pos 1000000))

abbrev pub third : Row
third = row (0x90 ∷ 0x00 ∷ 0x0B ∷ 0x40 ∷ 0x90 ∷ 0x14 ∷ 0x1D ∷ 0xD7 ∷ 0x60 ∷ 0x00 ∷ []) 1 (pos 0)

abbrev pub later : Row
later = row (ascii "2020-01-02T00:00:00+00:00") 2 (pos 7)

unfoldable pub card : List ℕ
card = file_of (first ∷ second ∷ third ∷ [])

abbrev pub with : ℕ → ℕ → List ℕ
with p v = set card p v

abbrev pub reads : List ℕ → FullReading
reads s = full_reading twelve s

abbrev pub Thrice : Row → ℕ → Type 0
Thrice x n =
    (reads (file_of (x ∷ second ∷ third ∷ [])) ≡ refused_at 1 n)
    × (reads (file_of (first ∷ x ∷ third ∷ [])) ≡ refused_at 2 n)
    × (reads (file_of (first ∷ second ∷ x ∷ [])) ≡ refused_at 3 n)

-- ---- what each comes to

-- the octets of the card, in full: 94 of them
abbrev pub TheCard : Type 0
TheCard =
    card
    ≡ 0 ∷ 0 ∷ 0 ∷ 3 ∷ 0 ∷ 0 ∷ 0 ∷ 16 ∷ 0 ∷ 0 ∷ 0 ∷ 42 ∷ 0 ∷ 0 ∷ 0 ∷ 52
    ∷ 0 ∷ 0 ∷ 0 ∷ 0 ∷ 0 ∷ 25 ∷ 0 ∷ 1 ∷ 0x00 ∷ 0x0F ∷ 0x42 ∷ 0x40
    ∷ 0 ∷ 0 ∷ 0 ∷ 25 ∷ 0 ∷ 7 ∷ 0 ∷ 16 ∷ 0xFF ∷ 0xF0 ∷ 0xBD ∷ 0xC0
    ∷ 0 ∷ 0 ∷ 0 ∷ 32 ∷ 0 ∷ 10 ∷ 0 ∷ 1 ∷ 0 ∷ 0 ∷ 0 ∷ 0
    ∷ 0x32 ∷ 0x30 ∷ 0x32 ∷ 0x30 ∷ 0x2D ∷ 0x30 ∷ 0x31 ∷ 0x2D ∷ 0x30 ∷ 0x31 ∷ 0x54 ∷ 0x30 ∷ 0x30 ∷ 0x3A ∷ 0x30 ∷ 0x30 ∷ 0x3A ∷ 0x30 ∷ 0x30
    ∷ 0x2B ∷ 0x30 ∷ 0x30 ∷ 0x3A ∷ 0x30 ∷ 0x30
    ∷ 0x00 ∷ 0x3C ∷ 0x00 ∷ 0x00 ∷ 0x36 ∷ 0xEE ∷ 0x80
    ∷ 0x90 ∷ 0x00 ∷ 0x0B ∷ 0x40 ∷ 0x90 ∷ 0x14 ∷ 0x1D ∷ 0xD7 ∷ 0x60 ∷ 0x00 ∷ []

-- no records; one; three, two of one instant; four, with 24:00 and the next day's start
abbrev pub Accepted : Type 0
Accepted =
    (reads (file_of []) ≡ records 0)
    × (reads (file_of (third ∷ [])) ≡ records 1)
    × (reads card ≡ records 3)
    × (reads (file_of (first ∷ second ∷ third ∷ later ∷ [])) ≡ records 4)
    × (reads (file_of (first ∷ second ∷ later ∷ third ∷ [])) ≡ records 4)

-- 13: no octets; fifteen; the count, either start, the regions in the other order, the count of stamp octets; an octet too many, one missing; 1,001 records (of
-- 1,000 the first record is looked at); stamp octets without records; a count whose twelvefold, and a sum that, taken modulo 2^32, would be right
abbrev pub OfHeaders : Type 0
OfHeaders =
    (reads [] ≡ refused_at 0 13)
    × (reads (take 15 (file_of [])) ≡ refused_at 0 13)
    × (reads (with 3 2) ≡ refused_at 0 13)
    × (reads (with 0 128) ≡ refused_at 0 13)
    × (reads (with 7 17) ≡ refused_at 0 13)
    × (reads (set (with 7 58) 15 16) ≡ refused_at 0 13)
    × (reads (with 15 51) ≡ refused_at 0 13)
    × (reads (with 15 53) ≡ refused_at 0 13)
    × (reads (with 11 41) ≡ refused_at 0 13)
    × (reads (with 11 43) ≡ refused_at 0 13)
    × (reads (card ++ (0 ∷ [])) ≡ refused_at 0 13)
    × (reads (take 93 card) ≡ refused_at 0 13)
    × (reads (header_of 1001 16 0 12028 ++ zeros 12012) ≡ refused_at 0 13)
    × (reads (header_of 1000 16 0 12016 ++ zeros 12000) ≡ refused_at 1 14)
    × (reads (header_of 0 16 1 16 ++ zeros 1) ≡ refused_at 0 13)
    × (reads (header_of 357913942 16 0 24 ++ zeros 8) ≡ refused_at 0 13)
    × (reads (header_of 1 16 4294967295 28 ++ zeros 11) ≡ refused_at 0 13)

-- 14 by the channel and by the correction, either way
abbrev pub OfFields : Type 0
OfFields =
    Thrice (row first.stamp 0 (pos 0)) 14
    × Thrice (row first.stamp 17 (pos 0)) 14
    × Thrice (row first.stamp 257 (pos 0)) 14
    × Thrice (row first.stamp 1 (pos 1000001)) 14
    × Thrice (row first.stamp 1 (neg_ℤ (pos 1000001))) 14
    × Thrice (row first.stamp 1 (neg_ℤ (pos 2147483648))) 14

-- 14 by the place of a stamp: it starts an octet too late, too early; it ends past the region; the last one ends before the region does, also where each stamp is
-- as it should be and an octet stands behind the last, or between two
abbrev pub OfPlaces : Type 0
OfPlaces =
    (reads (with 19 1) ≡ refused_at 1 14)
    × (reads (with 31 26) ≡ refused_at 2 14)
    × (reads (with 31 24) ≡ refused_at 2 14)
    × (reads (with 43 33) ≡ refused_at 3 14)
    × (reads (with 43 31) ≡ refused_at 3 14)
    × (reads (with 20 1) ≡ refused_at 1 14)
    × (reads (with 33 18) ≡ refused_at 2 14)
    × (reads (with 45 11) ≡ refused_at 3 14)
    × (reads (with 45 9) ≡ refused_at 3 14)
    × (reads (with 11 43 ++ (0 ∷ [])) ≡ refused_at 3 14)
    × (reads (set (set (take 77 (with 11 43) ++ (0 ∷ drop 77 card)) 31 26) 43 33) ≡ refused_at 2 14)

-- 5: no octets, one octet too many; 6: a letter for a digit; 7: an offset of zero; 8: a month 13; a Datetime, which is no DatetimeTz and which an either-or reader would take
abbrev pub OfStamps : Type 0
OfStamps =
    Thrice (row [] 1 (pos 0)) 5
    × Thrice (row (ascii "2020-01-01T00:00:00.0000000+00:00") 1 (pos 0)) 5
    × Thrice (row (ascii "2020-01-01T0X:00:00+00:00") 1 (pos 0)) 6
    × Thrice (row (0x00 ∷ 0x00 ∷ 0x00 ∷ 0x00 ∷ 0x36 ∷ 0xEE ∷ 0x80 ∷ []) 1 (pos 0)) 7
    × Thrice (row (ascii "2020-13-01T00:00:00+00:00") 1 (pos 0)) 8
    × Thrice (row (ascii "2020-01-01T00:00:00") 1 (pos 0)) 5

-- 15 at the second, a middle and the last record: by one second, and by the offset, where the local readings are in order
abbrev pub OfOrder : Type 0
OfOrder =
    (reads (file_of (later ∷ first ∷ second ∷ third ∷ [])) ≡ refused_at 2 15)
    × (reads (file_of (first ∷ later ∷ second ∷ third ∷ [])) ≡ refused_at 3 15)
    × (reads (file_of (first ∷ third ∷ later ∷ second ∷ [])) ≡ refused_at 4 15)
    × (reads (file_of (first ∷ row (ascii "2019-12-31T23:59:59+00:00") 1 (pos 0) ∷ [])) ≡ refused_at 2 15)
    × (reads (file_of (first ∷ row (ascii "2020-01-01T00:30:00+01:00") 1 (pos 0) ∷ [])) ≡ refused_at 2 15)
    × (reads (file_of (first ∷ row (ascii "2019-12-31T23:30:00-01:00") 1 (pos 0) ∷ [])) ≡ records 2)

-- two faults at once: the header's before a record's, the earlier record's before the later one's; in one record 14, then the stamp's, then 15
abbrev pub FirstOfTwo : Type 0
FirstOfTwo =
    (reads (set (with 7 17) 23 0) ≡ refused_at 0 13)
    × (reads (set (with 52 0x58) 35 0) ≡ refused_at 1 6)
    × (reads (file_of (first ∷ row [] 0 (pos 0) ∷ [])) ≡ refused_at 2 14)
    × (reads (file_of (later ∷ row (ascii "2020-13-01T00:00:00+00:00") 1 (pos 0) ∷ [])) ≡ refused_at 2 8)
    × (reads (file_of (later ∷ row first.stamp 0 (pos 0) ∷ [])) ≡ refused_at 2 14)

-- a record by its place, from one; before the first and behind the last 2; of a refused file its own refusal, whatever the place
abbrev pub OfRecords : Type 0
OfRecords =
    (record_asked twelve card 2 ≡ accepted (record { place = 2; start = 77; size = 7; channel = 16; correction = neg_ℤ (pos 1000000); instant = pos 63713433600000000 }))
    × (record_asked twelve card 3 ≡ accepted (record { place = 3; start = 84; size = 10; channel = 1; correction = pos 0; instant = pos 63713520000000000 }))
    × (record_asked twelve card 0 ≡ refused 2)
    × (record_asked twelve card 4 ≡ refused 2)
    × (record_asked twelve (with 45 9) 1 ≡ refused 14)
    × (record_asked twelve (with 45 9) 0 ≡ refused 14)
