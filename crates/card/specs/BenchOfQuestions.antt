-- The bench of questions: files of `Bench.antt`, and what asking each comes to. Each refusal is met, and none yet with each count. (02, request 5.)
--
--   asks s t c            the question of the instant t and the channel c
--   midnight, day_after   the instants of the card: 2020-01-01T00:00 UTC, of its first two records, and the next day's start, of its third
--   least, greatest       the ends of 64 bits
--   held n r              the answer: n records were read, and r holds; `none n`: none holds yet
--   the1, the2, the3      the records of the card, as an answer has them
--   again                 a second correction of channel 1 at midnight; `later` is a record of `Bench.antt`, of channel 2 at day_after
use Rattle.std.specs.Prelude.{ℕ, ◌≡◌, List, [], ◌∷◌, ℤ, pos, negsuc, neg_ℤ}
use Rattle.format.specs.Words.{Outcome, accepted, refused}
use Rattle.format.specs.Bench.{ascii}
use Rattle.card.specs.Header.{twelve}
use Rattle.card.specs.Records.{Record}
use Rattle.card.specs.Question.{none_yet, holds, Asked, question, records_read}
use Rattle.card.specs.Bench.{Row, row, file_of, first, second, third, later, card, with}

abbrev pub asks : List ℕ → ℤ → ℕ → Outcome Asked
asks s t c = question twelve s t c

abbrev pub midnight : ℤ
midnight = pos 63713433600000000

abbrev pub day_after : ℤ
day_after = pos 63713520000000000

abbrev pub least : ℤ
least = negsuc 9223372036854775807

abbrev pub greatest : ℤ
greatest = pos 9223372036854775807

abbrev pub held : ℕ → Record → Outcome Asked
held n r = accepted (record { read = n; held = holds r })

abbrev pub none : ℕ → Outcome Asked
none n = accepted (record { read = n; held = none_yet })

abbrev pub the1 : Record
the1 = record { place = 1; start = 52; size = 25; channel = 1; correction = pos 1000000; instant = midnight }

abbrev pub the2 : Record
the2 = record { place = 2; start = 77; size = 7; channel = 16; correction = neg_ℤ (pos 1000000); instant = midnight }

abbrev pub the3 : Record
the3 = record { place = 3; start = 84; size = 10; channel = 1; correction = pos 0; instant = day_after }

abbrev pub again : Row
again = row first.stamp 1 (pos 7)

-- at, before and after each instant of the card, of channels that have records; the later record is counted, and what stands behind it is not, good or bad
abbrev pub Holding : Type 0
Holding =
    (asks card midnight 1 ≡ held 3 the1)
    × (asks card midnight 16 ≡ held 3 the2)
    × (asks card (pos 63713433600000001) 1 ≡ held 3 the1)
    × (asks card (pos 63713519999999999) 1 ≡ held 3 the1)
    × (asks card day_after 1 ≡ held 3 the3)
    × (asks card day_after 16 ≡ held 3 the2)
    × (asks card greatest 1 ≡ held 3 the3)
    × (asks (file_of (first ∷ second ∷ third ∷ later ∷ [])) midnight 1
    ≡ held 3 (record { place = 1; start = 64; size = 25; channel = 1; correction = pos 1000000; instant = midnight }))
    × (asks (file_of (second ∷ third ∷ row [] 0 (pos 0) ∷ [])) midnight 16
    ≡ held 2 (record { place = 1; start = 52; size = 7; channel = 16; correction = neg_ℤ (pos 1000000); instant = midnight }))

-- of two of a channel at one instant the last
abbrev pub LastOfTwo : Type 0
LastOfTwo =
    (asks (file_of (first ∷ again ∷ third ∷ [])) midnight 1
    ≡ held 3 (record { place = 2; start = 77; size = 25; channel = 1; correction = pos 7; instant = midnight }))
    × (asks (file_of (again ∷ first ∷ [])) greatest 1
    ≡ held 2 (record { place = 2; start = 65; size = 25; channel = 1; correction = pos 1000000; instant = midnight }))

-- none yet: no records; the first is later; the second is; none is, but none is of the channel
abbrev pub NoneYet : Type 0
NoneYet =
    (asks (file_of []) midnight 1 ≡ none 0)
    × (asks card (pos 63713433599999999) 1 ≡ none 1)
    × (asks card least 16 ≡ none 1)
    × (asks (file_of (second ∷ third ∷ later ∷ [])) midnight 1 ≡ none 2)
    × (asks card greatest 2 ≡ none 3)

-- 2 before all that is wrong with the file; then 13; a refusal carries 0
abbrev pub OfChannels : Type 0
OfChannels =
    (asks card midnight 0 ≡ refused 2)
    × (asks card midnight 17 ≡ refused 2)
    × (asks card midnight 257 ≡ refused 2)
    × (asks [] midnight 0 ≡ refused 2)
    × (asks [] midnight 1 ≡ refused 13)
    × (asks (with 11 43) least 1 ≡ refused 13)
    × (records_read (asks card midnight 17) ≡ 0)

-- What is wrong with a record is met exactly when the record is read: one at or before the instant, or the first later one. Behind that it does not matter.
abbrev pub OfRecordsRead : Type 0
OfRecordsRead =
    (asks (with 35 17) midnight 1 ≡ refused 14)
    × (asks (with 35 17) least 1 ≡ none 1)
    × (asks (with 47 17) midnight 1 ≡ refused 14)
    × (asks (with 47 17) least 1 ≡ none 1)
    × (asks (with 45 9) midnight 1 ≡ refused 14)
    × (asks (with 45 9) least 1 ≡ none 1)
    × (asks (file_of (first ∷ row [] 1 (pos 0) ∷ [])) midnight 1 ≡ refused 5)
    × (asks (file_of (first ∷ row (ascii "2020-01-01T0X:00:00+00:00") 1 (pos 0) ∷ [])) midnight 1 ≡ refused 6)
    × (asks (file_of (first ∷ row (0x00 ∷ 0x00 ∷ 0x00 ∷ 0x00 ∷ 0x36 ∷ 0xEE ∷ 0x80 ∷ []) 1 (pos 0) ∷ [])) midnight 1 ≡ refused 7)
    × (asks (file_of (first ∷ row (ascii "2020-13-01T00:00:00+00:00") 1 (pos 0) ∷ [])) midnight 1 ≡ refused 8)
    × (asks (file_of (first ∷ row (ascii "2020-13-01T00:00:00+00:00") 1 (pos 0) ∷ [])) least 1 ≡ none 1)
    × (asks (file_of (later ∷ first ∷ [])) day_after 1 ≡ refused 15)
    × (asks (file_of (later ∷ first ∷ [])) midnight 1 ≡ none 1)
    × (records_read (asks (with 35 17) midnight 1) ≡ 0)
