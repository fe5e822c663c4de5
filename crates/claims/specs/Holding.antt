-- What is claimed of the question which correction holds: each claim stands under its sentence of 02, request 5. How to read a claim stands in `Claims.antt`; the words
-- of a file over places (`Header s`, `Good s i`, `Faulty s i m`, `channel_of s i`, `moment_of s i` ..) in `Schedule.antt`. s and u are any files, t is any integer, those
-- of 64 bits among them, c any number; i and j count records from 0.
--
--   question twelve s t c   what the question of the instant t and the channel c comes to (`card/specs/Question.antt`): `accepted a`, or `refused m`; `a.read` is the
--                           number of records read, `a.held` what holds: `none_yet`, or `holds r`
--   Channel c               c is a channel
--   the_record s i          record i, as an answer has it
--   NotLater s t i          record i is not later than t
--   HoldsAt s t c i         it is not, and it is of the channel c
--   LastOf s n t c i        record i is the last of the first n records that so holds; `NoneOf s n t c`: none of them does
--   WhatHolds s n t c h     h is what holds, of the first n records: the last that does, or none yet
--   FirstNot P n k          k is the place, from one, of the first of n records for which P fails; or n, where there is none
--   Passed s t i            record i is good, and not later than t
--   Looked s t k            k records are looked at: those up to the first that is later or bad, and that one; or all; none where the header is bad
--   ReadUpTo s t c k        with a good channel and header, k records are read, all good, up to the first later one
--   SameOctets s u a n      s and u have the same n octets from place a on
--   AsksFile s i c r        what `holds` promises (`schedule/specs/Calls.antt`): r is its answer, `Ok` with the number read and `None` or `Some r`, or `Err f`
--   HoldsForC               what the C function promises (`boundary/specs/Files.antt`)
use Rattle.std.specs.Prelude.{ℕ, suc, ◌+◌, ◌*◌, ◌<◌, ◌≤◌, ◌≡◌, ◌↔◌, ◌⊎◌, true, List, [], ◌∷◌, ℤ, pos, length, get_or, Some, None, Ok, Err}
use Rattle.std.specs.Int.Signed.{le_z}
use Rattle.format.specs.Words.{accepted, refused}
use Rattle.format.specs.Octets.{Octets, unsigned_at}
use Rattle.card.specs.Header.{twelve}
use Rattle.card.specs.Records.{Record}
use Rattle.card.specs.Reading.{records, refused_at, full_reading}
use Rattle.card.specs.Question.{Held, none_yet, holds, Asked, question}
use Rattle.card.specs.BenchOfQuestions.{Holding, LastOfTwo, NoneYet, OfChannels, OfRecordsRead}
use Rattle.instants.specs.declared.Instant.{Instant}
use Rattle.schedule.specs.declared.Record.{Record as GivenRecord}
use Rattle.schedule.specs.declared.Refusal.{Refusal}
use Rattle.schedule.specs.Meaning.{refusal_number, read_in}
use Rattle.schedule.specs.Calls.{AsksFile}
use Rattle.boundary.specs.Files.{HoldsForC}
use Rattle.claims.specs.Schedule.{start_of, length_of, channel_of, correction_of, moment_of, Header, Good, Faulty, shown_as}

-- ---- what holds

-- "a bad channel is 2": channels are 1 to 16
abbrev pub Channel : ℕ → Type 0
Channel c = (1 ≤ c) × (c ≤ 16)

abbrev pub the_record : List ℕ → ℕ → Record
the_record s i =
    record {
      place = suc i;
      start = 16 + 12 * unsigned_at s 0 4 + start_of s i;
      size = length_of s i;
      channel = channel_of s i;
      correction = correction_of s i;
      instant = moment_of s i;
    }

abbrev pub NotLater : List ℕ → ℤ → ℕ → Type 0
NotLater s t i = le_z (moment_of s i) t ≡ true

abbrev pub HoldsAt : List ℕ → ℤ → ℕ → ℕ → Type 0
HoldsAt s t c i = NotLater s t i × (channel_of s i ≡ c)

-- "the last record of that channel at or before it", of the first n; "'None yet' is a separate answer"
abbrev pub LastOf : List ℕ → ℕ → ℤ → ℕ → ℕ → Type 0
LastOf s n t c i = (i < n) × HoldsAt s t c i × ((j : ℕ) → i < j → j < n → HoldsAt s t c j → ⊥)

abbrev pub NoneOf : List ℕ → ℕ → ℤ → ℕ → Type 0
NoneOf s n t c = (j : ℕ) → j < n → HoldsAt s t c j → ⊥

abbrev pub WhatHolds : List ℕ → ℕ → ℤ → ℕ → Held → Type 0
WhatHolds s n t c none_yet = NoneOf s n t c
WhatHolds s n t c (holds r) = (i : ℕ) × LastOf s n t c i × (r ≡ the_record s i)

-- ---- how many are read

-- "that one's place counting from one, or all of them if there is none"
abbrev pub FirstNot : (ℕ → Type 0) → ℕ → ℕ → Type 0
FirstNot P n k =
    ((k ≡ n) × ((j : ℕ) → j < n → P j))
    ⊎ ((i : ℕ) × (i < n) × (k ≡ suc i) × (P i → ⊥) × ((j : ℕ) → j < i → P j))

-- ---- the answer, of any file

-- "Read from the front and stop at the first record later than the instant": k is that one's place, or the number of records; the k records read are good; what holds
-- is what holds of them. So and not otherwise is a question answered.
abbrev pub AnsweredExactly : Type 0
AnsweredExactly =
    (s : List ℕ) (t : ℤ) (c k : ℕ) (h : Held)
    → (question twelve s t c ≡ accepted (record { read = k; held = h }))
    ↔ (Channel c × Header s × FirstNot (NotLater s t) (unsigned_at s 0 4) k × ((j : ℕ) → j < k → Good s j) × WhatHolds s k t c h)

-- "Refusals: a bad channel is 2, before the file"; the header's 13; "request 4's refusal if one of these is bad": of the first bad record, where none before it is
-- later. So and not otherwise is a question refused: by no instant.
abbrev pub AskRefusedExactly : Type 0
AskRefusedExactly =
    (s : List ℕ) (t : ℤ) (c m : ℕ)
    → (question twelve s t c ≡ refused m)
    ↔ (((Channel c → ⊥) × (m ≡ 2))
    ⊎ ((Channel c × (Header s → ⊥) × (m ≡ 13))
    ⊎ (Channel c × Header s × ((i : ℕ) × (i < unsigned_at s 0 4) × ((j : ℕ) → j < i → Good s j × NotLater s t j) × Faulty s i m))))

-- ---- accepted files

-- "For every file that full reading accepts, the answer equals the one over all records": the last of all records that holds, and none yet exactly where there is no
-- such record, without a word on stopping; k is the place of the first later record, or the number of all. And there is an answer.
abbrev pub OverAllRecords : Type 0
OverAllRecords =
    (s : List ℕ) (n : ℕ) (t : ℤ) (c : ℕ) → full_reading twelve s ≡ records n → Channel c
    → ((k : ℕ) (h : Held) → (question twelve s t c ≡ accepted (record { read = k; held = h })) ↔ (FirstNot (NotLater s t) n k × WhatHolds s n t c h))
    × ((a : Asked) × (question twelve s t c ≡ accepted a))

-- ---- other files

abbrev pub Passed : List ℕ → ℤ → ℕ → Type 0
Passed s t i = Good s i × NotLater s t i

abbrev pub Looked : List ℕ → ℤ → ℕ → Type 0
Looked s t k = ((Header s → ⊥) × (k ≡ 0)) ⊎ (Header s × FirstNot (Passed s t) (unsigned_at s 0 4) k)

-- There is one such number, and no other. It is the number that an answer has; and a question that is refused is refused at the last of these records, or at the
-- header, where full reading is refused too, and with the same number.
abbrev pub LookedAt : Type 0
LookedAt =
    ((s : List ℕ) (t : ℤ) → (k : ℕ) × Looked s t k × ((l : ℕ) → Looked s t l → l ≡ k))
    × ((s : List ℕ) (t : ℤ) (c k : ℕ) → Channel c → Looked s t k
    → ((a : Asked) → question twelve s t c ≡ accepted a → a.read ≡ k)
    × ((m : ℕ) → question twelve s t c ≡ refused m → full_reading twelve s ≡ refused_at k m))

abbrev pub SameOctets : List ℕ → List ℕ → ℕ → ℕ → Type 0
SameOctets s u a n = (p : ℕ) → a ≤ p → p < a + n → get_or s p 0 ≡ get_or u p 0

-- "For others the answer is fixed by the header and the records read": by the file's length, which the header is tested with, the header, the records looked at, and
-- their stamps. What stands behind the first later record, or the first bad one, is of no account.
abbrev pub FixedByRead : Type 0
FixedByRead =
    (s u : List ℕ) (t : ℤ) (c k : ℕ) → Looked s t k → length s ≡ length u → SameOctets s u 0 16
    → ((i : ℕ) → i < k → SameOctets s u (16 + 12 * i) 12 × SameOctets s u (16 + 12 * unsigned_at s 0 4 + start_of s i) (length_of s i))
    → question twelve s t c ≡ question twelve u t c

-- "with request 4's refusal if one of these is bad": what a question with a good channel refuses, full reading refuses with the same number.
abbrev pub RefusedAsFull : Type 0
RefusedAsFull =
    (s : List ℕ) (t : ℤ) (c m : ℕ) → Channel c → question twelve s t c ≡ refused m → (p : ℕ) × (full_reading twelve s ≡ refused_at p m)

-- At the greatest number of 64 bits the question and full reading agree, in number and count.
abbrev pub AtTheGreatest : Type 0
AtTheGreatest =
    (s : List ℕ) (c : ℕ) → Octets s → Channel c
    → ((n : ℕ) → (full_reading twelve s ≡ records n) ↔ ((h : Held) × (question twelve s (pos 9223372036854775807) c ≡ accepted (record { read = n; held = h }))))
    × ((m : ℕ) → ((p : ℕ) × (full_reading twelve s ≡ refused_at p m)) ↔ (question twelve s (pos 9223372036854775807) c ≡ refused m))

-- The number read never falls between two instants at which the question is not refused; of what channel does not matter.
abbrev pub CountNeverFalls : Type 0
CountNeverFalls =
    (s : List ℕ) (t t' : ℤ) (c c' : ℕ) (a b : Asked) → le_z t t' ≡ true → question twelve s t c ≡ accepted a → question twelve s t' c' ≡ accepted b → a.read ≤ b.read

-- Each refusal is met where its record is read, and 14, 8 and 15 are not met where theirs is not; none yet with no record read, one, some and all; of two at one
-- instant the last. The table is `card/specs/BenchOfQuestions.antt`.
abbrev pub QuestionsMet : Type 0
QuestionsMet = Holding × LastOfTwo × NoneYet × OfChannels × OfRecordsRead

-- ---- what our own call answers, over the promise that it is proved to keep

-- after k records, all of them good, up to the first later one
abbrev pub ReadUpTo : List ℕ → ℤ → ℕ → ℕ → Type 0
ReadUpTo s t c k = Channel c × Header s × FirstNot (NotLater s t) (unsigned_at s 0 4) k × ((j : ℕ) → j < k → Good s j)

-- `holds` answers none yet, or a record, with the number read, exactly where it is so; and a refusal exactly where the question is refused so: it "carries 0" (`read_in`).
abbrev pub OwnQuestion : Type 0
OwnQuestion =
    ((s : List ℕ) (i : Instant) (c k : ℕ) → AsksFile s i c (Ok (record { read = k; latest = None })) ↔ (ReadUpTo s i.micros c k × NoneOf s k i.micros c))
    × ((s : List ℕ) (i : Instant) (c k : ℕ) (r : GivenRecord)
    → AsksFile s i c (Ok (record { read = k; latest = Some r })) ↔ (ReadUpTo s i.micros c k × ((j : ℕ) × LastOf s k i.micros c j × shown_as r s j)))
    × ((s : List ℕ) (i : Instant) (c k : ℕ) (f : Refusal)
    → (AsksFile s i c (Err f) × (k ≡ read_in (Err f))) ↔ ((k ≡ 0) × (question twelve s i.micros c ≡ refused (refusal_number f))))

-- place, start of the stamp within the file, its length, instant, correction; none yet is five times 0
abbrev pub five_numbers_held : Held → List ℤ
five_numbers_held none_yet = pos 0 ∷ pos 0 ∷ pos 0 ∷ pos 0 ∷ pos 0 ∷ []
five_numbers_held (holds r) = pos r.place ∷ pos r.start ∷ pos r.size ∷ r.instant ∷ r.correction ∷ []

-- What C gets of a question: 0, the number of records read and the five numbers; or the refusal, no records read, and the numbers as lent. No record that holds is at
-- the place 0.
abbrev pub QuestionToC : Type 0
QuestionToC =
    ((s : List ℕ) (t : ℤ) (c : ℕ) (lent : List ℤ) (r count : ℕ) (left : List ℤ) → HoldsForC s t c lent r count left
    → ((a : Asked) → question twelve s t c ≡ accepted a → (r ≡ 0) × (count ≡ a.read) × (left ≡ five_numbers_held a.held))
    × ((m : ℕ) → question twelve s t c ≡ refused m → (r ≡ m) × (count ≡ 0) × (left ≡ lent)))
    × ((s : List ℕ) (t : ℤ) (c k : ℕ) (r : Record) → question twelve s t c ≡ accepted (record { read = k; held = holds r }) → 1 ≤ r.place)
