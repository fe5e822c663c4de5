-- The step from record to record. (02, request 4.) What came before a record is all that a step knows of the others, so that whoever reads only a part of the
-- file from the front (request 5) takes the same steps.
--
--   Before                what came before a record: where the last stamp ended, and the last instant, if there is one
--   at_front              before the first record
--   after r               before the record that follows r
--   before_at f s i       before record i, by its place alone
--   greatest_correction   the greatest correction, either way
--   channel_good c        a channel is 1 to 16
--   placed                of a stamp's start and end, where the last one ended, the count of stamp octets, and whether it is the last record's: it starts where the last
--                         one ended, ends within its region, and the last record's ends the region
--   place_good            the stamp of record i is so placed
--   fields_good           channel, correction and stamp place are right; else refusal 14
--   in_order              the instant is not below the last one; else refusal 15
--   step f s i b          what comes of record i after b: the record, or the first of 14, 5 to 8, 15 that applies
use Rattle.std.specs.Prelude.{ℕ, zero, suc, ◌+◌, Bool, true, List, ℤ, nat_abs, leb, eqb}
use Rattle.std.specs.Int.Signed.{le_z}
use Rattle.format.specs.Words.{both, needs, Outcome, accepted, refused, unless}
use Rattle.format.specs.Values.{DatetimeTz, Answer}
use Rattle.format.specs.Reading.{read}
use Rattle.moments.specs.Instant.{instant_of}
use Rattle.card.specs.Header.{RecordForm, count_of, stamp_octets}
use Rattle.card.specs.Records.{start_at, end_at, channel_at, correction_at, stamp_at, Record, record_at}

pub data Last : Type 0 where
  none : Last
  at : ℤ → Last

pub record Before : Type 0 where
  pub ended : ℕ
  pub last : Last

abbrev pub at_front : Before
at_front = record { ended = 0; last = none }

abbrev pub after : Record → Before
after r = record { ended = r.start + r.size; last = at r.instant }

abbrev pub before_at : RecordForm → List ℕ → ℕ → Before
before_at f s zero = at_front
before_at f s (suc i) = after (record_at f s i)

-- "correction (.. at most 1,000,000 either way)"
abbrev pub greatest_correction : ℕ
greatest_correction = 1000000

unfoldable pub channel_good : ℕ → Bool
channel_good c = both (leb 1 c) (leb c 16)

-- "Stamps follow one another in record order without gaps, the first starts at 0, and the last record's stamp ends its region"
unfoldable pub placed : ℕ → ℕ → ℕ → ℕ → Bool → Bool
placed start end ended octets last =
    both (eqb start ended)
    (both (leb end octets)
    (needs last (eqb end octets)))

unfoldable pub place_good : RecordForm → List ℕ → ℕ → Before → Bool
place_good f s i b = placed (start_at f s i) (end_at f s i) b.ended (stamp_octets s) (eqb (suc i) (count_of s))

unfoldable pub fields_good : RecordForm → List ℕ → ℕ → Before → Bool
fields_good f s i b =
    both (channel_good (channel_at f s i))
    (both (leb (nat_abs (correction_at f s i)) greatest_correction)
    (place_good f s i b))

-- "instants never decrease"
abbrev pub in_order : Last → ℤ → Bool
in_order none t = true
in_order (at l) t = le_z l t

-- 5 to 8 as the reader has them, then 15
abbrev pub timed : Record → Last → Outcome Answer → Outcome Record
timed r l (refused n) = refused n
timed r l (accepted a) = unless (in_order l (instant_of a.value)) 15 (accepted r)

-- "14 a record's channel, correction or stamp place; then 5 to 8 for a stamp; 15 order"
unfoldable pub step : RecordForm → List ℕ → ℕ → Before → Outcome Record
step f s i b =
    unless (fields_good f s i b) 14
    (timed (record_at f s i) b.last (read DatetimeTz (stamp_at f s i)))
