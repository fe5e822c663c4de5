-- A schedule file as request 4 describes it, over places, for the laws: `claims/specs/Schedule.antt` has the same in the numbers of 02. Assumes nothing.
--
--   HeaderDescribed f s      the header, the counts and the regions
--   RecordDescribed f s i    record i by itself: ranges, its stamp within the region and accepted by the reader of DatetimeTz
--   Described f s            the file: the header, each record, stamps one after the other without gaps, instants that never decrease
--   InPlace f s i b          record i after b: channel, correction and stamp place are right
--   GoodAfter f s i b        record i after b: in place, its stamp accepted, and in order
--   FirstBad f s k m         record k is the first bad one, and refused with m
use mathlib.Core.Path.{◌≡◌}
use mathlib.Core.Bool.{true}
use mathlib.Core.List.{List}
use Prim.Native.Nat.{ℕ, suc, ◌+◌, ◌≤◌, ◌<◌}
use lib.IntN.{nat_abs}
use lib.Signed.{le_z}
use lib.ListN.{length}
use Rattle.format.specs.Words.{accepted, refused}
use Rattle.format.specs.Octets.{unsigned_at}
use Rattle.format.specs.Values.{DatetimeTz, Answer}
use Rattle.format.specs.Reading.{read}
use Rattle.card.specs.Header.{RecordForm, header_size, most_records, count_of, stamp_octets, stamps_start}
use Rattle.card.specs.Records.{start_at, end_at, channel_at, correction_at, stamp_at, instant_at}
use Rattle.card.specs.Step.{Before, before_at, greatest_correction, in_order, step}

pub record HeaderDescribed (f : RecordForm) (s : List ℕ) : Type 0 where
  pub whole : header_size ≤ length s
  pub few : count_of s ≤ most_records
  pub records_follow : unsigned_at s 4 4 ≡ header_size
  pub stamps_follow : unsigned_at s 12 4 ≡ stamps_start f s
  pub ends_file : stamps_start f s + stamp_octets s ≡ length s
  pub none_none : count_of s ≡ 0 → stamp_octets s ≡ 0

pub record RecordDescribed (f : RecordForm) (s : List ℕ) (i : ℕ) : Type 0 where
  pub channel : (1 ≤ channel_at f s i) × (channel_at f s i ≤ 16)
  pub correction : nat_abs (correction_at f s i) ≤ greatest_correction
  pub within : end_at f s i ≤ stamp_octets s
  pub stamp : (a : Answer) × (read DatetimeTz (stamp_at f s i) ≡ accepted a)

pub record Described (f : RecordForm) (s : List ℕ) : Type 0 where
  pub header : HeaderDescribed f s
  pub each : (i : ℕ) → i < count_of s → RecordDescribed f s i
  pub first : 0 < count_of s → start_at f s 0 ≡ 0
  pub no_gap : (i : ℕ) → suc i < count_of s → start_at f s (suc i) ≡ end_at f s i
  pub last_ends : (i : ℕ) → suc i ≡ count_of s → end_at f s i ≡ stamp_octets s
  pub order : (i : ℕ) → suc i < count_of s → le_z (instant_at f s i) (instant_at f s (suc i)) ≡ true

-- ---- after what came before it

pub record InPlace (f : RecordForm) (s : List ℕ) (i : ℕ) (b : Before) : Type 0 where
  pub channel : (1 ≤ channel_at f s i) × (channel_at f s i ≤ 16)
  pub correction : nat_abs (correction_at f s i) ≤ greatest_correction
  pub starts : start_at f s i ≡ b.ended
  pub within : end_at f s i ≤ stamp_octets s
  pub ends : suc i ≡ count_of s → end_at f s i ≡ stamp_octets s

pub record GoodAfter (f : RecordForm) (s : List ℕ) (i : ℕ) (b : Before) : Type 0 where
  pub place : InPlace f s i b
  pub stamp : (a : Answer) × (read DatetimeTz (stamp_at f s i) ≡ accepted a)
  pub order : in_order b.last (instant_at f s i) ≡ true

-- record k, counted from 0, is the first bad one: all before it are good, and its step is refused with m
abbrev pub FirstBad : RecordForm → List ℕ → ℕ → ℕ → Type 0
FirstBad f s k m =
    (k < count_of s) × ((j : ℕ) → j < k → GoodAfter f s j (before_at f s j)) × (step f s k (before_at f s k) ≡ refused m)
