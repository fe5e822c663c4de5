-- A record at its place, its stamp, and the longest file. (02, request 4.) Assumes nothing.
--     record_at_place    the record at a place from one; 2 for a place that the file hasn't
--     longest_file       no accepted file is longer than 16 + 1,000 records and 1,000 stamps of 32 octets: 44,016 octets
use mathlib.Core.Path.{◌≡◌, refl, sym}
use mathlib.Core.List.{List}
use Prim.Native.Nat.{ℕ, zero, suc, ◌+◌, ◌-◌, ◌*◌, ◌≤◌, ◌<◌}
use native.Mathlib.Omega.{arith}
use borrow.Author.Tests.{le-leb, lt-leb}
use lib.ListN.{length, drop}
use Rattle.format.specs.Octets.{Octets}
use Rattle.format.specs.Words.{accepted, refused}
use Rattle.format.specs.Values.{DatetimeTz, Answer}
use Rattle.format.specs.Reading.{read}
use Rattle.format.proofs.Signed.{take_octets, drop_octets}
use Rattle.format.proofs.Round.{was_read}
use Rattle.format.proofs.Images.{image_size}
use Rattle.card.specs.Header.{RecordForm, twelve, record_size, count_of, stamp_octets, stamps_start}
use Rattle.card.specs.Records.{start_at, length_at, end_at, stamp_at, record_at, in_file}
use Rattle.card.specs.Reading.{records, full_reading, record_asked}
use Rattle.card.proofs.Described.{Described}
use Rattle.card.proofs.Slices.{slice_length}

-- ---- a record at its place, and its stamp

pub record_at_place : (f : RecordForm) (s : List ℕ) (n : ℕ) → full_reading f s ≡ records n
    → ((i : ℕ) → i < n → record_asked f s (suc i) ≡ accepted (in_file f s (record_at f s i))) × ((i : ℕ) → n < i → record_asked f s i ≡ refused 2) × (record_asked f s 0 ≡ refused 2)
unfolding record_asked
record_at_place f s n e = (
  λ i q. let k : suc i - 1 ≡ i = omega arith in rw (e, le-leb 1 (suc i) (omega arith), le-leb (suc i) n q, k),
  λ i q. rw (e, le-leb 1 i (omega arith), lt-leb i n q),
  rw e,
)

pub stamp_octets_lem : (f : RecordForm) (s : List ℕ) → Octets s → (i : ℕ) → Octets (stamp_at f s i)
unfolding stamp_at
stamp_octets_lem f s o i = take_octets (length_at f s i) (drop (stamps_start f s + start_at f s i) s) (drop_octets (stamps_start f s + start_at f s i) s o)

-- ---- the longest file

stamp_size : (s : List ℕ) (a : Answer) → Octets s → read DatetimeTz s ≡ accepted a → length s ≤ 32
stamp_size s a o e =
    let w = (was_read DatetimeTz s a o e).from in
    let z = image_size DatetimeTz a.form a.value w.range w.kind w.has in
    rw (sym w.image) z.1

module _ (f : RecordForm) (s : List ℕ) (d : Described f s) (o : Octets s) where
  length-small : (i : ℕ) → i < count_of s → length_at f s i ≤ 32
  length-small i q =
      let a = (d.each i q).stamp in
      let l : length (stamp_at f s i) ≤ 32 = stamp_size (stamp_at f s i) a.0 (stamp_octets_lem f s o i) a.1 in
      omega (arith, stamp-length i q)
    where
      stamp-length : (i : ℕ) → i < count_of s → length (stamp_at f s i) ≡ length_at f s i
      stamp-length i q =
          unfold stamp_at in slice_length s (stamps_start f s + start_at f s i) (length_at f s i) (omega (arith, (d.each i q).within, d.header.ends_file))

  ends-small : (i : ℕ) → i < count_of s → end_at f s i ≤ 32 * suc i
  ends-small zero q = omega (arith, d.first q, length-small 0 q)
  ends-small (suc i) q = omega (arith, d.no_gap i q, length-small (suc i) q, ends-small i (omega arith))

  octets-small : (n : ℕ) → count_of s ≡ n → stamp_octets s ≤ 32 * n
  octets-small zero e = omega (arith, d.header.none_none e)
  octets-small (suc i) e = omega (arith, d.last_ends i (sym e), ends-small i (omega arith))

  pub file_small : length s ≤ 16 + (record_size f * count_of s + 32 * count_of s)
  unfolding stamps_start
  file_small = omega (arith, d.header.ends_file, octets-small (count_of s) refl)

pub longest_file : (f : RecordForm) (s : List ℕ) → Described f s → Octets s → length s ≤ 16 + (record_size f + 32) * 1000
longest_file twelve s d o = omega (arith, file_small twelve s d o, d.header.few)
