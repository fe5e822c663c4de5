-- A file is accepted exactly when it is as described over places. (02, request 4.) Assumes nothing.
--     all_read           a described file's records are all taken, where nothing stops reading
--     read_described     a file that full reading accepts is as described, and the number is that of its records
--     accepted_exactly   the two together
--     never_decrease     instants never decrease, over any two records and not only neighbours
use mathlib.Core.Path.{◌≡◌, refl, sym, ap, ◌∙◌}
use mathlib.Core.Logic.{◌↔◌, ⊎_elim}
use mathlib.Core.Bool.{Bool, true, false}
use mathlib.Core.List.{List}
use Prim.Native.Nat.{ℕ, zero, suc, ◌+◌, ◌-◌, ◌≤◌, ◌<◌}
use native.Mathlib.Omega.{arith}
use lib.Dec.{leb, ltb, eqb}
use lib.Signed.{le_z}
use lib.ListN.{length}
use borrow.Author.Tests.{le-leb, leb-true, le-ltb, ltb-false, eq-eqb, eqb-true}
use Rattle.format.specs.Words.{either}
use Rattle.format.specs.Octets.{unsigned_at}
use Rattle.format.proofs.Cases.{both_true, lt_or_le}
use Rattle.card.specs.Header.{RecordForm, count_of, stamp_octets, stamps_start, header_good}
use Rattle.card.specs.Records.{Record, record_at, instant_at, records_from}
use Rattle.card.specs.Step.{at_front, before_at}
use Rattle.card.specs.Reading.{Walked, taken, fault, walk, walk_file, never, records, numbered, full_reading}
use Rattle.card.proofs.Described.{HeaderDescribed, Described, GoodAfter}
use Rattle.card.proofs.Tests.{either_told, le_z_refl, le_z_trans}
use Rattle.card.proofs.Walking.{Reach, records_length, reach_walk, walk_reach}

abbrev EachGood : RecordForm → List ℕ → Type 0
EachGood f s = (j : ℕ) → j < count_of s → GoodAfter f s j (before_at f s j)

-- ---- the header

none_is : (n m : ℕ) → (n ≡ 0 → m ≡ 0) → either (ltb 0 n) (eqb m 0) ≡ true
none_is n m h = go (ltb 0 n) refl
  where
    go : (b : Bool) → ltb 0 n ≡ b → either b (eqb m 0) ≡ true
    go true e = refl
    go false e = eq-eqb m 0 (h (let l = ltb-false 0 n e in omega arith))

module _ (f : RecordForm) (s : List ℕ) where
  pub header_is : HeaderDescribed f s → header_good f s ≡ true
  unfolding header_good
  header_is h =
      rw (
        le-leb 16 (length s) h.whole,
        le-leb (count_of s) 1000 h.few,
        eq-eqb (unsigned_at s 4 4) 16 h.records_follow,
        eq-eqb (unsigned_at s 12 4) (stamps_start f s) h.stamps_follow,
        eq-eqb (stamps_start f s + stamp_octets s) (length s) h.ends_file,
      ) (none_is (count_of s) (stamp_octets s) h.none_none)

  pub header_told : header_good f s ≡ true → HeaderDescribed f s
  unfolding header_good
  header_told e =
      let a = both_true (leb 16 (length s)) _ e in
      let c = both_true (leb (count_of s) 1000) _ a.1 in
      let d = both_true (eqb (unsigned_at s 4 4) 16) _ c.1 in
      let g = both_true (eqb (unsigned_at s 12 4) (stamps_start f s)) _ d.1 in
      let h = both_true (eqb (stamps_start f s + stamp_octets s) (length s)) _ g.1 in
      record {
        whole = leb-true _ _ a.0;
        few = leb-true _ _ c.0;
        records_follow = eqb-true _ _ d.0;
        stamps_follow = eqb-true _ _ g.0;
        ends_file = eqb-true _ _ h.0;
        none_none = λ z. eqb-true _ _ (either_told (ltb 0 (count_of s)) (eqb (stamp_octets s) 0) h.1 (le-ltb 0 (count_of s) (omega arith)));
      }

  pub not_good : (HeaderDescribed f s → ⊥) → header_good f s ≡ false
  not_good h = go (header_good f s) refl
    where
      go : (b : Bool) → header_good f s ≡ b → header_good f s ≡ false
      go true e = absurd (h (header_told e))
      go false e = e

  pub file_walk : (stop : Record → Bool) → header_good f s ≡ true → walk_file f s stop ≡ walk f s stop 0 (count_of s) at_front
  unfolding walk_file
  file_walk stop e = rw (e, walk_file)

  pub file_fault : (stop : Record → Bool) → header_good f s ≡ false → walk_file f s stop ≡ fault 0 13
  unfolding walk_file
  file_fault stop e = rw (e, walk_file)

  -- ---- from places to steps, and back

  pub described_good : Described f s → EachGood f s
  unfolding record_at
  described_good d zero q =
      let e = d.each 0 (omega arith) in
      record {
        place = record { channel = e.channel; correction = e.correction; starts = d.first (omega arith); within = e.within; ends = d.last_ends 0 };
        stamp = e.stamp;
        order = refl;
      }
  described_good d (suc j) q =
      let e = d.each (suc j) (omega arith) in
      record {
        place = record { channel = e.channel; correction = e.correction; starts = d.no_gap j (omega arith); within = e.within; ends = d.last_ends (suc j) };
        stamp = e.stamp;
        order = d.order j (omega arith);
      }

  pub good_described : HeaderDescribed f s → EachGood f s → Described f s
  unfolding record_at
  good_described h g =
      record {
        header = h;
        each = λ i p.
            let e = g i (omega arith) in
            record { channel = e.place.channel; correction = e.place.correction; within = e.place.within; stamp = e.stamp };
        first = λ p. (g 0 (omega arith)).place.starts;
        no_gap = λ i p. (g (suc i) (omega arith)).place.starts;
        last_ends = λ i p. (g i (omega arith)).place.ends p;
        order = λ i p. (g (suc i) (omega arith)).order;
      }

  all-reach : Described f s → Reach f s never 0 (count_of s) (count_of s)
  all-reach d =
      record { low = omega arith; high = omega arith; good = λ j p q. described_good d j q; on = λ j p q. refl; ends = λ l. absurd (omega arith) }

  pub all_read : Described f s → walk_file f s never ≡ taken (records_from f s 0 (count_of s - 0))
  all_read d = file_walk never (header_is d.header) ∙ reach_walk f s never 0 (count_of s) (count_of s) (all-reach d)

  pub described_full : Described f s → full_reading f s ≡ records (count_of s)
  unfolding full_reading
  described_full d = ap numbered (all_read d) ∙ ap records (records_length f s 0 (count_of s - 0) ∙ omega arith)

  was-taken : (w : Walked) (n : ℕ) → numbered w ≡ records n → (rs : List Record) × (w ≡ taken rs)
  was-taken (taken rs) n e = (rs, refl)
  was-taken (fault p m) n e = absurd (let z : ◌≡◌ {A = ℕ} 0 1 = cc in omega arith)

  taken-described : (rs : List Record) → walk_file f s never ≡ taken rs → Described f s
  taken-described rs e = go (header_good f s) refl
    where
      go : (b : Bool) → header_good f s ≡ b → Described f s
      go true h =
          let t = walk_reach f s never 0 (count_of s) rs (sym (file_walk never h) ∙ e) in
          good_described (header_told h) (λ j q. t.1.good j (omega arith) (all t.0 t.1 j q))
        where
          all : (k : ℕ) → Reach f s never 0 (count_of s) k → (j : ℕ) → j < count_of s → j < k
          all k r j q = ⊎_elim (λ (l : j < k). l) (λ (l : k ≤ j). let t = r.ends (omega arith) in absurd (let z : ◌≡◌ {A = ℕ} 0 1 = cc in omega arith)) (lt_or_le j k)
      go false h = let k = file_fault never h in absurd (let z : ◌≡◌ {A = ℕ} 0 1 = cc in omega arith)

  pub read_described : (n : ℕ) → full_reading f s ≡ records n → Described f s
  unfolding full_reading
  read_described n e = let t = was-taken (walk_file f s never) n e in taken-described t.0 t.1

  pub accepted_exactly : (n : ℕ) → (full_reading f s ≡ records n) ↔ (Described f s × (n ≡ count_of s))
  accepted_exactly n = (
    λ e. let d = read_described n e in let k = described_full d in (d, cc),
    λ p. described_full p.0 ∙ ap records (sym p.1),
  )

  -- ---- order

  same_place : (i j : ℕ) → i ≡ j → le_z (instant_at f s i) (instant_at f s j) ≡ true
  same_place i j e = rw e (le_z_refl (instant_at f s j))

  pub never_decrease : Described f s → (i j : ℕ) → i ≤ j → j < count_of s → le_z (instant_at f s i) (instant_at f s j) ≡ true
  never_decrease d i zero p q = same_place i 0 (omega arith)
  never_decrease d i (suc j) p q =
      ⊎_elim
      (λ l. same_place i (suc j) (omega arith))
      (λ l. le_z_trans (instant_at f s i) (instant_at f s j) (instant_at f s (suc j)) (never_decrease d i j l (omega arith)) (d.order j (omega arith)))
      (lt_or_le j i)
