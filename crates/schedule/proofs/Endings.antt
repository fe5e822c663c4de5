-- What a run comes to, from record i on, for the loop: its invariant is 'from here on it comes to that', and each way out of the loop and each way round is one
-- law below. Assumes nothing.
--     runs_walks, end_bad_header, end_all, end_bad, end_stop, end_on    from the first record; bad header; behind the last record; refused; later; another
--     Far                                           what the loop knows of the records that it passed
--     far_front, far_on, stands_all, stands_late    at its start; after one more; behind the last record; at a later one
--     alone_instant, alone_never                    a run over one good record ends with its instant, and never with a refusal
use mathlib.Core.Path.{◌≡◌, refl, sym, ap, ◌∙◌}
use mathlib.Core.Logic.{⊎_elim}
use mathlib.Core.Bool.{true, false, not}
use mathlib.Core.List.{List}
use Prim.Native.Nat.{ℕ, suc, ◌+◌, ◌-◌, ◌≤◌, ◌<◌}
use native.Mathlib.Omega.{arith}
use lib.IntN.{ℤ, negsuc}
use lib.Signed.{le_z}
use Rattle.format.specs.Words.{accepted, refused}
use Rattle.format.specs.Octets.{Octets}
use Rattle.format.proofs.Cases.{lt_or_le}
use Rattle.card.specs.Header.{twelve, count_of, header_good}
use Rattle.card.specs.Records.{Record, record_at, instant_at}
use Rattle.card.specs.Step.{Before, after, step}
use Rattle.card.specs.Reading.{Walked, taken, fault, joined, walk, walk_file}
use Rattle.card.specs.Question.{later}
use Rattle.card.proofs.Exactly.{file_walk, file_fault}
use Rattle.card.proofs.Turns.{walk_end, walk_turn}
use Rattle.schedule.specs.declared.walk.Taken.{Taken}
use Rattle.schedule.specs.declared.walk.Ended.{Ended}
use Rattle.std.specs.Prelude.{Result, Ok, Err}
use Rattle.schedule.specs.declared.Fault.{Fault}
use Rattle.schedule.specs.Steps.{taken as record_of, alone, GoodAlone, ended, faulty, ending, Passed, Stands, Runs, Walks}
use Rattle.schedule.proofs.Walking.{low, walk_low, taken_is, taken_instant, alone_good, above_least}

pub ended_same : {n m : ℕ} → ended n ≡ ended m → n ≡ m
ended_same e = cc

module _ (s : List ℕ) (t : ℤ) where
  end-front : Octets s → header_good twelve s ≡ true → ending 0 (walk twelve s (later t) 0 (count_of s) low) ≡ ending 0 (walk_file twelve s (later t))
  end-front o e = ap (ending 0) (walk_low s o (later t) (count_of s) ∙ sym (file_walk twelve s (later t) e))

  -- a run from the first record on is the walk
  pub runs_walks : Octets s → header_good twelve s ≡ true → (r : Result Ended Fault) → Runs s t 0 low r → Walks s t r
  runs_walks o e (Ok x) h = let n : count_of s - 0 ≡ count_of s = omega arith in (h.0, sym (end-front o e) ∙ rw n at h.1)
  runs_walks o e (Err f) h = let n : count_of s - 0 ≡ count_of s = omega arith in sym (end-front o e) ∙ rw n at h

  pub end_bad_header : header_good twelve s ≡ false → ending 0 (walk_file twelve s (later t)) ≡ faulty 0 13
  end_bad_header e = ap (ending 0) (file_fault twelve s (later t) e)

  module _ (n i : ℕ) (b : Before) where
    pub end_all : n ≤ i → ending i (walk twelve s (later t) i (n - i) b) ≡ ended i
    end_all l = ap (ending i) (walk_end twelve s (later t) n i b l) ∙ ap ended (omega arith)

    pub end_bad : (k : ℕ) → i < n → step twelve s i b ≡ refused k → ending i (walk twelve s (later t) i (n - i) b) ≡ faulty (suc i) k
    end_bad k l x = ap (ending i) (walk_turn twelve s (later t) n i b l (refused k) x)

    pub end_stop : (r : Record) → i < n → step twelve s i b ≡ accepted r → later t r ≡ true → ending i (walk twelve s (later t) i (n - i) b) ≡ ended (suc i)
    end_stop r l x y =
        let k : i + 1 ≡ suc i = omega arith in
        ap (ending i) (walk_turn twelve s (later t) n i b l (accepted r) x) ∙ rw y (ap ended k)

    joined-ending : (r : Record) (w : Walked) → ending i (joined r w) ≡ ending (suc i) w
    joined-ending r (taken rs) = ap ended (omega arith)
    joined-ending r (fault q m) = refl

    pub end_on : (r : Record) → i < n → step twelve s i b ≡ accepted r → later t r ≡ false
        → ending i (walk twelve s (later t) i (n - i) b) ≡ ending (suc i) (walk twelve s (later t) (suc i) (n - suc i) (after r))
    end_on r l e y =
        ap (ending i) (walk_turn twelve s (later t) n i b l (accepted r) e) ∙ rw y (joined-ending r (walk twelve s (later t) (suc i) (n - suc i) (after r)))

-- ---- the records that were passed

-- from record `from` on, those before i, and l is the last one's instant
pub record Far (s : List ℕ) (t : ℤ) (from i : ℕ) (l : ℤ) : Type 0 where
  pub low : from ≤ i
  pub high : i ≤ count_of s
  pub each : (j : ℕ) → from ≤ j → j < i → Passed s t j
  pub last : (j : ℕ) → from ≤ j → i ≡ suc j → l ≡ instant_at twelve s j

module _ (s : List ℕ) (t : ℤ) (from : ℕ) where
  pub far_front : (l : ℤ) → from ≤ count_of s → Far s t from from l
  far_front l h = record { low = omega arith; high = h; each = λ j p q. absurd (omega arith); last = λ j p q. absurd (omega arith) }

  pub stands_all : (i : ℕ) (l : ℤ) → Far s t from i l → Stands s t from (record { read = i; passed = i; last = l; instant = l })
  stands_all i l f =
      record {
        few = f.high;
        least = omega arith;
        most = omega arith;
        each = f.each;
        late = λ q. absurd (omega arith);
        last = f.last;
        instant = f.last;
      }

  -- one more record
  module _ (o : Octets s) (i : ℕ) (l : ℤ) (f : Far s t from i l) (b : Before) (x : Taken) (e : step twelve s i b ≡ accepted (record_of i x)) (h : i < count_of s) where
    this : x.instant ≡ instant_at twelve s i
    this = taken_instant s i x (taken_is s i b x e)

    at-this : (j : ℕ) → i + 1 ≡ suc j → x.instant ≡ instant_at twelve s j
    at-this j q = let z : i ≡ j = omega arith in rw (sym z) this

    pub far_on : le_z x.instant t ≡ true → Far s t from (i + 1) x.instant
    far_on u =
        let p : Passed s t i = record { good = alone_good s o i b (record_of i x) e; soon = rw (sym this) u } in
        record {
          low = omega (arith, f.low);
          high = omega arith;
          each = λ j a c. ⊎_elim (λ (k : j < i). f.each j a k) (λ (k : i ≤ j). let z : j ≡ i = omega arith in rw z p) (lt_or_le j i);
          last = λ j a q. at-this j q;
        }

    pub stands_late : le_z x.instant t ≡ false → Stands s t from (record { read = i + 1; passed = i; last = l; instant = x.instant })
    stands_late u =
        record {
          few = omega arith;
          least = omega arith;
          most = omega arith;
          each = f.each;
          late = λ q. rw (sym this) u;
          last = f.last;
          instant = λ j a q. at-this j q;
        }

    -- what is left comes to the same
    pub turned : le_z x.instant t ≡ true
        → ending (i + 1) (walk twelve s (later t) (i + 1) (count_of s - (i + 1)) (after (record_of i x))) ≡ ending i (walk twelve s (later t) i (count_of s - i) b)
    turned u =
        let z : i + 1 ≡ suc i = omega arith in
        ap (λ j. ending j (walk twelve s (later t) j (count_of s - j) (after (record_of i x)))) z
        ∙ sym (end_on s t (count_of s) i b (record_of i x) h e (ap not u))

-- ---- one record by itself, which is later than the least number

module _ (s : List ℕ) (o : Octets s) (i : ℕ) (l : i < count_of s) (g : GoodAlone s i) where
  alone-ends : ending i (walk twelve s (later (negsuc 9223372036854775807)) i (count_of s - i) (alone s i)) ≡ ended (suc i)
  unfolding record_at
  alone-ends = end_stop s (negsuc 9223372036854775807) (count_of s) i (alone s i) (record_at twelve s i) l g (ap not (above_least s o i g))

  pub alone_instant : (e : Ended) → Runs s (negsuc 9223372036854775807) i (alone s i) (Ok e) → e.instant ≡ instant_at twelve s i
  alone_instant e h = h.0.instant i (omega arith) (ended_same (sym h.1 ∙ alone-ends))

  pub alone_never : {A : Type 0} (f : Fault) → Runs s (negsuc 9223372036854775807) i (alone s i) (Err f) → A
  alone_never f h = let z = sym h ∙ alone-ends in absurd (let y : ◌≡◌ {A = ℕ} 0 1 = cc in omega arith)
