-- Reading from the front, over places: by induction on the records that are left. Assumes nothing.
--     Reach         of the n records from i on, reading takes those before k: they are good, and all but the last of them are passed; it is at a stop, or all are taken
--     reach_walk    then these are what is taken
--     walk_reach    what is taken was so reached
--     Bad           the records from i to k are good and passed, and record k is refused with m
--     bad_walk      then reading comes to that refusal, at the place of record k
--     walk_bad      a fault was met so
use mathlib.Core.Path.{◌≡◌, refl, sym, ap, ◌∙◌}
use mathlib.Core.Logic.{⊎_elim}
use mathlib.Core.Bool.{Bool, true, false}
use mathlib.Core.List.{List, [], ◌∷◌}
use Prim.Native.Nat.{ℕ, zero, suc, ◌+◌, ◌-◌, ◌≤◌, ◌<◌}
use native.Mathlib.Omega.{arith}
use lib.ListN.{length}
use Rattle.format.specs.Words.{Outcome, accepted, refused}
use Rattle.format.proofs.Cases.{never, lt_or_le}
use Rattle.card.specs.Header.{RecordForm}
use Rattle.card.specs.Records.{Record, record_at, records_from}
use Rattle.card.specs.Step.{after, before_at, step}
use Rattle.card.specs.Reading.{Walked, taken, fault, joined, end_or_on, go_on, walk}
use Rattle.card.proofs.Described.{GoodAfter}
use Rattle.card.proofs.Stepping.{good_step, step_good}

pub record Reach (f : RecordForm) (s : List ℕ) (stop : Record → Bool) (i n k : ℕ) : Type 0 where
  pub low : i ≤ k
  pub high : k ≤ i + n
  pub good : (j : ℕ) → i ≤ j → j < k → GoodAfter f s j (before_at f s j)
  pub on : (j : ℕ) → i ≤ j → suc j < k → stop (record_at f s j) ≡ false
  pub ends : k < i + n → (j : ℕ) × (i ≤ j) × (k ≡ suc j) × (stop (record_at f s j) ≡ true)

pub record Bad (f : RecordForm) (s : List ℕ) (stop : Record → Bool) (i n k m : ℕ) : Type 0 where
  pub low : i ≤ k
  pub high : k < i + n
  pub good : (j : ℕ) → i ≤ j → j < k → GoodAfter f s j (before_at f s j)
  pub on : (j : ℕ) → i ≤ j → j < k → stop (record_at f s j) ≡ false
  pub bad : step f s k (before_at f s k) ≡ refused m

pub records_length : (f : RecordForm) (s : List ℕ) (i n : ℕ) → length (records_from f s i n) ≡ n
unfolding records_from
records_length f s i zero = refl
records_length f s i (suc n) = ap suc (records_length f s (suc i) n)

-- ---- what is left behind one more record

joined_taken : (r : Record) (w : Walked) (rs : List Record) → joined r w ≡ taken rs → (ts : List Record) × (w ≡ taken ts)
joined_taken r (taken ts) rs e = (ts, refl)
joined_taken r (fault p n) rs e = absurd (let z : ◌≡◌ {A = ℕ} 0 1 = cc in omega arith)

joined_fault : (r : Record) (w : Walked) (p m : ℕ) → joined r w ≡ fault p m → w ≡ fault p m
joined_fault r (taken ts) p m e = absurd (let z : ◌≡◌ {A = ℕ} 0 1 = cc in omega arith)
joined_fault r (fault q n) p m e = e

module _ (f : RecordForm) (s : List ℕ) (stop : Record → Bool) where
  abbrev next : ℕ → ℕ → Record → Walked
  next i n r = walk f s stop (suc i) n (after r)

  good-too : (i k : ℕ) → GoodAfter f s i (before_at f s i) → ((j : ℕ) → suc i ≤ j → j < k → GoodAfter f s j (before_at f s j))
      → (j : ℕ) → i ≤ j → j < k → GoodAfter f s j (before_at f s j)
  good-too i k g h j p q = ⊎_elim (λ l. h j l q) (λ l. let e : j ≡ i = omega arith in rw e g) (lt_or_le i j)

  on-too : (i k : ℕ) → stop (record_at f s i) ≡ false → ((j : ℕ) → suc i ≤ j → j < k → stop (record_at f s j) ≡ false)
      → (j : ℕ) → i ≤ j → j < k → stop (record_at f s j) ≡ false
  on-too i k e h j p q = ⊎_elim (λ l. h j l q) (λ l. let z : j ≡ i = omega arith in rw z e) (lt_or_le i j)

  reach-behind : (i n k : ℕ) → GoodAfter f s i (before_at f s i) → stop (record_at f s i) ≡ false → Reach f s stop (suc i) n k → Reach f s stop i (suc n) k
  reach-behind i n k g e r =
      record {
        low = omega (arith, r.low);
        high = omega (arith, r.high);
        good = good-too i k g r.good;
        on = λ j p q. ⊎_elim (λ l. r.on j l q) (λ l. let z : j ≡ i = omega arith in rw z e) (lt_or_le i j);
        ends = λ l. let t = r.ends (omega arith) in (t.0, omega (arith, t.1), t.2, t.3);
      }

  bad-behind : (i n k m : ℕ) → GoodAfter f s i (before_at f s i) → stop (record_at f s i) ≡ false → Bad f s stop (suc i) n k m → Bad f s stop i (suc n) k m
  bad-behind i n k m g e b =
      record {
        low = omega (arith, b.low);
        high = omega (arith, b.high);
        good = good-too i k g b.good;
        on = on-too i k e b.on;
        bad = b.bad;
      }

  -- ---- from places to steps

  stopped : (i n : ℕ) → GoodAfter f s i (before_at f s i) → stop (record_at f s i) ≡ true → walk f s stop i (suc n) (before_at f s i) ≡ taken (record_at f s i ∷ [])
  unfolding walk
  stopped i n g e = rw (good_step f s i (before_at f s i) g, e)

  passed_on : (i n : ℕ) → GoodAfter f s i (before_at f s i) → stop (record_at f s i) ≡ false
      → walk f s stop i (suc n) (before_at f s i) ≡ joined (record_at f s i) (walk f s stop (suc i) n (before_at f s (suc i)))
  unfolding walk
  passed_on i n g e = rw (good_step f s i (before_at f s i) g, e)

  none_left : (i : ℕ) → walk f s stop i 0 (before_at f s i) ≡ taken (records_from f s i 0)
  unfolding walk records_from
  none_left i = refl

  refused-here : (i n m : ℕ) → step f s i (before_at f s i) ≡ refused m → walk f s stop i (suc n) (before_at f s i) ≡ fault (suc i) m
  unfolding walk
  refused-here i n m e = rw e

  one-record : (i : ℕ) → records_from f s i 1 ≡ record_at f s i ∷ []
  unfolding records_from
  one-record i = refl

  more-records : (i n : ℕ) → records_from f s i (suc n) ≡ record_at f s i ∷ records_from f s (suc i) n
  unfolding records_from
  more-records i n = refl

  pub reach_walk : (i n k : ℕ) → Reach f s stop i n k → walk f s stop i n (before_at f s i) ≡ taken (records_from f s i (k - i))
  reach_walk i zero k r =
      let e : k - i ≡ 0 = omega (arith, r.low, r.high) in
      none_left i ∙ ap (λ x. taken (records_from f s i x)) (sym e)
  reach_walk i (suc n) k r = go (stop (record_at f s i)) refl (λ q. reach_walk (suc i) n k q)
    where
      some : i < k
      some = ⊎_elim (λ l. l) (λ (l : k ≤ i). absurd (let t = r.ends (omega arith) in omega (arith, t.1, t.2))) (lt_or_le i k)

      go : (b : Bool) → stop (record_at f s i) ≡ b → (Reach f s stop (suc i) n k → walk f s stop (suc i) n (before_at f s (suc i)) ≡ taken (records_from f s (suc i) (k - suc i)))
          → walk f s stop i (suc n) (before_at f s i) ≡ taken (records_from f s i (k - i))
      go true e ih =
          let l : k ≤ suc i = ⊎_elim (λ (q : suc i < k). never (sym (r.on i (omega arith) q) ∙ e)) (λ q. q) (lt_or_le (suc i) k) in
          let z : k - i ≡ 1 = omega (arith, some) in
          stopped i n (r.good i (omega arith) some) e ∙ ap taken (sym (one-record i)) ∙ ap (λ x. taken (records_from f s i x)) (sym z)
      go false e ih =
          let z : k - i ≡ suc (k - suc i) = omega (arith, some) in
          passed_on i n (r.good i (omega arith) some) e
          ∙ ap (joined (record_at f s i)) (ih (record {
            low = some;
            high = omega (arith, r.high);
            good = λ j p q. r.good j (omega arith) q;
            on = λ j p q. r.on j (omega arith) q;
            ends = λ l. let t = r.ends (omega arith) in (t.0, behind t.0 t.1 t.3, t.2, t.3);
          }))
          ∙ ap taken (sym (more-records i (k - suc i))) ∙ ap (λ x. taken (records_from f s i x)) (sym z)
        where
          behind : (j : ℕ) → i ≤ j → stop (record_at f s j) ≡ true → suc i ≤ j
          behind j p h = ⊎_elim (λ l. l) (λ (l : j ≤ i). let z : j ≡ i = omega arith in never (sym e ∙ (rw z at h))) (lt_or_le i j)

  pub bad_walk : (i n k m : ℕ) → Bad f s stop i n k m → walk f s stop i n (before_at f s i) ≡ fault (suc k) m
  bad_walk i zero k m b = absurd (omega (arith, b.low, b.high))
  bad_walk i (suc n) k m b =
      ⊎_elim
      (λ l. passed_on i n (b.good i (omega arith) l) (b.on i (omega arith) l)
      ∙ ap (joined (record_at f s i)) (bad_walk (suc i) n k m (record {
        low = l;
        high = omega (arith, b.high);
        good = λ j p q. b.good j (omega arith) q;
        on = λ j p q. b.on j (omega arith) q;
        bad = b.bad;
      })))
      (λ l. let e : k ≡ i = omega (arith, b.low) in refused-here i n m (rw e at b.bad) ∙ ap (λ x. fault (suc x) m) (sym e))
      (lt_or_le i k)

  -- ---- from steps to places

  pub walk_reach : (i n : ℕ) (rs : List Record) → walk f s stop i n (before_at f s i) ≡ taken rs → (k : ℕ) × Reach f s stop i n k
  unfolding walk
  walk_reach i zero rs e =
      (i, record { low = omega arith; high = omega arith; good = λ j p q. absurd (omega arith); on = λ j p q. absurd (omega arith); ends = λ l. absurd (omega arith) })
  walk_reach i (suc n) rs e = go (step f s i (before_at f s i)) refl e (λ ts w. walk_reach (suc i) n ts w)
    where
      go : (o : Outcome Record) → step f s i (before_at f s i) ≡ o → go_on stop (suc i) o (next i n) ≡ taken rs
          → ((ts : List Record) → walk f s stop (suc i) n (before_at f s (suc i)) ≡ taken ts → (k : ℕ) × Reach f s stop (suc i) n k)
          → (k : ℕ) × Reach f s stop i (suc n) k
      go (refused k) x y ih = absurd (let z : ◌≡◌ {A = ℕ} 0 1 = cc in omega arith)
      go (accepted r) x y ih = further (stop r) refl y
        where
          good : GoodAfter f s i (before_at f s i)
          good = (step_good f s i (before_at f s i) r x).0

          is : record_at f s i ≡ r
          is = sym (step_good f s i (before_at f s i) r x).1

          further : (b : Bool) → stop r ≡ b → end_or_on b r (next i n) ≡ taken rs → (k : ℕ) × Reach f s stop i (suc n) k
          further true e y = (
            suc i,
            record {
              low = omega arith;
              high = omega arith;
              good = λ j p q. let z : j ≡ i = omega arith in rw z good;
              on = λ j p q. absurd (omega arith);
              ends = λ l. (i, omega arith, refl, ap stop is ∙ e);
            },
          )
          further false e y =
              let t = joined_taken r (next i n r) rs y in
              let w = ih t.0 (ap (next i n) is ∙ t.1) in
              (w.0, reach-behind i n w.0 good (ap stop is ∙ e) w.1)

  pub walk_bad : (i n p m : ℕ) → walk f s stop i n (before_at f s i) ≡ fault p m → (k : ℕ) × (p ≡ suc k) × Bad f s stop i n k m
  unfolding walk
  walk_bad i zero p m e = absurd (let z : ◌≡◌ {A = ℕ} 0 1 = cc in omega arith)
  walk_bad i (suc n) p m e = go (step f s i (before_at f s i)) refl e (λ w. walk_bad (suc i) n p m w)
    where
      go : (o : Outcome Record) → step f s i (before_at f s i) ≡ o → go_on stop (suc i) o (next i n) ≡ fault p m
          → (walk f s stop (suc i) n (before_at f s (suc i)) ≡ fault p m → (k : ℕ) × (p ≡ suc k) × Bad f s stop (suc i) n k m)
          → (k : ℕ) × (p ≡ suc k) × Bad f s stop i (suc n) k m
      go (refused k) x y ih =
          (i, (cc), record { low = omega arith; high = omega arith; good = λ j a b. absurd (omega arith); on = λ j a b. absurd (omega arith); bad = x ∙ ap refused (cc) })
      go (accepted r) x y ih = further (stop r) refl y
        where
          is : record_at f s i ≡ r
          is = sym (step_good f s i (before_at f s i) r x).1

          further : (b : Bool) → stop r ≡ b → end_or_on b r (next i n) ≡ fault p m → (k : ℕ) × (p ≡ suc k) × Bad f s stop i (suc n) k m
          further true e y = absurd (let z : ◌≡◌ {A = ℕ} 0 1 = cc in omega arith)
          further false e y =
              let t = ih (ap (next i n) is ∙ joined_fault r (next i n r) p m y) in
              (t.0, t.1, bad-behind i n t.0 m (step_good f s i (before_at f s i) r x).0 (ap stop is ∙ e) t.2)
