-- What the question comes to, over places. (02, request 5.) Assumes nothing.
--     Answered        channel and header are good, and reading takes k records up to the first later one
--     answer_is       then the answer is their number, and the last of them that holds
--     bad_channel, bad_header, bad_record     2; 13; what the first bad record before the stop is refused with
--     came            one of these it always is
--     last_of_lem         the last of n records for which a test holds, over places
use mathlib.Core.Path.{◌≡◌, refl, ap, ◌∙◌}
use mathlib.Core.Logic.{◌⊎◌, inl, inr, ⊎_elim}
use mathlib.Core.Bool.{Bool, true, false}
use mathlib.Core.List.{List}
use Prim.Native.Nat.{ℕ, zero, suc, ◌+◌, ◌-◌, ◌≤◌, ◌<◌}
use native.Mathlib.Omega.{arith}
use lib.IntN.{ℤ}
use Rattle.format.specs.Words.{pick, accepted, refused}
use Rattle.format.proofs.Cases.{lt_or_le}
use Rattle.card.specs.Header.{RecordForm, count_of, header_good}
use Rattle.card.specs.Records.{Record, record_at, records_from}
use Rattle.card.specs.Step.{at_front, channel_good}
use Rattle.card.specs.Reading.{Walked, taken, fault, walk, walk_file}
use Rattle.card.specs.Question.{Held, none_yet, holds, later, held_by, last_from, last_of, held_in_file, Asked, answered, question}
use Rattle.card.proofs.Walking.{Reach, Bad, records_length, reach_walk, bad_walk, walk_reach, walk_bad}
use Rattle.card.proofs.Exactly.{file_walk, file_fault}

module _ (f : RecordForm) (s : List ℕ) (t : ℤ) (c : ℕ) where
  -- the answer after k records
  abbrev pub answer_of : ℕ → Asked
  answer_of k = record { read = k; held = held_in_file f s (last_of (held_by t c) (records_from f s 0 k)) }

  pub record Answered (k : ℕ) : Type 0 where
    pub channel : channel_good c ≡ true
    pub header : header_good f s ≡ true
    pub reach : Reach f s (later t) 0 (count_of s) k

  by-walk : channel_good c ≡ true → question f s t c ≡ answered f s t c (walk_file f s (later t))
  unfolding question
  by-walk e = rw e

  pub bad_channel : channel_good c ≡ false → question f s t c ≡ refused 2
  unfolding question
  bad_channel e = rw e

  pub reads_so : (k : ℕ) → Answered k → walk_file f s (later t) ≡ taken (records_from f s 0 k)
  reads_so k a =
      let e : k - 0 ≡ k = omega arith in
      file_walk f s (later t) a.header ∙ reach_walk f s (later t) 0 (count_of s) k a.reach ∙ ap (λ x. taken (records_from f s 0 x)) e

  pub answer_is : (k : ℕ) → Answered k → question f s t c ≡ accepted (answer_of k)
  answer_is k a =
      by-walk a.channel
      ∙ ap (answered f s t c) (reads_so k a)
      ∙ ap (λ x. accepted (record { read = x; held = held_in_file f s (last_of (held_by t c) (records_from f s 0 k)) })) (records_length f s 0 k)

  pub faulty_so : (k m : ℕ) → header_good f s ≡ true → Bad f s (later t) 0 (count_of s) k m → walk_file f s (later t) ≡ fault (suc k) m
  faulty_so k m h b = file_walk f s (later t) h ∙ bad_walk f s (later t) 0 (count_of s) k m b

  pub bad_header : channel_good c ≡ true → header_good f s ≡ false → question f s t c ≡ refused 13
  bad_header e h = by-walk e ∙ ap (answered f s t c) (file_fault f s (later t) h)

  pub bad_record : (k m : ℕ) → channel_good c ≡ true → header_good f s ≡ true → Bad f s (later t) 0 (count_of s) k m → question f s t c ≡ refused m
  bad_record k m e h b = by-walk e ∙ ap (answered f s t c) (faulty_so k m h b)

  -- ---- and nothing else

  pub data Came : Type 0 where
    answer : (k : ℕ) → Answered k → Came
    channel : channel_good c ≡ false → Came
    header : channel_good c ≡ true → header_good f s ≡ false → Came
    bad : (k m : ℕ) → channel_good c ≡ true → header_good f s ≡ true → Bad f s (later t) 0 (count_of s) k m → Came

  -- one of the four
  pub came : Came
  came = by-channel (channel_good c) refl
    where
      by-records : channel_good c ≡ true → header_good f s ≡ true → (w : Walked) → walk f s (later t) 0 (count_of s) at_front ≡ w → Came
      by-records e h (taken rs) x =
          let r = walk_reach f s (later t) 0 (count_of s) rs x in answer r.0 (record { channel = e; header = h; reach = r.1 })
      by-records e h (fault p m) x = let b = walk_bad f s (later t) 0 (count_of s) p m x in bad b.0 m e h b.2

      by-header : channel_good c ≡ true → (b : Bool) → header_good f s ≡ b → Came
      by-header e true h = by-records e h (walk f s (later t) 0 (count_of s) at_front) refl
      by-header e false h = header e h

      by-channel : (b : Bool) → channel_good c ≡ b → Came
      by-channel true e = by-header e (header_good f s) refl
      by-channel false e = channel e

-- ---- the last of some records

module _ (f : RecordForm) (s : List ℕ) (p : Record → Bool) where
  -- of the n records from i on, h being the last before them: record k, or none
  record Found (i n : ℕ) (h : Held) (k : ℕ) : Type 0 where
    low : i ≤ k
    high : k < i + n
    is : last_from p h (records_from f s i n) ≡ holds (record_at f s k)
    yes : p (record_at f s k) ≡ true
    none : (j : ℕ) → k < j → j < i + n → p (record_at f s j) ≡ false

  record Missed (i n : ℕ) (h : Held) : Type 0 where
    is : last_from p h (records_from f s i n) ≡ h
    none : (j : ℕ) → i ≤ j → j < i + n → p (record_at f s j) ≡ false

  at-or-behind : (i n : ℕ) → p (record_at f s i) ≡ false → ((j : ℕ) → suc i ≤ j → j < suc i + n → p (record_at f s j) ≡ false)
      → (j : ℕ) → i ≤ j → j < i + suc n → p (record_at f s j) ≡ false
  at-or-behind i n e o j l u = ⊎_elim (λ k. o j k (omega arith)) (λ k. let q : j ≡ i = omega arith in rw q e) (lt_or_le i j)

  one_more : (i n : ℕ) (h : Held) (b : Bool) → p (record_at f s i) ≡ b → Missed (suc i) n (pick b (holds (record_at f s i)) h)
      → Missed i (suc n) h ⊎ ((k : ℕ) × Found i (suc n) h k)
  unfolding last_from records_from
  one_more i n h true e x =
      inr (
        i,
        record {
          low = omega arith;
          high = omega arith;
          is = ap (λ b. last_from p (pick b (holds (record_at f s i)) h) (records_from f s (suc i) n)) e ∙ x.is;
          yes = e;
          none = λ j l u. x.none j l (omega arith);
        },
      )
  one_more i n h false e x =
      inl (record {
        is = ap (λ b. last_from p (pick b (holds (record_at f s i)) h) (records_from f s (suc i) n)) e ∙ x.is;
        none = at-or-behind i n e x.none;
      })

  last-from : (i n : ℕ) (h : Held) → Missed i n h ⊎ ((k : ℕ) × Found i n h k)
  unfolding last_from records_from
  last-from i zero h = inl (record { is = refl; none = λ j l u. absurd (omega arith) })
  last-from i (suc n) h =
      ⊎_elim
      (λ x. one_more i n h (p (record_at f s i)) refl x)
      (λ y. let x = y.1 in inr (y.0, record { low = omega (arith, x.low); high = omega (arith, x.high); is = x.is; yes = x.yes; none = λ j l u. x.none j l (omega arith) }))
      (last-from (suc i) n (pick (p (record_at f s i)) (holds (record_at f s i)) h))

  pub record LastIs (n k : ℕ) : Type 0 where
    pub high : k < n
    pub is : last_of p (records_from f s 0 n) ≡ holds (record_at f s k)
    pub yes : p (record_at f s k) ≡ true
    pub none : (j : ℕ) → k < j → j < n → p (record_at f s j) ≡ false

  pub record NoneIs (n : ℕ) : Type 0 where
    pub is : last_of p (records_from f s 0 n) ≡ none_yet
    pub none : (j : ℕ) → j < n → p (record_at f s j) ≡ false

  pub last_of_lem : (n : ℕ) → NoneIs n ⊎ ((k : ℕ) × LastIs n k)
  last_of_lem n =
      ⊎_elim
      (λ x. inl (record { is = x.is; none = λ j l. x.none j (omega arith) (omega arith) }))
      (λ y. let x = y.1 in inr (y.0, record { high = omega (arith, x.high); is = x.is; yes = x.yes; none = λ j l u. x.none j l (omega arith) }))
      (last-from 0 n none_yet)
