-- What reading with a stop comes to is fixed by the header and the records read. (02, request 5.) Assumes nothing.
--     SameOctets s u a n    s and u have the same n octets from place a on
--     SameHeader s u        the same length, and the same header
--     SameRecord f s u i    the same record i, and the same octets where its stamp stands
--     seen w                how many records reading looked at: those read, or those up to the bad one, which counts too
--     fixed_walk            two files that agree on the header and on the records looked at are read alike
--     fixed_question        and answer a question alike
use mathlib.Core.Path.{◌≡◌, refl, sym, ap, ap₂, ◌∙◌}
use mathlib.Core.Bool.{Bool, true, false}
use mathlib.Core.List.{List}
use Prim.Native.Nat.{ℕ, zero, suc, ◌+◌, ◌*◌, ◌≤◌, ◌<◌}
use native.Mathlib.Omega.{arith}
use lib.IntN.{ℤ}
use lib.ListN.{length, get_or, take, drop, length-take, length-drop}
use lib.Seq.{get_or-take, get_or-drop, ext_get_or}
use Rattle.format.specs.Words.{Outcome, accepted, refused, unless}
use Rattle.format.specs.Octets.{unsigned_at, signed_of}
use Rattle.card.specs.Header.{RecordForm, twelve, header_size, record_size, count_of, stamp_octets, stamps_start, header_good}
use Rattle.card.specs.Records.{record_start, start_at, length_at, channel_at, correction_at, stamp_at, instant_at, Record, record_at}
use Rattle.card.specs.Step.{Before, at_front, after, channel_good, place_good, fields_good, step}
use Rattle.card.specs.Reading.{Walked, taken, fault, joined, end_or_on, go_on, walk, walk_file}
use Rattle.card.specs.Question.{Held, none_yet, holds, later, held_by, last_of, held_in_file, answered, question}
use Rattle.card.proofs.Exactly.{file_walk, file_fault}

abbrev pub SameOctets : List ℕ → List ℕ → ℕ → ℕ → Type 0
SameOctets s u a n = (k : ℕ) → k < n → get_or s (a + k) 0 ≡ get_or u (a + k) 0

pub record SameHeader (s u : List ℕ) : Type 0 where
  pub long : length s ≡ length u
  pub header : SameOctets s u 0 header_size

pub record SameRecord (f : RecordForm) (s u : List ℕ) (i : ℕ) : Type 0 where
  pub fields : SameOctets s u (record_start f i) (record_size f)
  pub stamp : SameOctets s u (stamps_start f s + start_at f s i) (length_at f s i)

-- how many records reading looked at
abbrev pub seen : Walked → ℕ
seen (taken rs) = length rs
seen (fault p n) = p

-- ---- octets

module _ (s u : List ℕ) where
  part_of : (a n d m : ℕ) → SameOctets s u a n → d + m ≤ n → SameOctets s u (a + d) m
  part_of a n d m h l k q = let e : a + d + k ≡ a + (d + k) = omega arith in rw e (h (d + k) (omega arith))

  number_same : (a n : ℕ) → SameOctets s u a n → unsigned_at s a n ≡ unsigned_at u a n
  unfolding unsigned_at
  number_same a zero h = refl
  number_same a (suc n) h = ap₂ (λ x y. x * 256 + y) (number_same a n (λ k q. h k (omega arith))) (h n (omega arith))

  slice-same : (a n : ℕ) → length s ≡ length u → SameOctets s u a n → take n (drop a s) ≡ take n (drop a u)
  slice-same a n l h =
      ext_get_or 0 (take n (drop a s)) (take n (drop a u)) (simp (length-take, length-drop) (rw l))
      (λ i q. let p : i < n = omega (arith, length-take n (drop a s)) in
      get_or-take n (drop a s) i 0 p ∙ get_or-drop a s i 0 ∙ h i p ∙ sym (get_or-drop a u i 0) ∙ sym (get_or-take n (drop a u) i 0 p))

-- ---- the header and a record

module _ (f : RecordForm) (s u : List ℕ) (h : SameHeader s u) where
  count_same : count_of s ≡ count_of u
  unfolding count_of
  count_same = number_same s u 0 4 (λ k q. h.header k (omega arith))

  octets_same : stamp_octets s ≡ stamp_octets u
  unfolding stamp_octets
  octets_same = number_same s u 8 4 (part_of s u 0 16 8 4 h.header (omega arith))

  starts-same : stamps_start f s ≡ stamps_start f u
  unfolding stamps_start
  starts-same = rw count_same

  header-same : header_good f s ≡ header_good f u
  unfolding header_good
  header-same =
      rw (
        h.long,
        count_same,
        octets_same,
        starts-same,
        number_same s u 4 4 (part_of s u 0 16 4 4 h.header (omega arith)),
        number_same s u 12 4 (part_of s u 0 16 12 4 h.header (omega arith)),
      )

  module _ (i : ℕ) (r : SameRecord f s u i) where
    short : (f : RecordForm) → 12 ≤ record_size f
    short twelve = omega arith

    field-same : (d m : ℕ) → d + m ≤ 12 → SameOctets s u (record_start f i + d) m
    field-same d m l = part_of s u (record_start f i) (record_size f) d m r.fields (omega (arith, short f))

    start-same : start_at f s i ≡ start_at f u i
    unfolding start_at
    start-same = number_same s u (record_start f i) 4 (λ k q. r.fields k (omega (arith, short f)))

    length-same : length_at f s i ≡ length_at f u i
    unfolding length_at
    length-same = number_same s u (record_start f i + 4) 2 (field-same 4 2 (omega arith))

    channel-same : channel_at f s i ≡ channel_at f u i
    unfolding channel_at
    channel-same = number_same s u (record_start f i + 6) 2 (field-same 6 2 (omega arith))

    correction-same : correction_at f s i ≡ correction_at f u i
    unfolding correction_at
    correction-same = ap signed_of (slice-same s u (record_start f i + 8) 4 h.long (field-same 8 4 (omega arith)))

    stamp-same : stamp_at f s i ≡ stamp_at f u i
    unfolding stamp_at
    stamp-same =
        slice-same s u (stamps_start f s + start_at f s i) (length_at f s i) h.long r.stamp
        ∙ rw (starts-same, start-same, length-same)

  record_same : (i : ℕ) → SameRecord f s u i → record_at f s i ≡ record_at f u i
  unfolding record_at instant_at
  record_same i r =
      rw (start-same i r, length-same i r, channel-same i r, correction-same i r, stamp-same i r)

  step_same : (i : ℕ) (b : Before) → SameRecord f s u i → step f s i b ≡ step f u i b
  unfolding step fields_good place_good
  step_same i b r =
      rw (
        record_same i r,
        start-same i r,
        length-same i r,
        channel-same i r,
        correction-same i r,
        stamp-same i r,
        count_same,
        octets_same,
      )

-- ---- reading: how far it looks, and that it is the same so far

reach : ℕ → Walked → ℕ
reach i (taken rs) = i + length rs
reach i (fault p n) = p

reach_joined : (i : ℕ) (r : Record) (w : Walked) → reach i (joined r w) ≡ reach (suc i) w
unfolding reach
reach_joined i r (taken rs) = omega arith
reach_joined i r (fault p n) = refl

reach_step : (i : ℕ) (stop : Record → Bool) (o : Outcome Record) (next : Record → Walked) → ((r : Record) → suc i ≤ reach (suc i) (next r))
    → i < reach i (go_on stop (suc i) o next)
unfolding reach
reach_step i stop (refused n) next h = omega arith
reach_step i stop (accepted r) next h = go (stop r)
  where
    go : (b : Bool) → i < reach i (end_or_on b r next)
    go true = unfold reach in omega arith
    go false = rw (reach_joined i r (next r)) (h r)

reach_low : (f : RecordForm) (s : List ℕ) (stop : Record → Bool) (i n : ℕ) (b : Before) → i ≤ reach i (walk f s stop i n b)
unfolding walk reach
reach_low f s stop i zero b = omega arith
reach_low f s stop i (suc n) b =
    let l = reach_step i stop (step f s i b) (λ r. walk f s stop (suc i) n (after r)) (λ r. reach_low f s stop (suc i) n (after r)) in
    omega arith

module _ (f : RecordForm) (s u : List ℕ) (h : SameHeader s u) (stop : Record → Bool) where
  next-same : (i : ℕ) (o : Outcome Record) (next other : Record → Walked)
      → ((j : ℕ) → i ≤ j → j < reach i (go_on stop (suc i) o next) → SameRecord f s u j)
      → ((r : Record) → ((j : ℕ) → suc i ≤ j → j < reach (suc i) (next r) → SameRecord f s u j) → next r ≡ other r)
      → go_on stop (suc i) o next ≡ go_on stop (suc i) o other
  next-same i (refused n) next other a k = refl
  next-same i (accepted r) next other a k = go (stop r) a
    where
      go : (b : Bool) → ((j : ℕ) → i ≤ j → j < reach i (end_or_on b r next) → SameRecord f s u j) → end_or_on b r next ≡ end_or_on b r other
      go true a = refl
      go false a = ap (joined r) (k r (λ j l q. a j (omega arith) (rw (reach_joined i r (next r)) q)))

  fixed_from : (i n : ℕ) (b : Before) → ((j : ℕ) → i ≤ j → j < reach i (walk f s stop i n b) → SameRecord f s u j)
      → walk f s stop i n b ≡ walk f u stop i n b
  unfolding walk
  fixed_from i zero b a = refl
  fixed_from i (suc n) b a =
      let l = reach_step i stop (step f s i b) (λ r. walk f s stop (suc i) n (after r)) (λ r. reach_low f s stop (suc i) n (after r)) in
      next-same i (step f s i b) (λ r. walk f s stop (suc i) n (after r)) (λ r. walk f u stop (suc i) n (after r)) a
      (λ r q. fixed_from (suc i) n (after r) q)
      ∙ ap (λ o. go_on stop (suc i) o (λ r. walk f u stop (suc i) n (after r))) (step_same f s u h i b (a i (omega arith) l))

  seen-is : (w : Walked) → reach 0 w ≡ seen w
  unfolding reach
  seen-is (taken rs) = omega arith
  seen-is (fault p n) = refl

  pub fixed_walk : ((i : ℕ) → i < seen (walk_file f s stop) → SameRecord f s u i) → walk_file f s stop ≡ walk_file f u stop
  fixed_walk a = go (header_good f s) refl
    where
      go : (b : Bool) → header_good f s ≡ b → walk_file f s stop ≡ walk_file f u stop
      go true e =
          let w = file_walk f s stop e in
          w ∙ fixed_from 0 (count_of s) at_front (λ j l q. a j (rw w (rw (seen-is (walk f s stop 0 (count_of s) at_front)) at q)))
          ∙ ap (λ n. walk f u stop 0 n at_front) (count_same f s u h) ∙ sym (file_walk f u stop (sym (header-same f s u h) ∙ e))
      go false e = file_fault f s stop e ∙ sym (file_fault f u stop (sym (header-same f s u h) ∙ e))

module _ (f : RecordForm) (s u : List ℕ) (h : SameHeader s u) (t : ℤ) (c : ℕ) where
  held_same : (x : Held) → held_in_file f s x ≡ held_in_file f u x
  held_same none_yet = refl
  held_same (holds r) = rw (starts-same f s u h)

  answer-same : (w : Walked) → answered f s t c w ≡ answered f u t c w
  answer-same (taken rs) = ap (λ x. accepted (record { read = length rs; held = x })) (held_same (last_of (held_by t c) rs))
  answer-same (fault p n) = refl

  pub fixed_question : ((i : ℕ) → i < seen (walk_file f s (later t)) → SameRecord f s u i) → question f s t c ≡ question f u t c
  unfolding question
  fixed_question a = ap (unless (channel_good c) 2) (ap (answered f s t c) (fixed_walk f s u h (later t) a) ∙ answer-same (walk_file f u (later t)))
