-- The claims of request 5 about any file, from the laws of `card`: the words of `specs/Holding` over places are theirs. Assumes nothing.
--     pass_is, stop_is, pass_told     whether a record is later
--     reach_first, first_reach        how many records are read
--     what_more, what_less            records that do not hold are of no account
--     answered_then, then_answered    the answer
use mathlib.Core.Path.{◌≡◌, refl, sym, ◌∙◌, ap}
use mathlib.Core.Logic.{◌⊎◌, ⊎_elim, inl, inr}
use mathlib.Core.Bool.{Bool, true, false, not}
use mathlib.Core.List.{List}
use Prim.Native.Nat.{ℕ, zero, suc, ◌<◌, ◌≤◌}
use native.Mathlib.Omega.{arith}
use lib.Dec.{leb, eqb}
use lib.IntN.{ℤ}
use lib.Signed.{le_z}
use borrow.Author.Tests.{le-leb, leb-true, eq-eqb, eqb-true}
use Rattle.format.specs.Words.{accepted, refused}
use Rattle.format.specs.Octets.{unsigned_at}
use Rattle.format.proofs.Cases.{never, same, not_false, both_true, lt_or_le}
use Rattle.card.specs.Header.{twelve, count_of}
use Rattle.card.specs.Records.{channel_at, instant_at, record_at, records_from}
use Rattle.card.specs.Step.{channel_good}
use Rattle.card.specs.Question.{Held, none_yet, holds, later, held_by, last_of, held_in_file, Asked, question}
use Rattle.card.proofs.Walking.{Reach, Bad}
use Rattle.card.proofs.Exactly.{header_is, header_told, not_good}
use Rattle.card.proofs.Asking.{Answered, answer_is, bad_channel, bad_header, bad_record, Came, came, last_of_lem}
use Rattle.card.proofs.Asking as ways
use Rattle.claims.specs.Schedule.{channel_of, moment_of, Header, Good, Faulty}
use Rattle.claims.specs.Holding.{Channel, the_record, NotLater, HoldsAt, LastOf, WhatHolds, FirstNot, AnsweredExactly, AskRefusedExactly}
use Rattle.claims.specs.Holding.{ReadUpTo}
use Rattle.claims.proofs.OverPlaces.{to_header, from_header, moment_is, to_good, from_good, step_faulty, faulty_step, record_is}
use Rattle.claims.proofs.ProvedInstants.{refused_same}

pub to_channel : (c : ℕ) → Channel c → channel_good c ≡ true
unfolding channel_good
to_channel c g = rw (le-leb 1 c g.0, le-leb c 16 g.1)

pub from_channel : (c : ℕ) → channel_good c ≡ true → Channel c
unfolding channel_good
from_channel c e = let x = both_true (leb 1 c) (leb c 16) e in (leb-true 1 c x.0, leb-true c 16 x.1)

pub not_channel : (c : ℕ) → (Channel c → ⊥) → channel_good c ≡ false
not_channel c h = go (channel_good c) refl
  where
    go : (b : Bool) → channel_good c ≡ b → channel_good c ≡ false
    go true e = absurd (h (from_channel c e))
    go false e = e

module _ (s : List ℕ) (t : ℤ) where
  -- a record is later, or it is not
  pub pass_is : (i : ℕ) → NotLater s t i → later t (record_at twelve s i) ≡ false
  unfolding record_at
  pass_is i h = rw (moment_is s i, h)

  pub stop_is : (i : ℕ) → (NotLater s t i → ⊥) → later t (record_at twelve s i) ≡ true
  unfolding record_at
  stop_is i h = rw (moment_is s i) (go (le_z (moment_of s i) t) refl)
    where
      go : (b : Bool) → le_z (moment_of s i) t ≡ b → not b ≡ true
      go true e = absurd (h e)
      go false e = refl

  pub pass_told : (i : ℕ) → later t (record_at twelve s i) ≡ false → NotLater s t i
  unfolding record_at
  pass_told i e = rw (moment_is s i) at (not_false (le_z (instant_at twelve s i) t) e)

  stop-told : (i : ℕ) → later t (record_at twelve s i) ≡ true → NotLater s t i → ⊥
  stop-told i e h = never (sym (pass_is i h) ∙ e)

  -- ---- how many are read

  pub reach_first : (n k : ℕ) → Reach twelve s (later t) 0 n k → FirstNot (NotLater s t) n k
  reach_first n k r = ⊎_elim stopped all (lt_or_le k n)
    where
      on : (j : ℕ) → suc j < k → NotLater s t j
      on j q = pass_told j (r.on j (omega arith) q)

      stopped : k < n → FirstNot (NotLater s t) n k
      stopped l = let x = r.ends (omega arith) in inr (x.0, omega (arith, x.2), x.2, stop-told x.0 x.3, λ j q. on j (omega (arith, x.2)))

      last-too : (i : ℕ) → k ≡ suc i → NotLater s t i → (j : ℕ) → j < k → NotLater s t j
      last-too i e h j q = ⊎_elim (λ (l : suc j < k). on j l) (λ (l : k ≤ suc j). let z : j ≡ i = omega arith in rw z h) (lt_or_le (suc j) k)

      at-end : (m : ℕ) → k ≡ m → n ≡ k → FirstNot (NotLater s t) n k
      at-end zero e f = inl (sym f, λ j q. absurd (omega arith))
      at-end (suc i) e f = go (le_z (moment_of s i) t) refl
        where
          go : (b : Bool) → le_z (moment_of s i) t ≡ b → FirstNot (NotLater s t) n k
          go true h = inl (sym f, λ j q. last-too i e h j (omega arith))
          go false h = inr (i, omega arith, e, λ x. never (sym h ∙ x), λ j q. on j (omega arith))

      all : n ≤ k → FirstNot (NotLater s t) n k
      all l = at-end k refl (omega (arith, r.high))

  pub first_reach : (n k : ℕ) → FirstNot (NotLater s t) n k → ((j : ℕ) → j < k → Good s j) → Reach twelve s (later t) 0 n k
  first_reach n k h g =
      ⊎_elim
      (λ x. record {
        low = omega arith;
        high = omega (arith, x.0);
        good = λ j p q. to_good s j (g j q);
        on = λ j p q. pass_is j (x.1 j (omega (arith, x.0)));
        ends = λ l. absurd (omega (arith, x.0));
      })
      (λ x. record {
        low = omega arith;
        high = omega (arith, x.1, x.2);
        good = λ j p q. to_good s j (g j q);
        on = λ j p q. pass_is j (x.4 j (omega (arith, x.2)));
        ends = λ l. (x.0, omega arith, x.2, stop_is x.0 x.3);
      })
      h

  pub first_few : (P : ℕ → Type 0) (n k : ℕ) → FirstNot P n k → k ≤ n
  first_few P n k h = ⊎_elim (λ x. omega (arith, x.0)) (λ x. omega (arith, x.1, x.2)) h

  -- ---- what holds

  module _ (c : ℕ) where
    held-told : (i : ℕ) → held_by t c (record_at twelve s i) ≡ true → HoldsAt s t c i
    unfolding held_by record_at channel_at
    held-told i e =
        let x = both_true (le_z (instant_at twelve s i) t) (eqb (channel_at twelve s i) c) e in
        (rw (moment_is s i) at x.0, eqb-true (channel_of s i) c x.1)

    held-is : (i : ℕ) → HoldsAt s t c i → held_by t c (record_at twelve s i) ≡ true
    unfolding held_by record_at channel_at
    held-is i h = rw (moment_is s i, h.0) (eq-eqb (channel_of s i) c h.1)

    what-is : (n : ℕ) → WhatHolds s n t c (held_in_file twelve s (last_of (held_by t c) (records_from twelve s 0 n)))
    what-is n =
        ⊎_elim
        (λ x. rw x.is (λ j l h. never (sym (x.none j l) ∙ held-is j h)))
        (λ y. let x = y.1 in rw x.is (y.0, (x.high, held-told y.0 x.yes, λ j l u h. never (sym (x.none j l u) ∙ held-is j h)), record_is s (unsigned_at s 0 4) y.0 refl))
        (last_of_lem twelve s (held_by t c) n)

    last-same : (n i j : ℕ) → LastOf s n t c i → LastOf s n t c j → i ≡ j
    last-same n i j a b =
        ⊎_elim
        (λ (l : i < j). absurd (a.2 j l b.0 b.1))
        (λ (l : j ≤ i). ⊎_elim (λ (m : j < i). absurd (b.2 i m a.0 a.1)) (λ (m : i ≤ j). omega arith) (lt_or_le j i))
        (lt_or_le i j)

    -- nothing else holds
    what-one : (n : ℕ) (h k : Held) → WhatHolds s n t c h → WhatHolds s n t c k → h ≡ k
    what-one n none_yet none_yet a b = refl
    what-one n none_yet (holds r) a b = absurd (a b.0 b.1.0 b.1.1)
    what-one n (holds r) none_yet a b = absurd (b a.0 a.1.0 a.1.1)
    what-one n (holds r) (holds q) a b = ap holds (a.2 ∙ ap (the_record s) (last-same n a.0 b.0 a.1 b.1) ∙ sym b.2)

    -- records that do not hold are of no account
    pub what_more : (k n : ℕ) (h : Held) → k ≤ n → ((j : ℕ) → k ≤ j → j < n → HoldsAt s t c j → ⊥) → WhatHolds s k t c h → WhatHolds s n t c h
    what_more k n none_yet l u a = λ j q x. ⊎_elim (λ (m : j < k). a j m x) (λ (m : k ≤ j). u j m q x) (lt_or_le j k)
    what_more k n (holds r) l u a =
        (a.0, (omega (arith, a.1.0), a.1.1, λ j p q x. ⊎_elim (λ (m : j < k). a.1.2 j p m x) (λ (m : k ≤ j). u j m q x) (lt_or_le j k)), a.2)

    pub what_less : (k n : ℕ) (h : Held) → k ≤ n → ((j : ℕ) → k ≤ j → j < n → HoldsAt s t c j → ⊥) → WhatHolds s n t c h → WhatHolds s k t c h
    what_less k n none_yet l u a = λ j q x. a j (omega arith) x
    what_less k n (holds r) l u a =
        (a.0, (⊎_elim (λ (m : a.0 < k). m) (λ (m : k ≤ a.0). absurd (u a.0 m a.1.0 a.1.1)) (lt_or_le a.0 k), a.1.1, λ j p q x. a.1.2 j p (omega arith) x), a.2)

-- ---- the answer, of any file

pub not_refused : {A : Type 0} {a : A} {m : ℕ} → accepted a ≡ refused m → ⊥
not_refused e = let z : ◌≡◌ {A = ℕ} 0 1 = cc in omega arith

module _ (s : List ℕ) (t : ℤ) (c : ℕ) where
  pub answered_then : (k : ℕ) (h : Held) → question twelve s t c ≡ accepted (record { read = k; held = h }) → ReadUpTo s t c k × WhatHolds s k t c h
  unfolding count_of
  answered_then k h e = go (came twelve s t c)
    where
      go : Came twelve s t c → ReadUpTo s t c k × WhatHolds s k t c h
      go (ways.answer j a) =
          let x = same (sym e ∙ answer_is twelve s t c j a) in
          let p : k ≡ j = ap (λ (y : Asked). y.read) x in
          let q : h ≡ held_in_file twelve s (last_of (held_by t c) (records_from twelve s 0 j)) = ap (λ (y : Asked). y.held) x in
          rw (p, q)
          ((from_channel c a.channel, from_header s (header_told twelve s a.header), reach_first s t (count_of s) j a.reach, λ i l. from_good s i (a.reach.good i (omega arith) l)), what-is s t c j)
      go (ways.channel b) = absurd (not_refused (sym e ∙ bad_channel twelve s t c b))
      go (ways.header a b) = absurd (not_refused (sym e ∙ bad_header twelve s t c a b))
      go (ways.bad i m a b d) = absurd (not_refused (sym e ∙ bad_record twelve s t c i m a b d))

  pub then_answered : (k : ℕ) (h : Held) → ReadUpTo s t c k → WhatHolds s k t c h → question twelve s t c ≡ accepted (record { read = k; held = h })
  unfolding count_of
  then_answered k h r w =
      let a : Answered twelve s t c k = record {
        channel = to_channel c r.0;
        header = header_is twelve s (to_header s r.1);
        reach = first_reach s t (count_of s) k r.2 r.3;
      } in
      answer_is twelve s t c k a ∙ ap (λ x. accepted (record { read = k; held = x })) (what-one s t c k _ h (what-is s t c k) w)

pub answered_exactly : AnsweredExactly
answered_exactly s t c k h = (
  λ e. let x = answered_then s t c k h e in (x.0.0, x.0.1, x.0.2, x.0.3, x.1),
  λ p. then_answered s t c k h (p.0, p.1, p.2, p.3) p.4,
)

-- ---- the refusals, of any file

module _ (s : List ℕ) (t : ℤ) (c : ℕ) where
  -- record i is bad, and none before it is, or is later
  abbrev FaultAt : ℕ → ℕ → Type 0
  FaultAt i m = (i < unsigned_at s 0 4) × ((j : ℕ) → j < i → Good s j × NotLater s t j) × Faulty s i m

  bad-fault : (i m : ℕ) → Bad twelve s (later t) 0 (count_of s) i m → FaultAt i m
  unfolding count_of
  bad-fault i m b =
      (omega (arith, b.high), λ j l. (from_good s j (b.good j (omega arith) l), pass_told s t j (b.on j (omega arith) l)), step_faulty s i m b.bad)

  fault-bad : (i m : ℕ) → FaultAt i m → Bad twelve s (later t) 0 (count_of s) i m
  unfolding count_of
  fault-bad i m x =
      record {
        low = omega arith;
        high = omega (arith, x.0);
        good = λ j p q. to_good s j (x.1 j q).0;
        on = λ j p q. pass_is s t j (x.1 j q).1;
        bad = faulty_step s i m x.2;
      }

  refused-then : (m : ℕ) → question twelve s t c ≡ refused m
      → ((Channel c → ⊥) × (m ≡ 2)) ⊎ ((Channel c × (Header s → ⊥) × (m ≡ 13)) ⊎ (Channel c × Header s × ((i : ℕ) × FaultAt i m)))
  refused-then m e = go (came twelve s t c)
    where
      go : Came twelve s t c → ((Channel c → ⊥) × (m ≡ 2)) ⊎ ((Channel c × (Header s → ⊥) × (m ≡ 13)) ⊎ (Channel c × Header s × ((i : ℕ) × FaultAt i m)))
      go (ways.answer k a) = absurd (not_refused (sym (answer_is twelve s t c k a) ∙ e))
      go (ways.channel b) = inl (λ g. never (sym b ∙ to_channel c g), refused_same (sym e ∙ bad_channel twelve s t c b))
      go (ways.header a b) =
          inr (inl (from_channel c a, λ h. never (sym b ∙ header_is twelve s (to_header s h)), refused_same (sym e ∙ bad_header twelve s t c a b)))
      go (ways.bad i n a b d) =
          let z : n ≡ m = refused_same (sym (bad_record twelve s t c i n a b d) ∙ e) in
          inr (inr (from_channel c a, from_header s (header_told twelve s b), (i, rw z at (bad-fault i n d))))

pub ask_refused_exactly : AskRefusedExactly
ask_refused_exactly s t c m = (
  λ e. ⊎_elim inl (λ x. inr (⊎_elim inl (λ y. inr (y.0, y.1, (y.2.0, y.2.1.0, y.2.1.1, y.2.1.2))) x)) (refused-then s t c m e),
  λ p. ⊎_elim
      (λ x. bad_channel twelve s t c (not_channel c x.0) ∙ ap refused (sym x.1))
      (λ y. ⊎_elim
      (λ x. bad_header twelve s t c (to_channel c x.0) (not_good twelve s (λ h. x.1 (from_header s h))) ∙ ap refused (sym x.2))
      (λ x. bad_record twelve s t c x.2.0 m (to_channel c x.0) (header_is twelve s (to_header s x.1)) (fault-bad s t c x.2.0 m (x.2.1, x.2.2, x.2.3)))
      y)
      p,
)
