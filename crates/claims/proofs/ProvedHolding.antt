-- The claims of request 5 about full reading and over the promises of our own code. Assumes nothing.
use mathlib.Core.Path.{◌≡◌, refl, sym, ◌∙◌, ap}
use mathlib.Core.Logic.{◌↔◌, ⊎_elim, inl, inr}
use mathlib.Core.List.{List}
use Prim.Native.Nat.{ℕ, suc, ◌+◌, ◌-◌, ◌*◌, ◌<◌, ◌≤◌}
use native.Mathlib.Omega.{arith}
use lib.IntN.{ℤ, pos}
use Rattle.format.specs.Words.{Outcome, accepted, refused}
use Rattle.format.specs.Octets.{unsigned_at}
use Rattle.format.specs.Promises.{number_of}
use Rattle.format.proofs.Cases.{lt_or_le}
use Rattle.card.specs.Header.{twelve, count_of, stamps_start}
use Rattle.card.specs.Records.{start_at, length_at, Record}
use Rattle.card.specs.Step.{at_front, before_at, step}
use Rattle.card.specs.Reading.{records, refused_at, full_reading, walk, walk_file}
use Rattle.card.specs.Question.{Held, none_yet, holds, later, Asked, question, records_read}
use Rattle.card.proofs.Tests.{le_z_trans}
use Rattle.card.proofs.Stepping.{step_good}
use Rattle.card.proofs.Walking.{Reach, records_length, reach_walk, bad_walk}
use Rattle.card.proofs.Exactly.{header_is, not_good, file_walk, file_fault}
use Rattle.card.proofs.Greatest.{not_above}
use Rattle.card.proofs.Fixed as fixed
use Rattle.card.proofs.BenchOfQuestions as bench
use Rattle.instants.specs.declared.Instant.{Instant}
use Rattle.std.specs.Prelude.{Some, None, Ok, Err}
use Rattle.schedule.specs.declared.Record.{Record as GivenRecord}
use Rattle.schedule.specs.declared.Refusal.{Refusal}
use Rattle.schedule.specs.Meaning.{refusal_number, record_from, read_in}
use Rattle.schedule.specs.Calls.{AsksFile}
use Rattle.boundary.specs.Files.{held_numbers, held_or_zeros, asked_numbers}
use Rattle.boundary.specs.Utc.{after}
use Rattle.claims.specs.Schedule.{Faulty, start_of, length_of, moment_of, Good, Card, shown_as}
use Rattle.claims.specs.Holding.{LookedAt, Channel, NotLater, LastOf, NoneOf, FirstNot, OverAllRecords, Passed, Looked, SameOctets}
use Rattle.claims.specs.Holding.{FixedByRead, RefusedAsFull, AtTheGreatest, CountNeverFalls, QuestionsMet, ReadUpTo, OwnQuestion, five_numbers_held, QuestionToC}
use Rattle.claims.proofs.OverPlaces.{to_header, from_header, moment_is, to_good, from_good}
use Rattle.claims.proofs.ProvedSchedule.{file_accepted_exactly, first_in_turn, never_decrease, same_record}
use Rattle.claims.proofs.AnyFile.{not_refused, pass_is, first_reach, first_few, what_more, what_less, answered_then, then_answered, ask_refused_exactly}

-- ---- full reading, and files that it accepts

pub refused_as_full : RefusedAsFull
refused_as_full s t c m g e =
    ⊎_elim
    (λ x. absurd (x.0 g))
    (λ y. ⊎_elim
    (λ x. (0, ((first_in_turn s).0 m).1 (x.1, x.2)))
    (λ x. (suc x.2.0, ((first_in_turn s).1 x.2.0 m).1 (x.1, x.2.1, λ j l. (x.2.2 j l).0, x.2.3)))
    y)
    ((ask_refused_exactly s t c m).0 e)

not_both : {n p m : ℕ} → records n ≡ refused_at p m → ⊥
not_both e = let z : ◌≡◌ {A = ℕ} 0 1 = cc in omega arith

-- records behind the first later one are later too
behind_later : (s : List ℕ) (n k : ℕ) (t : ℤ) → full_reading twelve s ≡ records n → FirstNot (NotLater s t) n k → (j : ℕ) → k ≤ j → j < n → NotLater s t j → ⊥
behind_later s n k t e f j l q h =
    ⊎_elim
    (λ x. absurd (omega (arith, x.0)))
    (λ x. x.3 (le_z_trans (moment_of s x.0) (moment_of s j) t (never_decrease s n e x.0 j (omega (arith, x.2)) q) h))
    f

pub over_all_records : OverAllRecords
over_all_records s n t c e g = (
  λ k h. (
    λ a.
        let x = answered_then s t c k h a in
        let f = count x.0.2 in
        (f, what_more s t c k n h (few k f) (λ j l q y. behind_later s n k t e f j l q y.0) x.1),
    λ p. then_answered s t c k h
        (g, card.header, uncount p.0, λ j l. card.each j (omega (arith, few k p.0, number)))
        (what_less s t c k n h (few k p.0) (λ j l q y. behind_later s n k t e p.0 j l q y.0) p.1),
  ),
  there-is (question twelve s t c) refl,
)
  where
    card : Card s
    card = ((file_accepted_exactly s n).0 e).0

    number : n ≡ unsigned_at s 0 4
    number = ((file_accepted_exactly s n).0 e).1

    count : {k : ℕ} → FirstNot (NotLater s t) (unsigned_at s 0 4) k → FirstNot (NotLater s t) n k
    count f = rw number f

    uncount : {k : ℕ} → FirstNot (NotLater s t) n k → FirstNot (NotLater s t) (unsigned_at s 0 4) k
    uncount f = rw number at f

    few : (k : ℕ) → FirstNot (NotLater s t) n k → k ≤ n
    few k f = first_few s t (NotLater s t) n k f

    there-is : (o : Outcome Asked) → question twelve s t c ≡ o → (a : Asked) × (question twelve s t c ≡ accepted a)
    there-is (accepted a) q = (a, q)
    there-is (refused m) q = absurd (not_both (sym e ∙ (refused_as_full s t c m g q).1))

-- ---- at the greatest number

abbrev top : ℤ
top = pos 9223372036854775807

pub at_the_greatest : AtTheGreatest
at_the_greatest s c o g = (
  λ n. (forth n, λ x. back n x.0 x.1),
  λ m. (λ x. refused-then-too m x.0 x.1, λ q. refused_as_full s top c m g q),
)
  where
    not-later : (i : ℕ) → Good s i → NotLater s top i
    not-later i h = rw (moment_is s i) at (not_above twelve s o i (before_at twelve s i) (to_good s i h))

    back : (n : ℕ) (h : Held) → question twelve s top c ≡ accepted (record { read = n; held = h }) → full_reading twelve s ≡ records n
    back n h q =
        let x = (answered_then s top c n h q).0 in
        ⊎_elim
        (λ y. (file_accepted_exactly s n).1 (record { header = x.1; each = λ i l. x.3 i (omega (arith, y.0)) }, y.0))
        (λ y. absurd (y.3 (not-later y.0 (x.3 y.0 (omega (arith, y.2))))))
        x.2

    forth : (n : ℕ) → full_reading twelve s ≡ records n → (h : Held) × (question twelve s top c ≡ accepted (record { read = n; held = h }))
    forth n e =
        let x = (over_all_records s n top c e g).1 in
        let f = back x.0.read x.0.held x.1 in
        let z : x.0.read ≡ n = cc in
        (x.0.held, x.1 ∙ ap (λ k. accepted (record { read = k; held = x.0.held })) z)

    refused-then-too : (m p : ℕ) → full_reading twelve s ≡ refused_at p m → question twelve s top c ≡ refused m
    refused-then-too m p e = go (question twelve s top c) refl
      where
        go : (x : Outcome Asked) → question twelve s top c ≡ x → question twelve s top c ≡ refused m
        go (accepted a) q = absurd (not_both (sym (back a.read a.held q) ∙ e))
        go (refused n) q = let y = (refused_as_full s top c n g q).1 in let z : n ≡ m = cc in q ∙ ap refused z

-- ---- the count never falls

first_rises : (P Q : ℕ → Type 0) (n k l : ℕ) → ((j : ℕ) → P j → Q j) → FirstNot P n k → FirstNot Q n l → k ≤ l
first_rises P Q n k l h a b =
    ⊎_elim
    (λ y. ⊎_elim (λ x. omega (arith, x.0, y.0)) (λ x. omega (arith, x.1, x.2, y.0)) a)
    (λ y. ⊎_elim
    (λ x. absurd (y.3 (h y.0 (x.1 y.0 y.1))))
    (λ x. ⊎_elim (λ (m : y.0 < x.0). absurd (y.3 (h y.0 (x.4 y.0 m)))) (λ (m : x.0 ≤ y.0). omega (arith, x.2, y.2)) (lt_or_le y.0 x.0))
    a)
    b

pub count_never_falls : CountNeverFalls
count_never_falls s t u c d a b h p q =
    let x = (answered_then s t c a.read a.held p).0 in
    let y = (answered_then s u d b.read b.held q).0 in
    first_rises (NotLater s t) (NotLater s u) (unsigned_at s 0 4) a.read b.read (λ j z. le_z_trans (moment_of s j) t u z h) x.2 y.2

pub questions_met : QuestionsMet
questions_met = (bench.holding, bench.last_of_two, bench.none_yet_lem, bench.of_channels, bench.of_records_read)

-- ---- fixed by what is read

octets_same : (s u : List ℕ) (a n : ℕ) → SameOctets s u a n → fixed.SameOctets s u a n
octets_same s u a n h k l = h (a + k) (omega arith) (omega arith)

module _ (s : List ℕ) (t : ℤ) where
  -- how many records reading looks at
  seen-is : (k : ℕ) → Looked s t k → fixed.seen (walk_file twelve s (later t)) ≡ k
  unfolding count_of
  seen-is k h =
      ⊎_elim
      (λ x. ap fixed.seen (file_fault twelve s (later t) (not_good twelve s (λ y. x.0 (from_header s y)))) ∙ sym x.1)
      (λ x. ap fixed.seen (file_walk twelve s (later t) (header_is twelve s (to_header s x.0))) ∙ ⊎_elim all up_to x.1)
      h
    where
      reached : (n : ℕ) → Reach twelve s (later t) 0 (count_of s) n → fixed.seen (walk twelve s (later t) 0 (count_of s) at_front) ≡ n
      reached n r = ap fixed.seen (reach_walk twelve s (later t) 0 (count_of s) n r) ∙ records_length twelve s 0 (n - 0) ∙ omega arith

      all : (k ≡ unsigned_at s 0 4) × ((j : ℕ) → j < unsigned_at s 0 4 → Passed s t j) → fixed.seen (walk twelve s (later t) 0 (count_of s) at_front) ≡ k
      all x =
          reached k (first_reach s t (count_of s) k (inl (x.0, λ j l. (x.1 j l).1)) (λ j l. (x.1 j (omega (arith, x.0))).0))

      up_to : (i : ℕ) × (i < unsigned_at s 0 4) × (k ≡ suc i) × (Passed s t i → ⊥) × ((j : ℕ) → j < i → Passed s t j)
          → fixed.seen (walk twelve s (later t) 0 (count_of s) at_front) ≡ k
      up_to x = go (step twelve s x.0 (before_at twelve s x.0)) refl
        where
          go : (o : Outcome Record) → step twelve s x.0 (before_at twelve s x.0) ≡ o → fixed.seen (walk twelve s (later t) 0 (count_of s) at_front) ≡ k
          go (refused m) e =
              ap fixed.seen (bad_walk twelve s (later t) 0 (count_of s) x.0 m
              (record {
                low = omega arith;
                high = omega (arith, x.1);
                good = λ j p q. to_good s j (x.4 j q).0;
                on = λ j p q. pass_is s t j (x.4 j q).1;
                bad = e;
              }))
              ∙ sym x.2
          go (accepted r) e =
              let g = from_good s x.0 (step_good twelve s x.0 (before_at twelve s x.0) r e).0 in
              reached k (first_reach s t (count_of s) k (inr (x.0, x.1, x.2, λ y. x.3 (g, y), λ j l. (x.4 j l).1)) (each g))
            where
              each : Good s x.0 → (j : ℕ) → j < k → Good s j
              each g j q = ⊎_elim (λ (l : j < x.0). (x.4 j l).0) (λ (l : x.0 ≤ j). let z : j ≡ x.0 = omega (arith, x.2) in rw z g) (lt_or_le j x.0)

pub fixed_by_read : FixedByRead
unfolding stamps_start count_of start_at length_at
fixed_by_read s u t c k h l e a =
    fixed.fixed_question twelve s u (record { long = l; header = octets_same s u 0 16 e }) t c
    (λ i q.
    let x = a i (omega (arith, seen-is s t k h)) in
    record {
      fields = octets_same s u (16 + 12 * i) 12 x.0;
      stamp = octets_same s u (16 + 12 * unsigned_at s 0 4 + start_of s i) (length_of s i) x.1;
    })

-- ---- how many are looked at

good_no_fault : (s : List ℕ) (i m : ℕ) → Good s i → Faulty s i m → ⊥
good_no_fault s i m g f =
    ⊎_elim
    (λ x. x.0 g.0)
    (λ y. ⊎_elim (λ x. not_refused (sym g.1.1 ∙ x.1)) (λ x. x.2 g.2) y)
    f

looked_answered : (s : List ℕ) (t : ℤ) (c k : ℕ) (h : Held) → question twelve s t c ≡ accepted (record { read = k; held = h }) → Looked s t k
looked_answered s t c k h e =
    let x = (answered_then s t c k h e).0 in
    inr (
      x.1,
      ⊎_elim
          (λ y. inl (y.0, λ j l. (x.3 j (omega (arith, y.0)), y.1 j l)))
          (λ y. inr (y.0, y.1, y.2, λ p. y.3 p.1, λ j l. (x.3 j (omega (arith, y.2)), y.4 j l)))
          x.2,
    )

looked_refused : (s : List ℕ) (t : ℤ) (c m : ℕ) → Channel c → question twelve s t c ≡ refused m → (k : ℕ) × Looked s t k × (full_reading twelve s ≡ refused_at k m)
looked_refused s t c m g e =
    ⊎_elim
    (λ x. absurd (x.0 g))
    (λ y. ⊎_elim
    (λ x. (0, inl (x.1, refl), ((first_in_turn s).0 m).1 (x.1, x.2)))
    (λ x. (
      suc x.2.0,
      inr (x.1, inr (x.2.0, x.2.1, refl, λ p. good_no_fault s x.2.0 m p.0 x.2.3, λ j l. x.2.2 j l)),
      ((first_in_turn s).1 x.2.0 m).1 (x.1, x.2.1, λ j l. (x.2.2 j l).0, x.2.3),
    ))
    y)
    ((ask_refused_exactly s t c m).0 e)

looked_one : (s : List ℕ) (t : ℤ) (k l : ℕ) → Looked s t k → Looked s t l → l ≡ k
looked_one s t k l a b = sym (seen-is s t l b) ∙ seen-is s t k a

pub looked_at : LookedAt
looked_at = (
  λ s t. there-is s t (question twelve s t 1) refl,
  λ s t c k g h. (
    λ a e. looked_one s t k a.read h (looked_answered s t c a.read a.held e),
    λ m e. let x = looked_refused s t c m g e in x.2 ∙ ap (λ p. refused_at p m) (looked_one s t k x.0 h x.1),
  ),
)
  where
    there-is : (s : List ℕ) (t : ℤ) (o : Outcome Asked) → question twelve s t 1 ≡ o → (k : ℕ) × Looked s t k × ((l : ℕ) → Looked s t l → l ≡ k)
    there-is s t (accepted a) e = let x = looked_answered s t 1 a.read a.held e in (a.read, x, λ l b. looked_one s t a.read l x b)
    there-is s t (refused m) e = let x = looked_refused s t 1 m (omega arith, omega arith) e in (x.0, x.1, λ l b. looked_one s t x.0 l x.1 b)

-- ---- over the promises of our own code

pub own_question : OwnQuestion
own_question = (own_none, own_record, own-refused)
  where
    own_none : (s : List ℕ) (i : Instant) (c k : ℕ) → AsksFile s i c (Ok (record { read = k; latest = None })) ↔ (ReadUpTo s i.micros c k × NoneOf s k i.micros c)
    own_none s i c k = (
      λ p. answered_then s i.micros c k none_yet (sym p.answer),
      λ p. let e = then_answered s i.micros c k none_yet p.0 p.1 in record { answer = sym e; count = sym (ap records_read e) },
    )

    own_record : (s : List ℕ) (i : Instant) (c k : ℕ) (r : GivenRecord)
        → AsksFile s i c (Ok (record { read = k; latest = Some r })) ↔ (ReadUpTo s i.micros c k × ((j : ℕ) × LastOf s k i.micros c j × shown_as r s j))
    own_record s i c k r = (
      λ p.
          let x = answered_then s i.micros c k (holds (record_from r)) (sym p.answer) in
          (x.0, (x.1.0, x.1.1, same_record s (unsigned_at s 0 4) x.1.0 r refl x.1.2)),
      λ p.
          let h = p.1.2 in
          let e = then_answered s i.micros c k (holds (record_from r)) p.0 (p.1.0, p.1.1, rw (h.0, h.1, h.2, h.3, h.4, h.5)) in
          record { answer = sym e; count = sym (ap records_read e) },
    )

    own-refused : (s : List ℕ) (i : Instant) (c k : ℕ) (f : Refusal)
        → (AsksFile s i c (Err f) × (k ≡ read_in (Err f))) ↔ ((k ≡ 0) × (question twelve s i.micros c ≡ refused (refusal_number f)))
    own-refused s i c k f = (λ p. (p.1, sym p.0.answer), λ p. (record { answer = sym p.1; count = sym (ap records_read p.1) }, p.0))

numbers_same : (h : Held) → held_or_zeros h ≡ five_numbers_held h
unfolding held_numbers
numbers_same none_yet = refl
numbers_same (holds r) = refl

pub question_to_c : QuestionToC
question_to_c = (
  λ s t c lent r count left h. (
    λ a e. (
      h.answer.number ∙ ap number_of e,
      h.read ∙ ap records_read e,
      h.answer.handed ∙ ap (λ o. after asked_numbers o lent) e ∙ numbers_same a.held,
    ),
    λ m e. (h.answer.number ∙ ap number_of e, h.read ∙ ap records_read e, h.answer.handed ∙ ap (λ o. after asked_numbers o lent) e),
  ),
  λ s t c k r e. let x = (answered_then s t c k (holds r) e).1 in rw x.2 (omega arith),
)
