-- The claims of request 6: manual over plan. Assumes nothing.
use mathlib.Core.Path.{◌≡◌, refl, sym, ◌∙◌, ap, ap₂, subst}
use mathlib.Core.Logic.{◌⊎◌, inl, inr, ⊎_elim}
use mathlib.Core.Bool.{Bool, true, false}
use mathlib.Core.List.{List, []}
use Prim.Native.Nat.{ℕ, ◌+◌, ◌≤◌}
use native.Mathlib.Omega.{arith}
use lib.IntN.{ℤ}
use lib.Signed.{le_z}
use lib.ListN.{length, take, drop}
use denote.Ref.{Bor}
use Rattle.format.specs.Words.{Outcome, accepted, refused}
use Rattle.format.specs.Values.{DatetimeTz, Answer}
use Rattle.format.specs.Reading.{read}
use Rattle.moments.specs.Instant.{instant_of}
use Rattle.card.specs.Header.{twelve}
use Rattle.card.specs.Records.{Record}
use Rattle.card.specs.Question.{Held, none_yet, holds, Asked, question}
use Rattle.card.specs.Over.{Source, plan, manual, of_two, Part, stamp_in, nothing, chosen, chosen_of, handed_back}
use Rattle.card.proofs.Tests.{le_z_refl}
use Rattle.card.proofs.Over.{Standing, held_stands, part_within}
use Rattle.card.proofs.BenchOfParts as bench
use Rattle.instants.specs.declared.Instant.{Instant}
use Rattle.schedule.specs.Calls.{PartOf, HandsBack}
use Rattle.boundary.specs.Files.{source_number, part_numbers, OverForC}
use Rattle.claims.specs.Over.{HoldsIn, NoneIn, RefusedIn, Unheld, FromPlan, FromManual, Alike}
use Rattle.claims.specs.Over.{HandedBackExactly, EmptyExactly, PartIsStamp, PartWithin, OnlyTheAnswers, SameAsBoth, PartsMet, PartIsNumbers, OwnPartExactly, OwnSameAsBoth, OwnPart, PartToC}

-- ---- one file: refused, none yet, or a record

abbrev Way : List ℕ → ℤ → ℕ → Type 0
Way s t c = RefusedIn s t c ⊎ (NoneIn s t c ⊎ ((r : Record) × HoldsIn s t c r))

way : (s : List ℕ) (t : ℤ) (c : ℕ) → Way s t c
way s t c = go (question twelve s t c) refl
  where
    held : (a : Asked) (h : Held) → question twelve s t c ≡ accepted a → a.held ≡ h → Way s t c
    held a none_yet e k = inr (inl (a.read, e ∙ ap (λ (x : Held). accepted (record { read = a.read; held = x })) k))
    held a (holds r) e k = inr (inr (r, (a.read, e ∙ ap (λ (x : Held). accepted (record { read = a.read; held = x })) k)))

    go : (o : Outcome Asked) → question twelve s t c ≡ o → Way s t c
    go (refused n) e = inl (n, e)
    go (accepted a) e = held a a.held e refl

standing : (s : List ℕ) (t : ℤ) (c : ℕ) (r : Record) → HoldsIn s t c r → Standing twelve s t c r
standing s t c r h = held_stands twelve s t c (record { read = h.0; held = holds r }) r h.1 refl

-- ---- two files

module _ (p m : List ℕ) (t : ℤ) (c : ℕ) where
  abbrev Cases : Part → Type 0
  Cases x =
      ((r : Record) × FromPlan p m t c r × (x ≡ stamp_in plan r))
      ⊎ (((r : Record) × FromManual p m t c r × (x ≡ stamp_in manual r))
      ⊎ (Unheld p m t c × (x ≡ nothing)))

  by-plan : (r : Record) → FromPlan p m t c r → handed_back twelve p m t c ≡ stamp_in plan r
  unfolding handed_back
  by-plan r h = ⊎_elim (λ n. rw (h.0.1, n.1)) (λ q. rw (h.0.1, q.1.1, q.2)) h.1

  by-manual : (r : Record) → FromManual p m t c r → handed_back twelve p m t c ≡ stamp_in manual r
  unfolding handed_back
  by-manual r h = ⊎_elim (λ n. rw (n.1, h.0.1)) (λ q. rw (q.1.1, h.0.1, q.2)) h.1

  by-none : Unheld p m t c → handed_back twelve p m t c ≡ nothing
  unfolding handed_back
  by-none (inl x) = beside (question twelve m t c)
    where
      beside : (o : Outcome Asked) → chosen_of (question twelve p t c) o ≡ nothing
      beside (accepted a) = rw x.1
      beside (refused n) = rw x.1
  by-none (inr (inl x)) = beside (question twelve p t c)
    where
      beside : (o : Outcome Asked) → chosen_of o (question twelve m t c) ≡ nothing
      beside (accepted a) = rw x.1
      beside (refused n) = rw x.1
  by-none (inr (inr x)) = rw (x.0.1, x.1.1)

  there-is : Cases (handed_back twelve p m t c)
  there-is = go (way p t c) (way m t c)
    where
      unheld : Unheld p m t c → Cases (handed_back twelve p m t c)
      unheld u = inr (inr (u, by-none u))

      of-plan : (r : Record) → FromPlan p m t c r → Cases (handed_back twelve p m t c)
      of-plan r h = inl (r, h, by-plan r h)

      of-manual : (r : Record) → FromManual p m t c r → Cases (handed_back twelve p m t c)
      of-manual r h = inr (inl (r, h, by-manual r h))

      later : (r q : Record) → HoldsIn p t c r → HoldsIn m t c q → (b : Bool) → le_z r.instant q.instant ≡ b → Cases (handed_back twelve p m t c)
      later r q h k true e = of-manual q (k, inr (r, h, e))
      later r q h k false e = of-plan r (h, inr (q, k, e))

      go : Way p t c → Way m t c → Cases (handed_back twelve p m t c)
      go (inl x) w = unheld (inl x)
      go (inr v) (inl y) = unheld (inr (inl y))
      go (inr (inl x)) (inr (inl y)) = unheld (inr (inr (x, y)))
      go (inr (inl x)) (inr (inr y)) = of-manual y.0 (y.1, inl x)
      go (inr (inr x)) (inr (inl y)) = of-plan x.0 (x.1, inl y)
      go (inr (inr x)) (inr (inr y)) = later x.0 y.0 x.1 y.1 (le_z x.0.instant y.0.instant) refl

  is-so : (x : Part) → Cases x → handed_back twelve p m t c ≡ x
  is-so x w = ⊎_elim (λ a. by-plan a.0 a.1 ∙ sym a.2) (λ v. ⊎_elim (λ a. by-manual a.0 a.1 ∙ sym a.2) (λ a. by-none a.0 ∙ sym a.1) v) w

pub handed_back_exactly : HandedBackExactly
handed_back_exactly p m t c x = (λ e. subst (Cases p m t c) e (there-is p m t c), is-so p m t c x)

pub empty_exactly : EmptyExactly
empty_exactly p m t c = (λ e. ⊎_elim (λ a. absurd (full p a.0 a.1.0 a.2 e)) (λ v. ⊎_elim (λ a. absurd (full m a.0 a.1.0 a.2 e)) (λ a. a.0) v) (there-is p m t c), λ u. ap (λ (x : Part). x.size) (by-none p m t c u))
  where
    full : (s : List ℕ) {x : Source} (r : Record) → HoldsIn s t c r → handed_back twelve p m t c ≡ stamp_in x r → (handed_back twelve p m t c).size ≡ 0 → ⊥
    full s r h k e = omega (arith, (standing s t c r h).not_empty, ap (λ (q : Part). q.size) k, e)

pub part_is_stamp : PartIsStamp
part_is_stamp p m t c x e n = ⊎_elim (λ a. of plan a.0 a.1.0 a.2) (λ v. ⊎_elim (λ a. of manual a.0 a.1.0 a.2) (λ a. absurd (n (ap (λ (q : Part). q.size) a.1))) v) (subst (Cases p m t c) e (there-is p m t c))
  where
    of : (y : Source) (r : Record) → HoldsIn (of_two y p m) t c r → x ≡ stamp_in y r
        → (o : Record) × (a : Answer) × HoldsIn (of_two x.source p m) t c o
        × (o.start ≡ x.start) × (o.size ≡ x.size)
        × (read DatetimeTz (take x.size (drop x.start (of_two x.source p m))) ≡ accepted a)
        × (instant_of a.value ≡ o.instant) × (le_z o.instant t ≡ true) × (o.channel ≡ c)
    of y r h k =
        let d = standing (of_two y p m) t c r h in
        rw k (r, d.answer, h, refl, refl, d.stamp, d.instant, d.not_later, d.channel)

pub part_within_file : PartWithin
part_within_file p m t c x e = subst (λ (y : Part). y.start + y.size ≤ length (of_two y.source p m)) e (part_within twelve p m t c)

pub only_the_answers : OnlyTheAnswers
unfolding handed_back
only_the_answers p m p' m' t t' c c' h k = alike (question twelve p t c) (question twelve p' t' c') (question twelve m t c) (question twelve m' t' c') h k
  where
    alike : (a a' b b' : Outcome Asked) → Alike a a' → Alike b b' → chosen_of a b ≡ chosen_of a' b'
    alike (accepted a) (accepted a') (accepted b) (accepted b') h k = ap₂ chosen h k
    alike (accepted a) (accepted a') (accepted b) (refused n) h k = absurd k
    alike (accepted a) (accepted a') (refused n) (accepted b') h k = absurd k
    alike (accepted a) (accepted a') (refused n) (refused l) h k = refl
    alike (accepted a) (refused n) b b' h k = absurd h
    alike (refused n) (accepted a') b b' h k = absurd h
    alike (refused n) (refused l) (accepted b) (accepted b') h k = refl
    alike (refused n) (refused l) (accepted b) (refused i) h k = absurd k
    alike (refused n) (refused l) (refused i) (accepted b') h k = absurd k
    alike (refused n) (refused l) (refused i) (refused j) h k = refl

pub same_as_both : SameAsBoth
same_as_both s t c r h = by-manual s s t c r (h, inr (r, h, le_z_refl r.instant))

pub parts_met : PartsMet
parts_met = (bench.the_later, bench.at_equality, bench.only_one, bench.neither, bench.one_refused)

-- ---- over the promises of our own code

-- that part of the two files
abbrev In : Bor (List ℕ) → Bor (List ℕ) → Bor (List ℕ) → Part → Type 0
In P M r x = PartOf (of_two x.source P M) x.start x.size r

pub part_is_numbers : PartIsNumbers
part_is_numbers P M i c q h r = (λ k. subst (In P M r) (sym h) k, λ k. subst (In P M r) h k)

pub own_part_exactly : OwnPartExactly
own_part_exactly P M i c r = (
  λ h. ⊎_elim
      (λ a. inl (a.0, a.1, subst (In P M r) a.2 h))
      (λ v. inr (⊎_elim (λ a. inl (a.0, a.1, subst (In P M r) a.2 h)) (λ a. inr (a.0, subst (In P M r) a.1 h)) v))
      (there-is P.now M.now i.micros c),
  λ w. ⊎_elim
      (λ a. subst (In P M r) (sym (by-plan P.now M.now i.micros c a.0 a.1)) a.2)
      (λ v. ⊎_elim
      (λ a. subst (In P M r) (sym (by-manual P.now M.now i.micros c a.0 a.1)) a.2)
      (λ a. subst (In P M r) (sym (by-none P.now M.now i.micros c a.0)) a.1)
      v)
      w,
)

pub own_same_as_both : OwnSameAsBoth
own_same_as_both P M i c o r e h k =
    let s : handed_back twelve P.now M.now i.micros c ≡ stamp_in manual o = rw e (same_as_both M.now i.micros c o h) in
    subst (In P M r) s k

lent_file : (P M : Bor (List ℕ)) (x : Source) → (of_two x P M).now ≡ of_two x P.now M.now
lent_file P M plan = refl
lent_file P M manual = refl

module _ (P M : Bor (List ℕ)) (i : Instant) (c : ℕ) (r : Bor (List ℕ)) (h : HandsBack P M i c r) where
  abbrev got : Part
  got = handed_back twelve P.now M.now i.micros c

  empty-size : r.now ≡ [] → got.size ≡ 0
  empty-size e = sym h.count ∙ ap length e

  size-empty : got.size ≡ 0 → r.now ≡ []
  size-empty z = h.octets ∙ ap (λ n. take n (drop got.start (of_two got.source P M).now)) z

  at-plan : r.now ≡ [] → r.ref_ptr ≡ P.ref_ptr
  at-plan e =
      let g = by-none P.now M.now i.micros c ((empty_exactly P.now M.now i.micros c).0 (empty-size e)) in
      let a : r.ref_ptr.0 ≡ P.ref_ptr.0 = h.memory ∙ ap (λ (x : Part). (of_two x.source P M).ref_ptr.0) g in
      let b : r.ref_ptr.1 ≡ P.ref_ptr.1 + 0 = h.place ∙ ap (λ (x : Part). (of_two x.source P M).ref_ptr.1 + x.start) g in
      ap₂ (λ (m n : ℕ). (m, n)) a (omega (arith, b))

pub own_part : OwnPart
own_part P M i c r h = (
  (λ e. (empty_exactly P.now M.now i.micros c).0 (empty-size P M i c r h e), λ u. size-empty P M i c r h ((empty_exactly P.now M.now i.micros c).1 u)),
  at-plan P M i c r h,
  λ n.
      let g = got P M i c r h in
      let s = part_is_stamp P.now M.now i.micros c g refl (λ z. n (size-empty P M i c r h z)) in (
        g.source,
        s.0,
        s.1,
        s.2,
        rw (s.3, s.4) h,
        ap (read DatetimeTz) (h.octets ∙ ap (λ (l : List ℕ). take g.size (drop g.start l)) (lent_file P M g.source)) ∙ s.5,
        s.6,
        s.7,
      ),
)

pub part_to_c : PartToC
part_to_c p m t c r left = (
  λ h. ⊎_elim
      (λ a. inl (a.0, a.1, h.source ∙ ap number a.2, h.part ∙ ap part_numbers a.2))
      (λ v. inr (⊎_elim
      (λ a. inl (a.0, a.1, h.source ∙ ap number a.2, h.part ∙ ap part_numbers a.2))
      (λ a. inr (a.0, h.source ∙ ap number a.1, h.part ∙ ap part_numbers a.1))
      v))
      (there-is p m t c),
  λ w. ⊎_elim
      (λ a. gives (by-plan p m t c a.0 a.1) a.2 a.3)
      (λ v. ⊎_elim (λ a. gives (by-manual p m t c a.0 a.1) a.2 a.3) (λ a. gives (by-none p m t c a.0) a.1 a.2) v)
      w,
)
  where
    number : Part → ℕ
    number x = source_number x.source

    gives : {x : Part} → handed_back twelve p m t c ≡ x → r ≡ source_number x.source → left ≡ part_numbers x → OverForC p m t c r left
    gives e a b = record { source = a ∙ ap number (sym e); part = b ∙ ap part_numbers (sym e) }
