-- Manual over plan: what a question's record is in its file, and the part that is chosen. (02, request 6.) Assumes nothing.
--     Standing, held_stands     the record that holds: its stamp lies in the file, is accepted and not empty; it is of the channel, and at or before the instant
--     stands                    a part that is not empty is the stamp of the record that holds in its file
--     part_within               every part lies in its file
use mathlib.Core.Path.{◌≡◌, refl, sym, ap, ◌∙◌}
use mathlib.Core.Logic.{◌⊎◌, inl, inr, ⊎_elim}
use mathlib.Core.Bool.{Bool, true, false}
use mathlib.Core.List.{List, []}
use Prim.Native.Nat.{ℕ, zero, suc, ◌+◌, ◌≤◌, ◌<◌}
use native.Mathlib.Omega.{arith}
use borrow.Author.Tests.{eqb-true}
use lib.Dec.{eqb}
use lib.IntN.{ℤ}
use lib.Signed.{le_z}
use lib.ListN.{length, take, drop}
use Rattle.format.specs.Words.{pick, Outcome, accepted, refused}
use Rattle.format.specs.Values.{DatetimeTz, Answer}
use Rattle.format.specs.CompactReading.{shortest, read_compact}
use Rattle.format.specs.Reading.{form_in, read_in, read}
use Rattle.format.proofs.Cases.{both_true, same}
use Rattle.moments.specs.Instant.{instant_of}
use Rattle.card.specs.Header.{RecordForm}
use Rattle.card.specs.Records.{length_at, channel_at, stamp_at, instant_at, Record, record_at, in_file, records_from}
use Rattle.card.specs.Step.{before_at}
use Rattle.card.specs.Question.{Held, none_yet, holds, held_by, last_of, held_in_file, Asked, question}
use Rattle.card.specs.Over.{plan, manual, of_two, Part, stamp_in, nothing, chosen, chosen_of, handed_back}
use Rattle.card.proofs.Stepping.{instant_is}
use Rattle.card.proofs.Exactly.{header_told}
use Rattle.card.proofs.Asking.{Answered, answer_is, bad_channel, bad_header, bad_record, Came, came, last_of_lem}
use Rattle.card.proofs.Asking as ways

-- ---- an accepted stamp is never empty

nothing_read : (a : Answer) → read DatetimeTz [] ≡ accepted a → ⊥
nothing_read a e =
    let k : read DatetimeTz [] ≡ refused 5 = unfold read form_in read_in read_compact shortest in refl in
    let z : ◌≡◌ {A = ℕ} 0 1 = cc in
    omega arith

not_empty_lem : (f : RecordForm) (s : List ℕ) (i : ℕ) (a : Answer) → read DatetimeTz (stamp_at f s i) ≡ accepted a → 1 ≤ length_at f s i
not_empty_lem f s i a d = go (length_at f s i) refl
  where
    empty : length_at f s i ≡ 0 → stamp_at f s i ≡ []
    empty e = unfold stamp_at in rw e

    go : (n : ℕ) → length_at f s i ≡ n → 1 ≤ n
    go zero e = absurd (nothing_read a (rw (empty e) at d))
    go (suc n) e = omega arith

-- ---- the record that holds

module _ (f : RecordForm) (s : List ℕ) (t : ℤ) (c : ℕ) where
  pub record Standing (r : Record) : Type 0 where
    pub within : r.start + r.size ≤ length s
    pub not_empty : 1 ≤ r.size
    pub answer : Answer
    pub stamp : read DatetimeTz (take r.size (drop r.start s)) ≡ accepted answer
    pub instant : instant_of answer.value ≡ r.instant
    pub not_later : le_z r.instant t ≡ true
    pub channel : r.channel ≡ c

  good-stands : (k : ℕ) → Answered f s t c k → (j : ℕ) → j < k → held_by t c (record_at f s j) ≡ true → Standing (in_file f s (record_at f s j))
  unfolding record_at stamp_at held_by
  good-stands k x j l h =
      let g = x.reach.good j (omega arith) l in
      let d = header_told f s x.header in
      let b = both_true (le_z (instant_at f s j) t) (eqb (channel_at f s j) c) h in
      record {
        within = omega (arith, g.place.within, d.ends_file);
        not_empty = not_empty_lem f s j g.stamp.0 g.stamp.1;
        answer = g.stamp.0;
        stamp = g.stamp.1;
        instant = sym (instant_is f s j (before_at f s j) g.stamp.0 g.stamp.1);
        not_later = b.0;
        channel = eqb-true (channel_at f s j) c b.1;
      }

  last-stands : (k : ℕ) (r : Record) → Answered f s t c k → held_in_file f s (last_of (held_by t c) (records_from f s 0 k)) ≡ holds r → Standing r
  last-stands k r x e =
      ⊎_elim
      (λ n. absurd (let z = rw n.is at e in let z : ◌≡◌ {A = ℕ} 0 1 = cc in omega arith))
      (λ l. rw (← is_held (rw l.1.is at e)) (good-stands k x l.0 l.1.high l.1.yes))
      (last_of_lem f s (held_by t c) k)
    where
      is_held : {a b : Record} → holds a ≡ holds b → a ≡ b
      is_held h = cc

  pub held_stands : (a : Asked) (r : Record) → question f s t c ≡ accepted a → a.held ≡ holds r → Standing r
  held_stands a r e h = go (came f s t c)
    where
      no : (n : ℕ) → question f s t c ≡ refused n → Standing r
      no n q = absurd (let z : ◌≡◌ {A = ℕ} 0 1 = cc in omega arith)

      go : Came f s t c → Standing r
      go (ways.answer k x) = last-stands k r x (ap (λ (y : Asked). y.held) (same (sym (answer_is f s t c k x) ∙ e)) ∙ h)
      go (ways.channel b) = no 2 (bad_channel f s t c b)
      go (ways.header b d) = no 13 (bad_header f s t c b d)
      go (ways.bad k m b d x) = no m (bad_record f s t c k m b d x)

-- ---- of two files

module _ (f : RecordForm) (p m : List ℕ) (t : ℤ) (c : ℕ) where
  -- the stamp of the record r, which holds in its file
  abbrev pub StampOf : Part → Asked → Record → Type 0
  StampOf q a r = (question f (of_two q.source p m) t c ≡ accepted a) × (a.held ≡ holds r) × (q ≡ stamp_in q.source r)

  abbrev Names : Part → Type 0
  Names q = (q ≡ nothing) ⊎ ((a : Asked) × (r : Record) × StampOf q a r)

  one_of : (b : Bool) (x y : Part) → Names x → Names y → Names (pick b x y)
  one_of true x y h k = h
  one_of false x y h k = k

  held-named : (a b : Asked) → question f p t c ≡ accepted a → question f m t c ≡ accepted b → (h k : Held) → a.held ≡ h → b.held ≡ k → Names (chosen h k)
  held-named a b e g (holds r) (holds q) i j =
      one_of (le_z r.instant q.instant) (stamp_in manual q) (stamp_in plan r) (inr (b, q, (g, j, refl))) (inr (a, r, (e, i, refl)))
  held-named a b e g (holds r) none_yet i j = inr (a, r, (e, i, refl))
  held-named a b e g none_yet (holds q) i j = inr (b, q, (g, j, refl))
  held-named a b e g none_yet none_yet i j = inl refl

  -- nothing, or such a stamp
  pub named : Names (handed_back f p m t c)
  unfolding handed_back
  named = go (question f p t c) (question f m t c) refl refl
    where
      go : (x y : Outcome Asked) → question f p t c ≡ x → question f m t c ≡ y → Names (chosen_of x y)
      go (accepted a) (accepted b) e g = held-named a b e g a.held b.held refl refl
      go (accepted a) (refused n) e g = inl refl
      go (refused n) (accepted b) e g = inl refl
      go (refused n) (refused k) e g = inl refl

  -- one that is not empty is a stamp, and lies in its file
  pub stands : ((handed_back f p m t c).size ≡ 0 → ⊥) → (a : Asked) × (r : Record) × StampOf (handed_back f p m t c) a r
  stands n = ⊎_elim (λ e. absurd (n (ap (λ (q : Part). q.size) e))) (λ x. x) named

  abbrev Within : Part → Type 0
  Within q = q.start + q.size ≤ length (of_two q.source p m)

  pub part_within : Within (handed_back f p m t c)
  part_within = ⊎_elim (λ e. rw e (omega arith)) some named
    where
      some : (a : Asked) × (r : Record) × StampOf (handed_back f p m t c) a r → Within (handed_back f p m t c)
      some x =
          let w = (held_stands f (of_two (handed_back f p m t c).source p m) t c x.0 x.1 x.2.0 x.2.1).within in
          omega (arith, w, ap (λ (q : Part). q.start) x.2.2, ap (λ (q : Part). q.size) x.2.2)
