-- Manual over plan: from what holds in the two files to the part, and from the part in numbers to the part itself. Assumes nothing.
--     chooses_no_channel, plan_refused, manual_refused, chooses_chosen     the part in numbers
--     within_plan, within_manual         it lies in its file
--     hands_plan, hands_manual           the part itself
use mathlib.Core.Path.{◌≡◌, refl, sym, subst, ap, ap₂, ◌∙◌}
use mathlib.Core.Bool.{false}
use mathlib.Core.List.{List}
use Prim.Native.Nat.{ℕ, ◌+◌, ◌≤◌}
use lib.ListN.{length}
use denote.Ref.{Bor}
use Rattle.instants.specs.declared.Instant.{Instant}
use Rattle.card.specs.Header.{twelve}
use Rattle.card.specs.Step.{channel_good}
use Rattle.format.specs.Words.{Outcome, accepted, refused}
use Rattle.card.specs.Question.{Asked as FileAsked, question}
use Rattle.card.specs.Over.{of_two, Part as FilePart, nothing, chosen, chosen_of, handed_back}
use Rattle.card.proofs.Asking.{bad_channel}
use Rattle.card.proofs.Over.{part_within}
use Rattle.schedule.specs.declared.Refusal.{Refusal}
use Rattle.std.specs.Prelude.{Option, Result, Ok, Err}
use Rattle.schedule.specs.declared.Record.{Record}
use Rattle.schedule.specs.declared.parts.Source.TheVariants as S
use Rattle.schedule.specs.declared.parts.Part.{Part}
use Rattle.schedule.specs.Meaning.{refusal_number, held_from, part_from}
use Rattle.schedule.specs.Steps.{held_asked, HeldIn}
use Rattle.schedule.specs.Calls.{ChoosesPart, PartOf, HandsBack}

refused_nothing : (n : ℕ) (o : Outcome FileAsked) → nothing ≡ chosen_of (refused n) o
refused_nothing n (accepted b) = refl
refused_nothing n (refused k) = refl

module _ (p m : List ℕ) (i : Instant) (c : ℕ) where
  -- a bad channel, or a refused plan
  refused-first : (n : ℕ) (q : Part) → question twelve p i.micros c ≡ refused n → part_from q ≡ nothing → ChoosesPart p m i c q
  unfolding handed_back
  refused-first n q e h = let o = question twelve m i.micros c in h ∙ refused_nothing n o ∙ ap (λ x. chosen_of x o) (sym e)

  pub chooses_no_channel : (q : Part) → channel_good c ≡ false → part_from q ≡ nothing → ChoosesPart p m i c q
  chooses_no_channel q g h = refused-first 2 q (bad_channel twelve p i.micros c g) h

  pub plan_refused : (k : Result (Option Record) Refusal) (f : Refusal) (q : Part) → HeldIn p i.micros c k → k ≡ Err f → part_from q ≡ nothing → ChoosesPart p m i c q
  plan_refused k f q x e h = refused-first (refusal_number f) q (sym x.1 ∙ ap (held_asked x.0) e) h

  pub manual_refused : (k l : Result (Option Record) Refusal) (r : Option Record) (f : Refusal) (q : Part)
      → HeldIn p i.micros c k → HeldIn m i.micros c l → k ≡ Ok r → l ≡ Err f → part_from q ≡ nothing → ChoosesPart p m i c q
  unfolding handed_back
  manual_refused k l r f q x y d e h = h ∙ ap₂ chosen_of (sym (ap (held_asked x.0) d) ∙ x.1) (sym (ap (held_asked y.0) e) ∙ y.1)

  pub chooses_chosen : (k l : Result (Option Record) Refusal) (r t : Option Record) (q : Part)
      → HeldIn p i.micros c k → HeldIn m i.micros c l → k ≡ Ok r → l ≡ Ok t → part_from q ≡ chosen (held_from r) (held_from t) → ChoosesPart p m i c q
  unfolding handed_back
  chooses_chosen k l r t q x y d e h = h ∙ ap₂ chosen_of (sym (ap (held_asked x.0) d) ∙ x.1) (sym (ap (held_asked y.0) e) ∙ y.1)

  within : (q : Part) → ChoosesPart p m i c q → q.start + q.length ≤ length (of_two (part_from q).source p m)
  within q h = subst (λ (x : FilePart). x.start + x.size ≤ length (of_two x.source p m)) (sym h) (part_within twelve p m i.micros c)

  pub within_plan : (q : Part) → ChoosesPart p m i c q → q.source ≡ S.Plan → q.start + q.length ≤ length p
  within_plan q h e = rw e at (within q h)

  pub within_manual : (q : Part) → ChoosesPart p m i c q → q.source ≡ S.Manual → q.start + q.length ≤ length m
  within_manual q h e = rw e at (within q h)

module _ (p m : Bor (List ℕ)) (i : Instant) (c : ℕ) (q : Part) (r : Bor (List ℕ)) (h : ChoosesPart p.now m.now i c q) where
  -- as the numbers say, so it is
  hands-part : PartOf (of_two (part_from q).source p m) q.start q.length r → HandsBack p m i c r
  hands-part k = subst (λ (x : FilePart). PartOf (of_two x.source p m) x.start x.size r) h k

  pub hands_plan : q.source ≡ S.Plan → PartOf p q.start q.length r → HandsBack p m i c r
  hands_plan e k = hands-part (rw e k)

  pub hands_manual : q.source ≡ S.Manual → PartOf m q.start q.length r → HandsBack p m i c r
  hands_manual e k = hands-part (rw e k)
