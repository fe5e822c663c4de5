-- No two different answers meet the promise of a C function: number, count and buffer, or number and parts, or number and what it is handed
-- over in, are settled by the inputs. Assumes nothing.
use mathlib.Core.Path.{◌≡◌, sym, ◌∙◌}
use mathlib.Core.List.{List}
use Prim.Native.Nat.{ℕ}
use lib.IntN.{ℤ}
use Rattle.format.specs.Words.{Outcome}
use Rattle.format.specs.Values.{Settings, Value}
use Rattle.values.proofs.OneAnswer.{one_left}
use Rattle.moments.specs.Calls.{instant, add, difference, at, restate}
use Rattle.card.specs.Header.{twelve}
use Rattle.card.specs.Reading.{record_asked}
use Rattle.card.specs.Question.{question}
use Rattle.boundary.specs.Boundary.{writing, WritesNumbered, ReadsNumbered}
use Rattle.boundary.specs.Utc.{HandsOver, InstantForC, AddForC, DifferenceForC, AtForC, RestateForC}
use Rattle.boundary.specs.Files.{ReadForC, RecordForC, HoldsForC, OverForC}

pub one_stamp_write : (n : ℕ) (t : Settings) (v : Value) (lent : List ℕ) (r r' count count' : ℕ) (left left' : List ℕ)
    → WritesNumbered n t v lent r count left → WritesNumbered n t v lent r' count' left' → (r ≡ r') × (count ≡ count') × (left ≡ left')
one_stamp_write n t v = one_left (writing n t v)

pub one_stamp_read : (n : ℕ) (s : List ℕ) (lent : List ℤ) (r r' : ℕ) (left left' : List ℤ)
    → ReadsNumbered n s lent r left → ReadsNumbered n s lent r' left' → (r ≡ r') × (left ≡ left')
one_stamp_read n s lent r r' left left' p q = (p.number ∙ sym q.number, p.parts ∙ sym q.parts)

-- ---- instants

one_handed : {A B : Type 0} {put : A → B} (o : Outcome A) (lent : B) (r r' : ℕ) (left left' : B) → HandsOver A B put o lent r left → HandsOver A B put o lent r' left' → (r ≡ r') × (left ≡ left')
one_handed o lent r r' left left' p q = (p.number ∙ sym q.number, p.handed ∙ sym q.handed)

pub one_stamp_instant : (v : Value) (lent : ℤ) (r r' : ℕ) (left left' : ℤ) → InstantForC v lent r left → InstantForC v lent r' left' → (r ≡ r') × (left ≡ left')
one_stamp_instant v = one_handed (instant v)

pub one_stamp_add : (i n lent : ℤ) (r r' : ℕ) (left left' : ℤ) → AddForC i n lent r left → AddForC i n lent r' left' → (r ≡ r') × (left ≡ left')
one_stamp_add i n = one_handed (add i n)

pub one_stamp_difference : (a b lent : ℤ) (r r' : ℕ) (left left' : ℤ) → DifferenceForC a b lent r left → DifferenceForC a b lent r' left' → (r ≡ r') × (left ≡ left')
one_stamp_difference a b = one_handed (difference a b)

pub one_stamp_at : (i o : ℤ) (lent : List ℤ) (r r' : ℕ) (left left' : List ℤ) → AtForC i o lent r left → AtForC i o lent r' left' → (r ≡ r') × (left ≡ left')
one_stamp_at i o = one_handed (at i o)

pub one_stamp_restate : (v : Value) (o : ℤ) (lent : List ℤ) (r r' : ℕ) (left left' : List ℤ)
    → RestateForC v o lent r left → RestateForC v o lent r' left' → (r ≡ r') × (left ≡ left')
one_stamp_restate v o = one_handed (restate v o)

-- ---- schedule files

pub one_stamp_schedule_read : (s : List ℕ) (r r' count count' place place' : ℕ) → ReadForC s r count place → ReadForC s r' count' place' → (r ≡ r') × (count ≡ count') × (place ≡ place')
one_stamp_schedule_read s r r' count count' place place' p q = (p.number ∙ sym q.number, p.records ∙ sym q.records, p.fault ∙ sym q.fault)

pub one_stamp_schedule_record : (s : List ℕ) (p : ℕ) (lent : List ℤ) (r r' : ℕ) (left left' : List ℤ)
    → RecordForC s p lent r left → RecordForC s p lent r' left' → (r ≡ r') × (left ≡ left')
one_stamp_schedule_record s p = one_handed (record_asked twelve s p)

pub one_stamp_schedule_holds : (s : List ℕ) (t : ℤ) (c : ℕ) (lent : List ℤ) (r r' count count' : ℕ) (left left' : List ℤ)
    → HoldsForC s t c lent r count left → HoldsForC s t c lent r' count' left' → (r ≡ r') × (count ≡ count') × (left ≡ left')
one_stamp_schedule_holds s t c lent r r' count count' left left' p q =
    let h = one_handed (question twelve s t c) lent r r' left left' p.answer q.answer in
    (h.0, p.read ∙ sym q.read, h.1)

pub one_stamp_schedule_over : (p m : List ℕ) (t : ℤ) (c r r' : ℕ) (left left' : List ℕ) → OverForC p m t c r left → OverForC p m t c r' left' → (r ≡ r') × (left ≡ left')
one_stamp_schedule_over p m t c r r' left left' h k = (h.source ∙ sym k.source, h.part ∙ sym k.part)
