-- What is claimed of manual over plan: each claim stands under its sentence of 02, request 6. How to read a claim stands in `Claims.antt`. p is any file as the plan, m
-- any file as the manual schedule, t any integer, those of 64 bits among them, c any number. What request 5's question of one file answers is claimed in `Holding.antt`.
--
--   handed_back twelve p m t c   the part that comes back (`card/specs/Over.antt`): `source` is the file, `plan` or `manual`; `start` is where it starts in that file,
--                                `size` how many octets it has
--   HoldsIn s t c r              the question of request 5 of the file s, the instant t and the channel c answers the record r; `r.instant` is its stamp's instant,
--                                `r.start` and `r.size` tell where its stamp stands in s
--   NoneIn s t c                 it answers none yet; `RefusedIn s t c`: it is refused
--   Unheld p m t c               neither holds a correction, or either question is refused
--   FromPlan p m t c r           the stamp of the record r of the plan is the one to hand back; `FromManual p m t c r`: of the manual schedule
--   of_two x p m                 p or m, as x names it
--   instant_of v                 the instant of a DatetimeTz (`moments/specs/Instant.antt`)
--   Alike a b                    two answers that hold the same, or two refusals
--   ChoosesPart p m i c q        what `part_over` promises (`schedule/specs/Calls.antt`): q is its answer, in numbers
--   HandsBack P M i c r          what `over` promises: r is the part of the files P and M that are lent. `r.now` are its octets, `r.ref_ptr` is where it stands: a memory and a
--                                place there
--   PartOf S a n r               r is n octets of the lent file S from a on, where they stand
--   OverForC                     what the C function promises (`boundary/specs/Files.antt`)
use Rattle.std.specs.Prelude.{ℕ, ◌+◌, ◌≤◌, ◌≡◌, ◌↔◌, ◌⊎◌, true, false, List, [], ◌∷◌, ℤ, length, take, drop}
use Rattle.std.specs.Int.Signed.{le_z}
use Rattle.std.specs.Borrow.{Bor}
use Rattle.format.specs.Words.{Outcome, accepted, refused}
use Rattle.format.specs.Values.{DatetimeTz, Answer}
use Rattle.format.specs.Reading.{read}
use Rattle.moments.specs.Instant.{instant_of}
use Rattle.card.specs.Header.{twelve}
use Rattle.card.specs.Records.{Record}
use Rattle.card.specs.Question.{none_yet, holds, Asked, question}
use Rattle.card.specs.Over.{Source, plan, manual, of_two, Part, handed_back}
use Rattle.card.specs.BenchOfParts.{TheLater, AtEquality, OnlyOne, Neither, OneRefused}
use Rattle.instants.specs.declared.Instant.{Instant}
use Rattle.schedule.specs.declared.parts.Part.{Part as GivenPart}
use Rattle.schedule.specs.Meaning.{source_from}
use Rattle.schedule.specs.Calls.{ChoosesPart, PartOf, HandsBack}
use Rattle.boundary.specs.Files.{OverForC}

-- ---- the answers to request 5's question

abbrev pub HoldsIn : List ℕ → ℤ → ℕ → Record → Type 0
HoldsIn s t c r = (k : ℕ) × (question twelve s t c ≡ accepted (record { read = k; held = holds r }))

abbrev pub NoneIn : List ℕ → ℤ → ℕ → Type 0
NoneIn s t c = (k : ℕ) × (question twelve s t c ≡ accepted (record { read = k; held = none_yet }))

abbrev pub RefusedIn : List ℕ → ℤ → ℕ → Type 0
RefusedIn s t c = (n : ℕ) × (question twelve s t c ≡ refused n)

-- ---- which part comes back, of any two files

-- "If neither holds a correction, or either question of request 5 is refused"
abbrev pub Unheld : List ℕ → List ℕ → ℤ → ℕ → Type 0
Unheld p m t c = RefusedIn p t c ⊎ (RefusedIn m t c ⊎ (NoneIn p t c × NoneIn m t c))

-- "the later instant, and the manual one at equality; if only one holds, that one": the plan's is later, or alone
abbrev pub FromPlan : List ℕ → List ℕ → ℤ → ℕ → Record → Type 0
FromPlan p m t c r = HoldsIn p t c r × (NoneIn m t c ⊎ ((q : Record) × HoldsIn m t c q × (le_z r.instant q.instant ≡ false)))

-- the manual one is not earlier, or alone
abbrev pub FromManual : List ℕ → List ℕ → ℤ → ℕ → Record → Type 0
FromManual p m t c r = HoldsIn m t c r × (NoneIn p t c ⊎ ((q : Record) × HoldsIn p t c q × (le_z q.instant r.instant ≡ true)))

-- "hand back the stamp of the correction that holds, as a part of whichever of the two lent files it stands in": in these three ways, and in no other. "an empty part of
-- the plan": its first.
abbrev pub HandedBackExactly : Type 0
HandedBackExactly =
    (p m : List ℕ) (t : ℤ) (c : ℕ) (x : Part)
    → (handed_back twelve p m t c ≡ x)
    ↔ (((r : Record) × FromPlan p m t c r × (x ≡ record { source = plan; start = r.start; size = r.size }))
    ⊎ (((r : Record) × FromManual p m t c r × (x ≡ record { source = manual; start = r.start; size = r.size }))
    ⊎ (Unheld p m t c × (x ≡ record { source = plan; start = 0; size = 0 }))))

-- "an empty part of the plan comes back" then, and only then; "an accepted stamp is never empty".
abbrev pub EmptyExactly : Type 0
EmptyExactly = (p m : List ℕ) (t : ℤ) (c : ℕ) → ((handed_back twelve p m t c).size ≡ 0) ↔ Unheld p m t c

-- "the stamp of the correction that holds": of a part that is not empty, the octets are accepted by the reader of DatetimeTz; the stamp's instant is the one that the answer
-- for that file names, and at or before the instant asked; and the record is of the channel asked.
abbrev pub PartIsStamp : Type 0
PartIsStamp =
    (p m : List ℕ) (t : ℤ) (c : ℕ) (x : Part) → handed_back twelve p m t c ≡ x → (x.size ≡ 0 → ⊥)
    → (r : Record) × (a : Answer) × HoldsIn (of_two x.source p m) t c r
    × (r.start ≡ x.start) × (r.size ≡ x.size)
    × (read DatetimeTz (take x.size (drop x.start (of_two x.source p m))) ≡ accepted a)
    × (instant_of a.value ≡ r.instant) × (le_z r.instant t ≡ true) × (r.channel ≡ c)

-- "as a part of whichever of the two lent files it stands in": every part, an empty one too, lies in its file.
abbrev pub PartWithin : Type 0
PartWithin =
    (p m : List ℕ) (t : ℤ) (c : ℕ) (x : Part) → handed_back twelve p m t c ≡ x → x.start + x.size ≤ length (of_two x.source p m)

abbrev pub Alike : Outcome Asked → Outcome Asked → Type 0
Alike (accepted a) (accepted b) = a.held ≡ b.held
Alike (accepted a) (refused n) = ⊥
Alike (refused n) (accepted b) = ⊥
Alike (refused n) (refused k) = Unit {0}

-- Nothing else of the two files has a say, and instant and channel have one through these answers only: where two pairs of answers are alike, the part is the same. How
-- many records were read, and with what a question is refused, has no say either.
abbrev pub OnlyTheAnswers : Type 0
OnlyTheAnswers =
    (p m p' m' : List ℕ) (t t' : ℤ) (c c' : ℕ) → Alike (question twelve p t c) (question twelve p' t' c') → Alike (question twelve m t c) (question twelve m' t' c')
    → handed_back twelve p m t c ≡ handed_back twelve p' m' t' c'

-- "the manual one at equality": with the same octets as plan and as manual schedule, where a record holds, it is the manual's part.
abbrev pub SameAsBoth : Type 0
SameAsBoth =
    (s : List ℕ) (t : ℤ) (c : ℕ) (r : Record) → HoldsIn s t c r → handed_back twelve s s t c ≡ record { source = manual; start = r.start; size = r.size }

-- The table: the later one, in either file and by a microsecond; equal instants, in other forms and as 24:00; instants below 0; only one; neither; a question refused. It is
-- `card/specs/BenchOfParts.antt`.
abbrev pub PartsMet : Type 0
PartsMet = TheLater × AtEquality × OnlyOne × Neither × OneRefused

-- ---- what our own calls hand back, over the promises that they are proved to keep

-- The part is what the numbers say: of any two files that are lent, and any answer q of `part_over`, `over` hands back the part that q names, in the memory of that file
-- and at its place there, and no other.
abbrev pub PartIsNumbers : Type 0
PartIsNumbers =
    (P M : Bor (List ℕ)) (i : Instant) (c : ℕ) (q : GivenPart) → ChoosesPart P.now M.now i c q
    → (r : Bor (List ℕ)) → HandsBack P M i c r ↔ PartOf (of_two (source_from q.source) P M) q.start q.length r

-- "as a part of whichever of the two lent files it stands in", for our own call: in the same three ways and in no other, and each says in which file's memory the part is.
abbrev pub OwnPartExactly : Type 0
OwnPartExactly =
    (P M : Bor (List ℕ)) (i : Instant) (c : ℕ) (r : Bor (List ℕ))
    → HandsBack P M i c r
    ↔ (((o : Record) × FromPlan P.now M.now i.micros c o × PartOf P o.start o.size r)
    ⊎ (((o : Record) × FromManual P.now M.now i.micros c o × PartOf M o.start o.size r)
    ⊎ (Unheld P.now M.now i.micros c × PartOf P 0 0 r)))

-- With the same octets lent as plan and as manual schedule, where a record holds, the part is in the manual schedule's memory: the octets alone would not tell.
abbrev pub OwnSameAsBoth : Type 0
OwnSameAsBoth =
    (P M : Bor (List ℕ)) (i : Instant) (c : ℕ) (o : Record) (r : Bor (List ℕ)) → P.now ≡ M.now → HoldsIn M.now i.micros c o → HandsBack P M i c r
    → PartOf M o.start o.size r

-- What `over` hands back is empty exactly where neither holds or a question is refused, and is the plan's start then. What is not empty is a stamp: the octets themselves
-- are accepted, with the instant that the file's answer names.
abbrev pub OwnPart : Type 0
OwnPart =
    (P M : Bor (List ℕ)) (i : Instant) (c : ℕ) (r : Bor (List ℕ)) → HandsBack P M i c r
    → ((r.now ≡ []) ↔ Unheld P.now M.now i.micros c)
    × (r.now ≡ [] → r.ref_ptr ≡ P.ref_ptr)
    × ((r.now ≡ [] → ⊥)
    → (x : Source) × (o : Record) × (a : Answer) × HoldsIn (of_two x P.now M.now) i.micros c o
    × PartOf (of_two x P M) o.start o.size r
    × (read DatetimeTz r.now ≡ accepted a) × (instant_of a.value ≡ o.instant) × (le_z o.instant i.micros ≡ true))

-- What C gets: 0 for the plan or 1 for the manual schedule, which is no refusal, and start and length of the part in that file, whatever was lent for them.
abbrev pub PartToC : Type 0
PartToC =
    (p m : List ℕ) (t : ℤ) (c r : ℕ) (left : List ℕ)
    → OverForC p m t c r left
    ↔ (((o : Record) × FromPlan p m t c o × (r ≡ 0) × (left ≡ o.start ∷ o.size ∷ []))
    ⊎ (((o : Record) × FromManual p m t c o × (r ≡ 1) × (left ≡ o.start ∷ o.size ∷ []))
    ⊎ (Unheld p m t c × (r ≡ 0) × (left ≡ 0 ∷ 0 ∷ []))))
