-- Header first, then each record in turn: the refusal is the first one, and its place is the record's. (02, request 4.) Assumes nothing.
--     header_refused     refused at place 0 exactly where the header is bad, and with 13
--     record_refused     refused at place k + 1 exactly where the header and the k records before are good, and record k's step is refused so
use mathlib.Core.Path.{◌≡◌, refl, sym, ap, ◌∙◌}
use mathlib.Core.Logic.{◌↔◌}
use mathlib.Core.Bool.{Bool, true, false}
use mathlib.Core.List.{List}
use Prim.Native.Nat.{ℕ, suc}
use native.Mathlib.Omega.{arith}
use Rattle.card.specs.Header.{RecordForm, count_of, header_good}
use Rattle.card.specs.Reading.{Walked, taken, fault, walk_file, never, refused_at, numbered, full_reading}
use Rattle.card.proofs.Described.{FirstBad}
use Rattle.card.proofs.Walking.{bad_walk, walk_bad}
use Rattle.card.proofs.Exactly.{file_walk, file_fault}

module _ (f : RecordForm) (s : List ℕ) where
  numbered-fault : (w : Walked) (p m : ℕ) → numbered w ≡ refused_at p m → w ≡ fault p m
  numbered-fault (taken rs) p m e = absurd (let z : ◌≡◌ {A = ℕ} 0 1 = cc in omega arith)
  numbered-fault (fault q n) p m e = cc

  pub header_refused : (m : ℕ) → (full_reading f s ≡ refused_at 0 m) ↔ ((header_good f s ≡ false) × (m ≡ 13))
  unfolding full_reading
  header_refused m = (λ e. go (header_good f s) refl (numbered-fault (walk_file f s never) 0 m e), λ p. ap numbered (file_fault f s never p.0) ∙ ap (refused_at 0) (sym p.1))
    where
      go : (b : Bool) → header_good f s ≡ b → walk_file f s never ≡ fault 0 m → (header_good f s ≡ false) × (m ≡ 13)
      go true h e = let t = walk_bad f s never 0 (count_of s) 0 m (sym (file_walk f s never h) ∙ e) in absurd (omega (arith, t.1))
      go false h e = let k = file_fault f s never h in (h, cc)

  pub record_refused : (k m : ℕ) → (full_reading f s ≡ refused_at (suc k) m) ↔ ((header_good f s ≡ true) × FirstBad f s k m)
  unfolding full_reading
  record_refused k m = (
    λ e. go (header_good f s) refl (numbered-fault (walk_file f s never) (suc k) m e),
    λ p. ap numbered (file_walk f s never p.0
        ∙ bad_walk f s never 0 (count_of s) k m (record { low = omega arith; high = omega (arith, p.1.0); good = λ j a b. p.1.1 j b; on = λ j a b. refl; bad = p.1.2 })),
  )
    where
      go : (b : Bool) → header_good f s ≡ b → walk_file f s never ≡ fault (suc k) m → (header_good f s ≡ true) × FirstBad f s k m
      go true h e =
          let t = walk_bad f s never 0 (count_of s) (suc k) m (sym (file_walk f s never h) ∙ e) in
          let q : k ≡ t.0 = omega (arith, t.1) in
          rw q (h, (omega (arith, t.2.high), λ j l. t.2.good j (omega arith) l, t.2.bad))
      go false h e = let x = file_fault f s never h in absurd (let z : ◌≡◌ {A = ℕ} 0 (suc k) = cc in omega arith)
