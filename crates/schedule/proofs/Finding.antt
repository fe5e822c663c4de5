-- The records that are shown: by their place, and by their channel. Assumes nothing.
--     shown_is                    what the fields of a record show with its instant is the record at its place
--     last_here, last_below       the last record of a channel, sought from behind: at a place, or below it
--     last_place_le, held_last    it is one of those, and the one that holds
--     held_before                 a later record behind them changes nothing
use mathlib.Core.Path.{◌≡◌, refl, ap, ◌∙◌}
use mathlib.Core.Bool.{Bool, true, false}
use mathlib.Core.List.{List}
use Prim.Native.Nat.{ℕ, zero, suc, ◌+◌, ◌-◌, ◌≤◌, ◌<◌}
use native.Mathlib.Omega.{arith}
use lib.Dec.{eqb}
use lib.IntN.{ℤ}
use lib.Signed.{le_z}
use borrow.Author.Tests.{eq-eqb, ne_eqb}
use Rattle.format.specs.Words.{pick, refused}
use Rattle.card.specs.Header.{twelve, stamps_start}
use Rattle.card.specs.Records.{channel_at, instant_at, Record, record_at, records_from, in_file}
use Rattle.card.specs.Reading.{refused_at, full_reading, record_asked}
use Rattle.card.specs.Question.{Held, none_yet, holds, held_by, last_from, last_of, held_in_file}
use Rattle.schedule.specs.Meaning.{record_from}
use Rattle.std.specs.Prelude.{Some, None}
use Rattle.schedule.specs.declared.Record.{Record as Given}
use Rattle.schedule.specs.Steps.{fields_in, shown, held_at, last_place, Latest}

pub asked_refused : (s : List ℕ) (p q m : ℕ) → full_reading twelve s ≡ refused_at q m → record_asked twelve s p ≡ refused m
unfolding record_asked
asked_refused s p q m e = rw e

-- ---- by its place

pub shown_is : (s : List ℕ) (p n : ℕ) (t : ℤ) → 0 < p → n ≡ stamps_start twelve s → t ≡ instant_at twelve s (p - 1)
    → record_from (shown (record { fields = fields_in s (p - 1); instant = t }) p n) ≡ in_file twelve s (record_at twelve s (p - 1))
unfolding record_at
shown_is s zero n t l e q = absurd (omega arith)
shown_is s (suc i) n t l e q = let z : suc i - 1 ≡ i = omega arith in rw (e, q, z)

pub held_shown : (s : List ℕ) (p : ℕ) (r : Record) → 0 < p → r ≡ in_file twelve s (record_at twelve s (p - 1)) → holds r ≡ held_in_file twelve s (held_at s p)
held_shown s zero r l e = absurd (omega arith)
held_shown s (suc i) r l e = let z : suc i - 1 ≡ i = omega arith in ap holds (rw z at e)

-- ---- by its channel

module _ (s : List ℕ) where
  last-behind : (p : Record → Bool) (h : Held) (i n j : ℕ) → j ≡ i + n
      → last_from p h (records_from twelve s i (suc n)) ≡ pick (p (record_at twelve s j)) (holds (record_at twelve s j)) (last_from p h (records_from twelve s i n))
  unfolding last_from records_from
  last-behind p h i zero j e = let z : j ≡ i = omega arith in rw z
  last-behind p h i (suc n) j e = last-behind p (pick (p (record_at twelve s i)) (holds (record_at twelve s i)) h) (suc i) n j (omega arith)

  pub last_place_le : (c n : ℕ) → last_place s c n ≤ n
  unfolding last_place
  last_place_le c zero = omega arith
  last_place_le c (suc n) = go (eqb (channel_at twelve s n) c) (last_place_le c n)
    where
      go : (b : Bool) → last_place s c n ≤ n → pick b (suc n) (last_place s c n) ≤ suc n
      go true l = omega arith
      go false l = omega arith

  module _ (c : ℕ) where
    pub last_here : (p : ℕ) → 0 < p → channel_at twelve s (p - 1) ≡ c → last_place s c p ≡ p
    unfolding last_place
    last_here zero l e = absurd (omega arith)
    last_here (suc i) l e =
        let z : suc i - 1 ≡ i = omega arith in
        let q : channel_at twelve s i ≡ c = rw z at e in
        rw (eq-eqb (channel_at twelve s i) c q)

    pub last_below : (p : ℕ) → 0 < p → (channel_at twelve s (p - 1) ≡ c → ⊥) → last_place s c (p - 1) ≡ last_place s c p
    unfolding last_place
    last_below zero l e = absurd (omega arith)
    last_below (suc i) l e =
        let z : suc i - 1 ≡ i = omega arith in
        let q : channel_at twelve s i ≡ c → ⊥ = rw z at e in
        rw (z, ne_eqb (channel_at twelve s i) c q)

    pub last_none : last_place s c 0 ≡ 0
    unfolding last_place
    last_none = refl

  module _ (t : ℤ) (c : ℕ) where
    channel-asked : (i : ℕ) → le_z (instant_at twelve s i) t ≡ true → held_by t c (record_at twelve s i) ≡ eqb (channel_at twelve s i) c
    unfolding held_by record_at
    channel-asked i e = rw e

    later-asked : (i : ℕ) → le_z (instant_at twelve s i) t ≡ false → held_by t c (record_at twelve s i) ≡ false
    unfolding held_by record_at
    later-asked i e = rw e

    pub held_last : (m : ℕ) → ((j : ℕ) → j < m → le_z (instant_at twelve s j) t ≡ true) → last_of (held_by t c) (records_from twelve s 0 m) ≡ held_at s (last_place s c m)
    unfolding last_place last_from records_from
    held_last zero f = refl
    held_last (suc m) f =
        last-behind (held_by t c) none_yet 0 m m (omega arith)
        ∙ ap (λ b. pick b (holds (record_at twelve s m)) (last_of (held_by t c) (records_from twelve s 0 m))) (channel-asked m (f m (omega arith)))
        ∙ go (eqb (channel_at twelve s m) c) (held_last m (λ j l. f j (omega arith)))
      where
        go : (b : Bool) → last_of (held_by t c) (records_from twelve s 0 m) ≡ held_at s (last_place s c m)
            → pick b (holds (record_at twelve s m)) (last_of (held_by t c) (records_from twelve s 0 m)) ≡ held_at s (pick b (suc m) (last_place s c m))
        go true e = refl
        go false e = e

    pub held_before : (m : ℕ) → le_z (instant_at twelve s m) t ≡ false
        → last_of (held_by t c) (records_from twelve s 0 (suc m)) ≡ last_of (held_by t c) (records_from twelve s 0 m)
    held_before m e =
        last-behind (held_by t c) none_yet 0 m m (omega arith)
        ∙ ap (λ b. pick b (holds (record_at twelve s m)) (last_of (held_by t c) (records_from twelve s 0 m))) (later-asked m e)

-- ---- the last of a channel, as it stands in the file

pub latest_none : (s : List ℕ) (c n : ℕ) → last_place s c n ≡ 0 → Latest s c n None
latest_none s c n e = rw e

pub latest_some : (s : List ℕ) (c n p : ℕ) (r : Given) → 0 < p → last_place s c n ≡ p → record_from r ≡ in_file twelve s (record_at twelve s (p - 1)) → Latest s c n (Some r)
latest_some s c n p r l e h = rw e (held_shown s p (record_from r) l h)
