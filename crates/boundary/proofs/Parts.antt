-- The eight numbers as the machine casts them, and that the microseconds of what is read are few enough for that. Assumes nothing.
use mathlib.Core.Path.{◌≡◌, refl, sym, ◌∙◌, ap}
use mathlib.Core.Bool.{Bool, true, false}
use mathlib.Core.List.{List, [], ◌∷◌}
use Prim.Native.Nat.{ℕ, ◌<◌, ◌≤◌, ◌^◌}
use native.Mathlib.Omega.{arith}
use lib.IntN.{ℤ, pos}
use borrow.Author.Tests.{leb-true}
use denote.Enum.Declared.{tag_of}
use types.Run.{OneOf, miss}
use mir.Syntax.{w32, w64}
use mir.Val.{SFits, to_z, of_z}
use mir.Facts.{to_z-of_z, sfits_widen}
use Rattle.format.specs.Words.{needs, if_any, accepted}
use Rattle.format.specs.Octets.{Octets}
use Rattle.format.specs.Calendar.{is_day}
use Rattle.format.specs.Values.{Kind, Date, DateTz, Time, TimeTz, Datetime, DatetimeTz, dated, timed, Value, end_of_day, time_in_range, in_range, Answer}
use Rattle.format.specs.Reading.{read}
use Rattle.format.specs.Keeping.{own}
use Rattle.values.specs.declared.answers.Decoded.{Decoded}
use Rattle.values.specs.declared.answers.Decoded.TheVariants as D
use Rattle.values.specs.contracts.answers.Decoded.{the_type}
use Rattle.values.specs.Answers.{decoded}
use Rattle.values.specs.Meaning.{kind_number}
use Rattle.format.proofs.Cases.{both_true}
use Rattle.format.proofs.Round.{was_read}
use Rattle.format.proofs.Kept.{read_owned}

-- ---- casts

pub unsigned_kept : (n : ℕ) → n < 2 ^ 63 → to_z w64 n ≡ pos n
unsigned_kept n h = to_z-of_z {w = w64} (record { sfits = h })

signed_kept : (x : ℤ) → SFits w32 x → to_z w64 (of_z w64 (to_z w32 (of_z w32 x))) ≡ x
signed_kept x f = rw (to_z-of_z f) (to_z-of_z {w = w64} (sfits_widen tt f))

pub five_kept : (year month day micros : ℕ) (offset : ℤ)
    → year < 2 ^ 32 → month < 2 ^ 32 → day < 2 ^ 32 → micros ≤ end_of_day → SFits w32 offset
    → ◌≡◌ {A = List ℤ}
    (to_z w64 year ∷ to_z w64 month ∷ to_z w64 day ∷ to_z w64 micros ∷ to_z w64 (of_z w64 (to_z w32 (of_z w32 offset))) ∷ [])
    (pos year ∷ pos month ∷ pos day ∷ pos micros ∷ offset ∷ [])
five_kept year month day micros offset y m a u o =
    rw (
      unsigned_kept year (omega arith),
      unsigned_kept month (omega arith),
      unsigned_kept day (omega arith),
      unsigned_kept micros (omega arith),
      signed_kept offset o,
    )

pub eight_kept : (kind form digits year month day micros : ℕ) (offset : ℤ)
    → kind < 2 ^ 32 → form < 2 ^ 32 → digits < 2 ^ 32 → year < 2 ^ 32 → month < 2 ^ 32 → day < 2 ^ 32 → micros ≤ end_of_day → SFits w32 offset
    → ◌≡◌ {A = List ℤ}
    (to_z w64 kind ∷ to_z w64 form ∷ to_z w64 digits ∷ to_z w64 year ∷ to_z w64 month ∷ to_z w64 day ∷ to_z w64 micros ∷ to_z w64 (of_z w64 (to_z w32 (of_z w32 offset))) ∷ [])
    (pos kind ∷ pos form ∷ pos digits ∷ pos year ∷ pos month ∷ pos day ∷ pos micros ∷ offset ∷ [])
eight_kept kind form digits year month day micros offset k f d y m a u o =
    rw (unsigned_kept kind (omega arith), unsigned_kept form (omega arith), unsigned_kept digits (omega arith), five_kept year month day micros offset y m a u o)

-- ---- microseconds

-- those of a kind without a time are 0
few : (b : Bool) (m : ℕ) → if_any b m ≡ m → needs b (time_in_range m) ≡ true → m ≤ end_of_day
unfolding time_in_range
few true m e r = leb-true m end_of_day r
few false m e r = omega arith

pub micros_read : (k : Kind) (xs : List ℕ) (a : Answer) → Octets xs → read k xs ≡ accepted a → a.value.micros ≤ end_of_day
unfolding in_range own
micros_read k xs a o e =
    let r = (both_true (needs (dated k) (is_day a.value.date)) _ (was_read k xs a o e).from.range).1 in
    few (timed k) a.value.micros (ap (λ (v : Value). v.micros) (read_owned k xs a o e)) (both_true (needs (timed k) (time_in_range a.value.micros)) _ r).0

-- ---- what the reader of a kind answers

-- the code tells the kinds apart by a number, which is the kind's
tag_kind : (d : Decoded) → tag_of the_type d ≡ kind_number (decoded d).kind
tag_kind (D.Date a) = refl
tag_kind (D.DateTz a) = refl
tag_kind (D.Time a) = refl
tag_kind (D.TimeTz a) = refl
tag_kind (D.Datetime a) = refl
tag_kind (D.DatetimeTz a) = refl

-- the numbers of the other kinds
abbrev others : Kind → List ℕ
others Date = 1 ∷ 2 ∷ 3 ∷ 4 ∷ 5 ∷ []
others DateTz = 0 ∷ 2 ∷ 3 ∷ 4 ∷ 5 ∷ []
others Time = 0 ∷ 1 ∷ 3 ∷ 4 ∷ 5 ∷ []
others TimeTz = 0 ∷ 1 ∷ 2 ∷ 4 ∷ 5 ∷ []
others Datetime = 0 ∷ 1 ∷ 2 ∷ 3 ∷ 5 ∷ []
others DatetimeTz = 0 ∷ 1 ∷ 2 ∷ 3 ∷ 4 ∷ []

apart : (k : Kind) → OneOf (others k) (kind_number k) → ⊥
apart Date = miss (others Date) 0 tt
apart DateTz = miss (others DateTz) 1 tt
apart Time = miss (others Time) 2 tt
apart TimeTz = miss (others TimeTz) 3 tt
apart Datetime = miss (others Datetime) 4 tt
apart DatetimeTz = miss (others DatetimeTz) 5 tt

module _ (k : Kind) (xs : List ℕ) (d : Decoded) (o : Octets xs) (e : accepted (decoded d) ≡ read k xs) where
  -- no other kind
  pub no_other : OneOf (others k) (tag_of the_type d) → ⊥
  no_other m =
      let n : tag_of the_type d ≡ kind_number k = tag_kind d ∙ ap (λ (a : Answer). kind_number a.kind) (was_read k xs (decoded d) o (sym e)).answer in
      apart k (rw n at m)

  -- a time in range
  pub in_day_lem : (decoded d).value.micros ≤ end_of_day
  in_day_lem = micros_read k xs (decoded d) o (sym e)
