-- What writing and reading come to at a kind that was looked up by its number. Assumes nothing.
use mathlib.Core.Path.{◌≡◌, ap}
use mathlib.Core.List.{List}
use Prim.Native.Nat.{ℕ, ◌≤◌}
use native.Mathlib.Omega.{arith}
use lib.IntN.{ℤ}
use borrow.Author.Tests.{ne_eqb}
use Rattle.format.specs.Words.{Outcome, refused}
use Rattle.format.specs.Values.{Kind, Value, Settings, Answer}
use Rattle.format.specs.Promises.{number_of}
use Rattle.format.specs.Writing.{encode}
use Rattle.format.specs.Keeping.{owned}
use Rattle.values.specs.Promise.{Left}
use Rattle.format.proofs.Kept.{encode_owned}
use Rattle.values.specs.Meaning.{kind_numbered}
use Rattle.boundary.specs.Boundary.{writing_as, writing, reading_as, reading_of, parts_after, ReadsNumbered}

pub writing_at : (n : ℕ) (t : Settings) (v : Value) (o : Outcome Kind) → o ≡ kind_numbered n → writing n t v ≡ writing_as o t v
unfolding writing
writing_at n t v o e = rw e

-- what the writer of a kind leaves, whatever stands in the parts that the kind lacks
pub left_owned : (k : Kind) (t : Settings) (v : Value) (lent : List ℕ) (n c : ℕ) (left : List ℕ) → Left (encode k t (owned k v)) lent n c left → Left (encode k t v) lent n c left
left_owned k t v lent n c left p = rw (encode_owned k t v) at p

-- a number that is none of the either-or readers'
pub reading_at_lem : (n : ℕ) (s : List ℕ) (o : Outcome Kind) → (n ≡ 6 → ⊥) → (n ≡ 7 → ⊥) → (n ≡ 8 → ⊥) → o ≡ kind_numbered n → reading_as o s ≡ reading_of n s
unfolding reading_of
reading_at_lem n s o a b c e = rw (ne_eqb n 6 a, ne_eqb n 7 b, ne_eqb n 8 c, e)

-- one from 6 on is none of the six kinds'
pub beyond : (n : ℕ) → 6 ≤ n → refused 2 ≡ kind_numbered n
unfolding kind_numbered
beyond n h =
    rw (
      ne_eqb n 0 (λ e. omega arith),
      ne_eqb n 1 (λ e. omega arith),
      ne_eqb n 2 (λ e. omega arith),
      ne_eqb n 3 (λ e. omega arith),
      ne_eqb n 4 (λ e. omega arith),
      ne_eqb n 5 (λ e. omega arith),
    )

-- how the reader keeps its promise, by what reading comes to
pub keeps : (n : ℕ) (s : List ℕ) (lent : List ℤ) (o : Outcome Answer) → o ≡ reading_of n s → ReadsNumbered n s lent (number_of o) (parts_after o lent)
keeps n s lent o e = record { number = ap number_of e; parts = ap (λ (x : Outcome Answer). parts_after x lent) e }
