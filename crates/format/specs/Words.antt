-- Document 01 as definitions: the words that the other files are written in. Read the files in the order of `Lib.antt`, which follows 01's.
-- Each opens with a legend, a line a name, and each definition names its place in 01 (or X.690). This is the legend of what is not ours:
--
--   ℕ                a number 0, 1, 2, ..: `/` rounds down, `%` is what is over, `^` is a power, and `a - b` is 0 where b is greater;
--                    `zero` is 0, `suc n` is n + 1, `max a b` the greater one
--   ℤ                an integer: `pos n` is n, `negsuc n` is -(n + 1); `nat_abs x`, or `unsigned_abs x`, is its size, `non_neg x` says that it is not
--                    below 0, `mag x` is n of n and of -(n + 1), `sub_ℕ a b` is a - b, `neg_ℤ x` is -x, `+ℤ` and `*ℤ` are sum and product
--   List ℕ           octets, first to last: `[]` none, `x ∷ s` x and then s, `a ++ b` a and then b
--   length s         how many; `get_or s i 0`, or `slice_index s i`, the one at place i, from 0 on; `take n s` the first n, `drop n s` the others;
--                    `slice_set s i x` is s with x at place i
--   Bool             a test's outcome: `leb a b`, or `nat_le a b`, is a ≤ b; `ltb a b`, or `nat_lt a b`, is a < b; `eqb a b`, or `a == b`, is a = b;
--                    `not t` the opposite
--   v.date.year      a part of a part of v; `record { .. }` lists the parts
--   let n = a in b   b, where n stands for a
--   cond t a b       a where the test t holds, else b; `elim t [ true ↦ a | false ↦ b ]` too, which computes only the one that is taken
--   f a b            f of a and b; a definition's first line says what it takes and, behind the last arrow, what it gives
--
-- and of what this file adds:
--
--   pick t a b     a where the test t holds, else b
--   both, either   both tests hold; one of the two does
--   needs t u      where t holds, u has to
--   if_any t n     n where t holds, else 0
--   accepted a     a call is accepted, and comes to a
--   refused n      a call is refused with the number n
--   unless t n o   refused with n unless the test t holds; then o: a line for each test, in the order in which they are made
--
-- A definition has no hidden effect: it stands for what is right of its `=`, by cases where it has several lines.
use Rattle.std.specs.Prelude.{Bool, true, false, ℕ}

abbrev pub pick : {A : Type 0} → Bool → A → A → A
pick true a b = a
pick false a b = b

abbrev pub both : Bool → Bool → Bool
both true b = b
both false b = false

abbrev pub either : Bool → Bool → Bool
either true b = true
either false b = b

abbrev pub needs : Bool → Bool → Bool
needs true b = b
needs false b = true

abbrev pub if_any : Bool → ℕ → ℕ
if_any b n = pick b n 0

-- 01, Refusal numbers: a value, or the number of the first refusal that applies and no value
pub data Outcome (A : Type 0) : Type 0 where
  accepted : A → Outcome A
  refused : ℕ → Outcome A

abbrev pub unless : {A : Type 0} → Bool → ℕ → Outcome A → Outcome A
unless true n o = o
unless false n o = refused n
