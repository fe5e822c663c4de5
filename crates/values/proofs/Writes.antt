-- How a writer keeps its promise, for any image: refused before the buffer is looked at; the buffer too short; the image stored in front.
-- Assumes nothing.
use mathlib.Core.Path.{◌≡◌, refl, ◌∙◌}
use mathlib.Core.List.{List}
use Prim.Native.Nat.{ℕ, ◌<◌, ◌≤◌}
use native.Mathlib.Nat.{zero-add}
use lib.ListN.{length}
use lib.Seq.{sets, sets-eq}
use borrow.Author.Tests.{le-leb, lt-leb}
use Rattle.format.specs.Words.{accepted, refused}
use Rattle.values.specs.Promise.{Left}

pub refuses : (n : ℕ) (lent : List ℕ) → Left (refused n) lent n 0 lent
refuses n lent = record { number = refl; count = refl; buffer = refl }

pub short : (xs lent : List ℕ) → length lent < length xs → Left (accepted xs) lent 4 0 lent
short xs lent h =
    let e = lt-leb (length xs) (length lent) h in
    record { number = rw e; count = rw e; buffer = rw e }

pub stored : (xs lent left : List ℕ) (k : ℕ) → k ≡ length xs → length xs ≤ length lent → left ≡ sets lent 0 xs → Left (accepted xs) lent 0 k left
stored xs lent left k n h l =
    let e = le-leb (length xs) (length lent) h in
    record { number = rw e; count = rw e n; buffer = rw e (l ∙ rw zero-add at (sets-eq xs lent 0 (rw zero-add h))) }
