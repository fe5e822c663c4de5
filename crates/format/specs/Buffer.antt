-- What a writer answers and leaves in the buffer that it was lent. (01, Refusal numbers: 4, and what stays as lent.)
--
--   counts o room   the count of octets, or the refusal, by the buffer's length; o is what writing comes to
--   leaves o lent   the buffer afterwards
use Rattle.std.specs.Prelude.{ℕ, List, ◌++◌, leb, length, drop}
use Rattle.format.specs.Words.{pick, Outcome, accepted, refused, unless}

-- 4, the buffer is shorter than the image
abbrev pub counts : Outcome (List ℕ) → ℕ → Outcome ℕ
counts (accepted xs) room = unless (leb (length xs) room) 4 (accepted (length xs))
counts (refused n) room = refused n

-- the image in front, and octets past it stay as lent; after a refusal all stay as lent
abbrev pub leaves : Outcome (List ℕ) → List ℕ → List ℕ
leaves (accepted xs) lent = pick (leb (length xs) (length lent)) (xs ++ drop (length xs) lent) lent
leaves (refused n) lent = lent
