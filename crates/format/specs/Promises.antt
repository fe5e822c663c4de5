-- What promises are made of, for any call.
--
--   number_of o   the refusal's number, 0 for none
--   count_of o    the count of octets, 0 after a refusal
--   OneAnswer P   no two different answers meet the promise P
use Rattle.std.specs.Prelude.{ℕ, ◌≡◌}
use Rattle.format.specs.Words.{Outcome, accepted, refused}

-- 01, Bench examples: the refusal number (0 for none)
abbrev pub number_of : {A : Type 0} → Outcome A → ℕ
number_of (accepted a) = 0
number_of (refused n) = n

-- 01, Refusal numbers: a refused write its number and count 0; an accepted write returns the image's length
abbrev pub count_of : Outcome ℕ → ℕ
count_of (accepted n) = n
count_of (refused n) = 0

-- 01, What the promises have to say
abbrev pub OneAnswer : {A : Type 0} → (A → Type 0) → Type 0
OneAnswer P = (r r' : _) → P r → P r' → r ≡ r'
