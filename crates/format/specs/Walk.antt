-- For the calendar: stretches of given lengths, one after the other, such as the years or a year's months.
--
--   sum_from len k j   how much lies in the j stretches from the k-th on: len k + len (k + 1) + ..
--   place len f k n    in which stretch n lies, counted from the start of the k-th, and how far in; f more stretches are tried after it
use Rattle.std.specs.Prelude.{ℕ, zero, suc, ◌+◌, ◌-◌, true, false, ltb}

unfoldable pub sum_from : (ℕ → ℕ) → ℕ → ℕ → ℕ
sum_from len k zero = 0
sum_from len k (suc j) = len k + sum_from len (suc k) j

-- the stretch, and how far in
pub record Place : Type 0 where
  pub index : ℕ
  pub rest : ℕ

-- the stretches are taken off one after the other
unfoldable pub place : (ℕ → ℕ) → ℕ → ℕ → ℕ → Place
place len zero k n = record { index = k; rest = n }
place len (suc f) k n =
    elim (ltb n (len k)) [ true ↦ record { index = k; rest = n } | false ↦ place len f (suc k) (n - len k) ]
