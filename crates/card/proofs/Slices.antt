-- Slices of lists. Assumes nothing.
--     slice_length    a slice that lies within has its length
use mathlib.Core.Path.{◌≡◌}
use mathlib.Core.List.{List}
use Prim.Native.Nat.{ℕ, ◌+◌, ◌≤◌}
use native.Mathlib.Omega.{arith}
use lib.ListN.{length, take, drop, length-take, length-drop}

pub slice_length : (s : List ℕ) (a n : ℕ) → a + n ≤ length s → length (take n (drop a s)) ≡ n
slice_length s a n h = omega (arith, length-take n (drop a s), length-drop a s)
