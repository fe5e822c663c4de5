-- Five octets are four, and one behind them. Assumes nothing.
use Rattle.std.proofs.Common.{ℕ, ◌+◌, ◌*◌, ◌<◌, List, get_or, arith}
use Rattle.octets.specs.Words.{word, standing, Loads}

module _ (s : List ℕ) (at : ℕ) where
  pub four_small : (w : ℕ) → Loads (standing 4 s at) s w → w < 4294967296
  unfolding word
  four_small w l = omega (arith, l.number, l.octets at, l.octets (at + 1), l.octets (at + 2), l.octets (at + 3))

  pub five_loads : (w : ℕ) → Loads (standing 4 s at) s w → Loads (standing 5 s at) s (get_or s (at + 4) 0 * 4294967296 + w)
  unfolding word
  five_loads w l = record { number = omega (arith, l.number); octets = l.octets }
