-- No two different answers meet the promise of a C function. Assumes nothing.
use Prim.Native.Nat.{ℕ}
use Rattle.format.specs.Promises.{OneAnswer}
use Rattle.format.proofs.Promises.{equal_one}
use Rattle.measured.specs.Measured.{NumberForC, DateForC}

pub one_number : (year month day : ℕ) → OneAnswer (NumberForC year month day)
one_number year month day = equal_one _

pub one_date : (n : ℕ) → OneAnswer (DateForC n)
one_date n = equal_one _
