-- `numbers_in` meets its contract: what it requires bounds the sum. Assumes nothing.
use Rattle.std.proofs.Common.{sym, refl, arith}
use Rattle.text.proofs.pairs.numbers_in.Goals as goal

pub returns-then-not-is_clean : goal.returns-then-not-is_clean
returns-then-not-is_clean c = sym c.if-not-is_clean.ensures

pub overflow_mul-result : goal.overflow_mul-result
overflow_mul-result c = omega (arith, c.requires (sym c.if-not-is_clean.ensures))

pub overflow_add-result : goal.overflow_add-result
overflow_add-result c = omega (arith, c.requires (sym c.if-not-is_clean.ensures))

pub returns : goal.returns
returns c = (sym c.if-not-is_clean.ensures, refl)
