-- `digit_by_digit` meets its contract. The loop's invariant: the octets passed are digits, and `number` is theirs. Assumes nothing.
use Rattle.std.proofs.Common.{◌≡◌, true}
use Rattle.format.specs.Digits.{are_digits, number_at}
use Rattle.text.proofs.fraction.digit_by_digit.Given as goal

abbrev pub invariant-loop-octet : goal.invariant-loop-octet
invariant-loop-octet l = (are_digits l.s l.first l.octet-index ≡ true) × (l.number ≡ number_at l.s l.first l.octet-index)
