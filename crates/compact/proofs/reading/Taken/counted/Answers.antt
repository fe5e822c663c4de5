-- `Taken::counted` meets its contract: the two tests in the order of their numbers; in its range the number is not below the least.
-- Assumes nothing.
use mathlib.Core.Path.{◌≡◌, sym, ◌∙◌, ap}
use mathlib.Core.Bool.{true}
use native.Mathlib.Omega.{arith}
use lib.IntN.{pos, nat_abs, ◌-ℤ◌}
use mir.Syntax.{w32, w64}
use mir.Val.{SFits, to_z, of_z}
use mir.Facts.{to_z-of_z}
use borrow.Author.Rules.{rules, sfits_of}
use Rattle.std.specs.Option.{is_some, unwrap_or}
use Rattle.format.specs.Compact.{start}
use Rattle.format.specs.CompactReading.{counted, number_in_range}
use Rattle.values.specs.Meaning.{kind_from}
use Rattle.octets.proofs.Integers.{unsigned}
use Rattle.compact.specs.Meaning.{read_taken}
use Rattle.compact.proofs.Flags.{count_made, count_small, day_small, time_small}
use Rattle.compact.proofs.reading.Taken.counted.Goals as goal
use Rattle.compact.proofs.reading.Taken.counted.Goals.{After-least_number}

number : (c : After-least_number) → to_z w64 (of_z w64 c.args.self.number) ≡ c.args.self.number
number c = to_z-of_z {w = w64} (sfits_of (search rules))

limits : (c : After-least_number) → number_in_range (kind_from c.args.kind) (is_some c.args.self.offset) c.args.self.number ≡ true
limits c = sym (rw (c.is_some.ensures, number c) at c.if-not-number_in_range.ensures)

from_least : (c : After-least_number)
    → to_z w64 (of_z w64 c.args.self.number) -ℤ to_z w64 (of_z w64 c.least_number.result) ≡ pos (counted (start (kind_from c.args.kind)) c.args.self.number)
from_least c =
    rw (number c, to_z-of_z {w = w64} (record { sfits = c.least_number.type_inv }), c.least_number.ensures) (count_made (kind_from c.args.kind) _ c.args.self.number (limits c))

room : (c : After-least_number) → SFits w64 (to_z w64 (of_z w64 c.args.self.number) -ℤ to_z w64 (of_z w64 c.least_number.result))
room c = rw (from_least c) (sfits_of (omega (arith, count_small (kind_from c.args.kind) _ c.args.self.number (limits c))))

count : (c : After-least_number)
    → nat_abs (to_z w64 (of_z w64 (to_z w64 (of_z w64 c.args.self.number) -ℤ to_z w64 (of_z w64 c.least_number.result)))) ≡ counted (start (kind_from c.args.kind)) c.args.self.number
count c = ap nat_abs (to_z-of_z (room c) ∙ from_least c)

pub overflow_sub-result : goal.overflow_sub-result
overflow_sub-result c = room (goal.at.overflow_sub-result c).After-least_number

pub overflow_cast-result : goal.overflow_cast-result
overflow_cast-result c =
    let d = (goal.at.overflow_cast-result c).After-least_number in
    unsigned w64 _ (counted (start (kind_from c.args.kind)) c.args.self.number) (to_z-of_z (room d) ∙ from_least d) (omega (arith, count_small (kind_from c.args.kind) _ c.args.self.number (limits d)))

pub invariant_of-result : goal.invariant_of-result
invariant_of-result c =
    let d = (goal.at.invariant_of-result c).After-least_number in
    rw (count d) (record {
      has_day = λ e. omega (arith, day_small (kind_from c.args.kind) _ c.args.self.number (limits d) e);
      within_day = time_small (kind_from c.args.kind) _ c.args.self.number (limits d);
    })

pub returns-clause-value : goal.returns-clause-value
unfolding read_taken
returns-clause-value c =
    let d = (goal.at.returns-clause-value c).After-least_number in
    let m : c.new-offset.result.minutes ≡ unwrap_or c.args.self.offset (pos 0) = rw c.new-offset.ensures (to_z-of_z {w = w32} (record { sfits = c.unwrap_or.type_inv }) ∙ c.unwrap_or.ensures) in
    rw (c.if-not-self.false, count d, ← m, ← c.if-not-in_range.ensures, limits d)
