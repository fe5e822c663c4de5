-- `digits_in` meets its contract: one length without a fraction, six with one, where there is a time. Assumes nothing.
use Rattle.std.proofs.Common.{sym, ⊎_elim, arith}
use Rattle.values.specs.Meaning.{kind_from}
use Rattle.text.proofs.DigitsFound.{whole_small, found_whole, none_plain, none_part, found_part}
use Rattle.text.proofs.lengths.digits_in.Goals as goal

pub returns-then-octets-whole : goal.returns-then-octets-whole
returns-then-octets-whole c = found_whole _ _ _ c.whole_length-whole.ensures c.if-octets-whole.true

pub returns-then-not-timed : goal.returns-then-not-timed
returns-then-not-timed c = omega (arith, none_plain _ _ _ c.whole_length-whole.ensures c.if-octets-whole.false (sym c.if-not-timed.ensures))

pub overflow_add-shortest : goal.overflow_add-shortest
overflow_add-shortest c = omega (arith, c.whole_length-whole.ensures, whole_small (kind_from c.args.kind))

pub overflow_add-longest : goal.overflow_add-longest
overflow_add-longest c = omega (arith, c.whole_length-whole.ensures, whole_small (kind_from c.args.kind))

pub overflow_add-longest-2 : goal.overflow_add-longest-2
overflow_add-longest-2 c = omega (arith, c.whole_length-whole.ensures, whole_small (kind_from c.args.kind))

pub returns-then-octets-shortest : goal.returns-then-octets-shortest
returns-then-octets-shortest c =
    let none = none_part _ _ _ c.whole_length-whole.ensures (sym c.if-not-timed.ensures) c.if-octets-whole.false
    (λ a b. ⊎_elim (λ e. omega (arith, a, e)) (λ e. omega (arith, b, e.1)) c.then-octets-shortest.either) in
    omega (arith, none)

pub returns : goal.returns
returns c = found_part _ _ _ c.whole_length-whole.ensures (sym c.if-not-timed.ensures) c.if-octets-shortest.false (omega (arith, c.if-longest-octets.false))
