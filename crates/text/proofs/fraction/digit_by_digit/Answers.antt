-- `digit_by_digit` meets its contract. The loop's invariant: the octets passed are digits, and `number` is theirs. Assumes nothing.
use Rattle.std.proofs.Common.{◌≡◌, ◌+◌, ◌<◌, ◌≤◌, true, length, refl, arith}
use Rattle.format.specs.Digits.{are_digits, number_at}
use Rattle.format.proofs.Decimal.{more_digits, more_number, number_small}
use Rattle.text.proofs.PartLaws.{part_none, part_no_point, part_no_digit, part_done, part_width, few_digits, counted_small, slice_long, slice_octet, no_digit}
use Rattle.text.proofs.fraction.digit_by_digit.Goals as goal
use Rattle.text.proofs.fraction.digit_by_digit.Goals.{Else-s-at-ne46, Else-not-is_ascii_digit, After-fraction_unit}

-- the slice is inside the text
inside : (c : Else-s-at-ne46) → c.args.at + 1 + c.args.digits.number ≤ length c.args.s.now
inside c = omega (arith, c.requires, part_width c.args.digits.number c.if-digits-eq0.false)

-- at most five digits are passed before another
room : (c : Else-not-is_ascii_digit) → c.loop-octet.number < 100000
room c =
    let l = c.loop-octet in
    let here : c.args.at + 1 + c.args.digits.number ≤ length c.args.s.now = omega (arith, c.requires, part_width c.args.digits.number c.if-digits-eq0.false) in
    let o = slice_octet c.args.s.now (c.args.at + 1) c.args.digits.number here l.octet-index c.loop-octet-test.true in
    rw l.invariant.1 (few_digits l.octet-index _ (omega (arith, o.0, c.args.digits.few)) (number_small _ _ l.octet-index l.invariant.0))

-- behind the loop all are
whole : (c : After-fraction_unit) → (are_digits c.args.s.now (c.args.at + 1) c.args.digits.number ≡ true) × (c.loop-octet.number ≡ number_at c.args.s.now (c.args.at + 1) c.args.digits.number)
whole c =
    let l = c.loop-octet in
    let here : c.args.at + 1 + c.args.digits.number ≤ length c.args.s.now = omega (arith, c.requires, part_width c.args.digits.number c.if-digits-eq0.false) in
    let e : l.octet-index ≡ c.args.digits.number = omega (arith, slice_long c.args.s.now (c.args.at + 1) c.args.digits.number here, c.loop-octet-test.false, l.auto.octet-index-end) in
    rw e at l.invariant

pub returns-then-digits-eq0 : goal.returns-then-digits-eq0
returns-then-digits-eq0 c = part_none _ _ _ c.if-digits-eq0.true

pub bounds-s-at : goal.bounds-s-at
bounds-s-at c = omega (arith, c.requires, part_width c.args.digits.number c.if-digits-eq0.false)

pub returns-then-s-at-ne46 : goal.returns-then-s-at-ne46
returns-then-s-at-ne46 c = part_no_point _ _ _ c.if-digits-eq0.false c.if-s-at-ne46.true

pub slice_bounds-octet-items-end : goal.slice_bounds-octet-items-end
slice_bounds-octet-items-end c = omega (arith, c.requires, part_width c.args.digits.number c.if-digits-eq0.false)

pub loop-octet-init : goal.loop-octet-init
unfolding are_digits number_at
loop-octet-init c = (refl, refl)

pub returns-then-not-is_ascii_digit : goal.returns-then-not-is_ascii_digit
returns-then-not-is_ascii_digit c =
    let o = slice_octet _ _ _ (inside (goal.at.returns-then-not-is_ascii_digit c).Else-s-at-ne46) c.loop-octet.octet-index c.loop-octet-test.true in
    part_no_digit _ _ _ c.if-digits-eq0.false c.loop-octet.octet-index o.0 (rw o.1 at (no_digit _ c.if-not-is_ascii_digit.ensures.cases))

pub overflow_mul-number : goal.overflow_mul-number
overflow_mul-number c = omega (arith, room (goal.at.overflow_mul-number c).Else-not-is_ascii_digit)

pub overflow_add-number : goal.overflow_add-number
overflow_add-number c = omega (arith, room (goal.at.overflow_add-number c).Else-not-is_ascii_digit, c.if-not-is_ascii_digit.ensures.cases.1)

pub loop-octet-preserved : goal.loop-octet-preserved
loop-octet-preserved c =
    let l = c.loop-octet in
    let o = slice_octet _ _ _ (inside (goal.at.loop-octet-preserved c).Else-s-at-ne46) l.octet-index c.loop-octet-test.true in
    let d = rw o.1 at c.if-not-is_ascii_digit.ensures.cases in
    (more_digits _ _ l.octet-index l.invariant.0 d.0 d.1, rw (more_number _ _ l.octet-index, ← l.invariant.1, o.1))

pub overflow_mul-result : goal.overflow_mul-result
overflow_mul-result c =
    let w = whole (goal.at.overflow_mul-result c).After-fraction_unit in
    omega (arith, counted_small _ _ _ c.args.digits.few w.0 _ _ w.1 c.fraction_unit.ensures)

pub returns : goal.returns
returns c =
    let w = whole (goal.at.returns c).After-fraction_unit in
    part_done _ _ _ c.if-digits-eq0.false c.if-s-at-ne46.false w.0 _ _ w.1 c.fraction_unit.ensures
