-- `read` of the header meets its contract: its tests are those of the header described. Assumes nothing.
use mathlib.Core.Path.{sym, ap, ◌∙◌}
use Prim.Native.Nat.{◌+◌, ◌*◌}
use native.Mathlib.Omega.{arith}
use Rattle.card.specs.Header.{twelve, count_of, stamp_octets, stamps_start}
use Rattle.card.proofs.Exactly.{header_is, not_good}
use Rattle.schedule.proofs.header.Card.read.Goals as goal
use Rattle.schedule.proofs.header.Card.read.Goals.{then-records-eq0+else-octets-ne0, else-records-eq0}

pub returns-then-file-lt-RECORDS : goal.returns-then-file-lt-RECORDS
unfolding count_of stamp_octets stamps_start
returns-then-file-lt-RECORDS c = not_good twelve c.args.file.now (λ d. omega (arith, d.whole, c.if-file-lt-RECORDS.true))

pub returns-then-records-gt-MOST_RECORDS : goal.returns-then-records-gt-MOST_RECORDS
unfolding count_of stamp_octets stamps_start
returns-then-records-gt-MOST_RECORDS c = not_good twelve c.args.file.now (λ d. omega (arith, d.few, c.if-records-gt-MOST_RECORDS.true, c.take4-records.ensures))

pub returns-then-take4-ne-RECORDS : goal.returns-then-take4-ne-RECORDS
unfolding count_of stamp_octets stamps_start
returns-then-take4-ne-RECORDS c = not_good twelve c.args.file.now (λ d. c.if-take4-ne-RECORDS.true (c.take4.ensures ∙ d.records_follow))

pub returns-then-take4-stamps : goal.returns-then-take4-stamps
unfolding count_of stamp_octets stamps_start
returns-then-take4-stamps c = not_good twelve c.args.file.now (λ d. c.if-take4-stamps.true (c.take4-2.ensures ∙ d.stamps_follow ∙ sym (ap (λ n. 16 + 12 * n) c.take4-records.ensures)))

pub returns-then-stamps-octets : goal.returns-then-stamps-octets
unfolding count_of stamp_octets stamps_start
returns-then-stamps-octets c = not_good twelve c.args.file.now (λ d. c.if-stamps-octets.true (omega (arith, d.ends_file, c.take4-records.ensures, c.take4-octets.ensures)))

pub returns-then-octets-ne0 : goal.returns-then-octets-ne0
unfolding count_of stamp_octets stamps_start
returns-then-octets-ne0 c = not_good twelve c.args.file.now (λ d. c.if-octets-ne0.true (c.take4-octets.ensures ∙ d.none_none (sym c.take4-records.ensures ∙ c.if-records-eq0.true)))

pub invariant_of-result : goal.invariant_of-result
unfolding count_of stamp_octets stamps_start
invariant_of-result c =
    let n = c.take4-records in
    let l = c.take4-octets in
    record {
      in_octets = λ i. omega (arith, c.type_inv.file i);
      good = header_is twelve c.args.file.now
          (record {
            whole = omega (arith, c.if-file-lt-RECORDS.false);
            few = omega (arith, c.if-records-gt-MOST_RECORDS.false, n.ensures);
            records_follow = sym c.take4.ensures ∙ c.if-take4-ne-RECORDS.false;
            stamps_follow = sym c.take4-2.ensures ∙ c.if-take4-stamps.false ∙ ap (λ n. 16 + 12 * n) n.ensures;
            ends_file = omega (arith, c.if-stamps-octets.false, n.ensures, l.ensures);
            none_none = λ z.
                elim c.if-records-eq0.branch [
                  | then-records-eq0+else-octets-ne0 w ↦ sym l.ensures ∙ w.if-octets-ne0.false
                  | else-records-eq0 w ↦ absurd (w.if-records-eq0.false (n.ensures ∙ z))
                ];
          });
      counted = n.ensures;
      follow = ap (λ n. 16 + 12 * n) n.ensures;
      many = l.ensures;
    }
