-- `put_parts` meets its contract: each part has room, and one is stored behind the other. Assumes nothing.
use Rattle.std.proofs.Common.{arith}
use Rattle.format.specs.Values.{dated, zoned}
use Rattle.values.specs.Meaning.{value_from}
use Rattle.text.proofs.Wholes.{date_width, zone_width, parts_long}
use Rattle.text.proofs.TextWriters.{Ready, ready, written}
use Rattle.text.proofs.writers.put_parts.Given.{Over}
use Rattle.text.proofs.writers.put_parts.Goals as goal
use Rattle.text.proofs.writers.put_parts.Goals.{Start}

made_ready : (g : Over) (c : Start g) → Ready g.T.Stamp.kind c.args.digits.number (value_from c.args.value) c.args.end
made_ready g c = ready c.requires.0 c.args.digits.few c.requires.1

pub put_date_of-requires : goal.put_date_of-requires
put_date_of-requires g c =
    let r = made_ready g (goal.at.put_date_of-requires g c).Start in
    let k = g.T.Stamp.kind in
    (r.ranges.date, omega (arith, r.long, parts_long k c.args.digits.number, date_width (dated k), c.requires.2))

pub put_time_of-requires : goal.put_time_of-requires
put_time_of-requires g c =
    let r = made_ready g (goal.at.put_time_of-requires g c).Start in
    let k = g.T.Stamp.kind in
    (r.ranges.time, omega (arith, r.long, parts_long k c.args.digits.number, date_width (dated k), c.requires.2, c.put_date_of.auto.buf))

pub put_offset_of-requires : goal.put_offset_of-requires
put_offset_of-requires g c =
    let r = made_ready g (goal.at.put_offset_of-requires g c).Start in
    let k = g.T.Stamp.kind in
    (r.ranges.offset, omega (arith, r.long, parts_long k c.args.digits.number, zone_width (zoned k)), omega (arith, c.requires.2, c.put_date_of.auto.buf, c.put_time_of.auto.buf))

pub returns : goal.returns
returns g c = written (made_ready g (goal.at.returns g c).Start) c.requires.2 c.put_date_of.ensures c.put_time_of.ensures c.put_offset_of.ensures
