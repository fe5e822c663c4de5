-- `read_asking` meets its contract: each part that was read tells what is known behind it, and each test of the refusal that it stands for. Assumes nothing.
use Rattle.text.proofs.Rows.{passes}
use Rattle.text.proofs.Texts.{too_many}
use Rattle.text.proofs.Places.{open_text, Opened, Headed, Front, Paired, Rear, Said, clock_with, date_room, date_wrong, date_read, joint_room, joint_wrong, joint_read, clock_room, clock_wrong, clock_read, clock_small, part_room, part_wrong, part_read, zone_room, zone_wrong, zone_read}
use Rattle.std.proofs.Common.{refl}
use Rattle.calendar.specs.Meaning.{day_from}
use Rattle.text.proofs.Answering.{is_redundant, not_redundant, no_time, no_zone_lem, all_but_the_day, in_day}
use Rattle.text.proofs.reading.read_asking.Given.{Over}
use Rattle.text.proofs.reading.read_asking.Goals as goal
use Rattle.text.proofs.reading.read_asking.Goals.{In-Some, In-Some-date_of, In-Some-joint_of, In-Some-clock_of, In-Some-fraction_of, After-new-clock}

-- what is known behind each step

opened : (g : Over) (c : In-Some g) → Opened g.T.Stamp.kind c.in-Some.digits.number c.args.s.now
opened g c = open_text c.in-Some.digits c.kind.ensures c.in-Some.ensures

headed : (g : Over) (c : In-Some-date_of g) → Headed g.T.Stamp.kind c.in-Some.digits.number c.args.s.now (day_from c.in-Some-date_of.date) c.in-Some-date_of.past_date.at
headed g c = date_read (open_text c.in-Some.digits c.kind.ensures c.in-Some.ensures) c.in-Some-date_of.is c.date_of.ensures

front : (g : Over) (c : In-Some-joint_of g) → Front g.T.Stamp.kind c.in-Some.digits.number c.args.s.now (day_from c.in-Some-date_of.date) c.in-Some-joint_of.past_joint.at
front g c =
    let headed = date_read (open_text c.in-Some.digits c.kind.ensures c.in-Some.ensures) c.in-Some-date_of.is c.date_of.ensures in
    joint_read headed c.in-Some-joint_of.is c.joint_of.ensures

paired : (g : Over) (c : In-Some-clock_of g)
    → Paired g.T.Stamp.kind c.in-Some.digits.number c.args.s.now (day_from c.in-Some-date_of.date) c.in-Some-clock_of.hour c.in-Some-clock_of.minute c.in-Some-clock_of.second c.in-Some-clock_of.past_clock.at
paired g c =
    let headed = date_read (open_text c.in-Some.digits c.kind.ensures c.in-Some.ensures) c.in-Some-date_of.is c.date_of.ensures in
    let front = joint_read headed c.in-Some-joint_of.is c.joint_of.ensures in
    clock_read front c.in-Some-clock_of.is c.clock_of.ensures

rear : (g : Over) (c : In-Some-fraction_of g)
    → Rear g.T.Stamp.kind c.in-Some.digits.number c.args.s.now (day_from c.in-Some-date_of.date)
    (clock_with c.in-Some-clock_of.hour c.in-Some-clock_of.minute c.in-Some-clock_of.second c.in-Some-fraction_of.part)
    c.in-Some-fraction_of.past_fraction.at
rear g c =
    let headed = date_read (open_text c.in-Some.digits c.kind.ensures c.in-Some.ensures) c.in-Some-date_of.is c.date_of.ensures in
    let front = joint_read headed c.in-Some-joint_of.is c.joint_of.ensures in
    let paired = clock_read front c.in-Some-clock_of.is c.clock_of.ensures in
    part_read paired c.in-Some-fraction_of.is c.fraction_of.ensures

said : (g : Over) (c : After-new-clock g) → Said g.T.Stamp.kind c.in-Some.digits.number c.args.s.now (day_from c.in-Some-date_of.date) c.new-clock.result c.in-Some-zone_of.zone
said g c =
    let headed = date_read (open_text c.in-Some.digits c.kind.ensures c.in-Some.ensures) c.in-Some-date_of.is c.date_of.ensures in
    let front = joint_read headed c.in-Some-joint_of.is c.joint_of.ensures in
    let paired = clock_read front c.in-Some-clock_of.is c.clock_of.ensures in
    let rear = part_read paired c.in-Some-fraction_of.is c.fraction_of.ensures in
    zone_read rear c.new-clock.ensures c.in-Some-zone_of.is c.zone_of.ensures.0

-- the goals

pub returns-in_default-clause-read : goal.returns-in_default-clause-read
returns-in_default-clause-read g c = too_many g.T.Stamp.kind _ c.args.s.now refl (rw c.kind.ensures at c.in_default.ensures)

pub date_of-requires : goal.date_of-requires
date_of-requires g c = date_room (opened g (goal.at.date_of-requires g c).In-Some)

pub returns-in_default-date_of-clause-read : goal.returns-in_default-date_of-clause-read
returns-in_default-date_of-clause-read g c = date_wrong (opened g (goal.at.returns-in_default-date_of-clause-read g c).In-Some) c.in_default-date_of.is c.date_of.ensures.0

pub joint_of-requires : goal.joint_of-requires
joint_of-requires g c = joint_room (headed g (goal.at.joint_of-requires g c).In-Some-date_of)

pub returns-in_default-joint_of-clause-read : goal.returns-in_default-joint_of-clause-read
returns-in_default-joint_of-clause-read g c = joint_wrong (headed g (goal.at.returns-in_default-joint_of-clause-read g c).In-Some-date_of) c.in_default-joint_of.is c.joint_of.ensures

pub clock_of-requires : goal.clock_of-requires
clock_of-requires g c = clock_room (front g (goal.at.clock_of-requires g c).In-Some-joint_of)

pub returns-in_default-clock_of-clause-read : goal.returns-in_default-clock_of-clause-read
returns-in_default-clock_of-clause-read g c = clock_wrong (front g (goal.at.returns-in_default-clock_of-clause-read g c).In-Some-joint_of) c.in_default-clock_of.is c.clock_of.ensures.0

pub fraction_of-requires : goal.fraction_of-requires
fraction_of-requires g c = part_room (paired g (goal.at.fraction_of-requires g c).In-Some-clock_of)

pub returns-in_default-fraction_of-clause-read : goal.returns-in_default-fraction_of-clause-read
returns-in_default-fraction_of-clause-read g c = part_wrong (paired g (goal.at.returns-in_default-fraction_of-clause-read g c).In-Some-clock_of) c.in_default-fraction_of.is c.fraction_of.ensures.0

pub zone_of-requires : goal.zone_of-requires
zone_of-requires g c = zone_room (rear g (goal.at.zone_of-requires g c).In-Some-fraction_of)

pub returns-in_default-zone_of-clause-read : goal.returns-in_default-zone_of-clause-read
returns-in_default-zone_of-clause-read g c = zone_wrong (rear g (goal.at.returns-in_default-zone_of-clause-read g c).In-Some-fraction_of) c.in_default-zone_of.is c.zone_of.ensures.0

pub new-clock-requires : goal.new-clock-requires
new-clock-requires g c = clock_small (paired g (goal.at.new-clock-requires g c).In-Some-clock_of)

pub returns-then-is_minus_zero-clause-read : goal.returns-then-is_minus_zero-clause-read
returns-then-is_minus_zero-clause-read g c = is_redundant (said g (goal.at.returns-then-is_minus_zero-clause-read g c).After-new-clock) c.is_minus_zero.ensures c.if-is_minus_zero.true

pub returns-then-not-in_range-clause-read : goal.returns-then-not-in_range-clause-read
returns-then-not-in_range-clause-read g c = no_time (not_redundant (said g (goal.at.returns-then-not-in_range-clause-read g c).After-new-clock) c.is_minus_zero.ensures c.if-is_minus_zero.false) c.in_range.ensures c.if-not-in_range.true-raw

pub returns-then-not-in_range-2-clause-read : goal.returns-then-not-in_range-2-clause-read
returns-then-not-in_range-2-clause-read g c = no_zone_lem (not_redundant (said g (goal.at.returns-then-not-in_range-2-clause-read g c).After-new-clock) c.is_minus_zero.ensures c.if-is_minus_zero.false) c.in_range-2.ensures c.if-not-in_range-2.true-raw

pub returns-clause-read : goal.returns-clause-read
returns-clause-read g c =
    let k = c.new-clock.result in
    let clock = passes c.in_range.ensures c.if-not-in_range.false-raw in
    let zone = passes c.in_range-2.ensures c.if-not-in_range-2.false-raw in
    let plain = not_redundant (said g (goal.at.returns-clause-read g c).After-new-clock) c.is_minus_zero.ensures c.if-is_minus_zero.false in
    (all_but_the_day plain clock zone refl refl c.offset.ensures, in_day k.minute k.second k.time.micros clock)
