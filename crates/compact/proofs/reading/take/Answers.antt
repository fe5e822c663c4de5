-- `take` meets its contract: whether an offset stands in front, from the length; what stands there, and behind it to the end.
-- Assumes nothing.
use mathlib.Core.Path.{◌≡◌, sym, ◌∙◌, ap}
use Prim.Native.Nat.{◌<◌, ◌≤◌, ◌-◌}
use native.Mathlib.Omega.{arith}
use lib.Dec.{leb}
use lib.ListN.{length, take, drop, length-drop}
use lib.Seq.{take_all}
use mir.Syntax.{w64}
use mir.Val.{to_z, of_z}
use mir.Facts.{to_z-of_z}
use Rattle.format.specs.Octets.{signed_of}
use Rattle.format.specs.Words.{if_any}
use Rattle.values.specs.Meaning.{kind_from}
use Rattle.format.specs.Compact.{number_octets}
use Rattle.format.specs.CompactReading.{usual}
use Rattle.compact.proofs.ReadingSteps.{needed_at}
use Rattle.compact.proofs.Room.{room}
use Rattle.compact.proofs.reading.take.Goals as goal
use Rattle.compact.proofs.reading.take.Goals.{After-front_octets-at, After-take_signed, After-is_shortest}

front : (c : After-front_octets-at) → (if_any c.carried_in-front.result 2 < length c.args.s.now) × (length c.args.s.now - if_any c.carried_in-front.result 2 ≤ 8)
front c = rw c.carried_in-front.ensures (room (kind_from c.args.kind) (length c.args.s.now) c.requires)

-- the number's octets go to the end
behind : (c : After-take_signed) → to_z w64 (of_z w64 c.take_signed.result) ≡ signed_of (drop (if_any c.carried_in-front.result 2) c.args.s.now)
behind c =
    let s = c.args.s.now in
    let at = c.front_octets-at.result in
    let all : take (length s - at) (drop at s) ≡ drop at s = take_all (length s - at) (drop at s) (rw length-drop (omega arith)) in
    to_z-of_z {w = w64} (record { sfits = c.take_signed.type_inv }) ∙ c.take_signed.ensures ∙ ap signed_of all ∙ rw c.front_octets-at.ensures

-- as many octets as the number takes
few : (c : After-is_shortest)
    → let octets = drop (if_any c.carried_in-front.result 2) c.args.s.now in
    c.is_shortest.result ≡ leb (length octets) (number_octets (kind_from c.args.kind) c.carried_in-front.result (signed_of octets))
unfolding number_octets
few c = rw (c.front_octets-at.ensures, c.padded_to.ensures) at c.is_shortest.ensures

pub offset_in-offset-requires : goal.offset_in-offset-requires
offset_in-offset-requires c = omega (arith, front (goal.at.offset_in-offset-requires c).After-front_octets-at)

pub overflow_sub-s : goal.overflow_sub-s
overflow_sub-s c = omega (arith, front (goal.at.overflow_sub-s c).After-front_octets-at, c.front_octets-at.ensures)

pub take_signed-requires : goal.take_signed-requires
take_signed-requires c = let h = front (goal.at.take_signed-requires c).After-front_octets-at in let e = c.front_octets-at.ensures in (omega arith, omega arith, omega arith)

pub is_shortest-requires : goal.is_shortest-requires
is_shortest-requires c = omega (arith, front (goal.at.is_shortest-requires c).After-front_octets-at, c.front_octets-at.ensures)

pub returns-then-is_shortest : goal.returns-then-is_shortest
unfolding usual
returns-then-is_shortest c =
    let d = goal.at.returns-then-is_shortest c in
    rw (← c.carried_in-front.ensures) (record {
      offset = c.offset_in-offset.ensures;
      number = behind d.After-take_signed;
      usual = rw (behind d.After-take_signed, sym (few d.After-is_shortest) ∙ c.if-is_shortest.true) (c.is_needed.ensures ∙ needed_at _ _ _ c.offset_in-offset.ensures);
    })

pub returns-else-is_shortest : goal.returns-else-is_shortest
unfolding usual
returns-else-is_shortest c =
    let d = goal.at.returns-else-is_shortest c in
    rw (← c.carried_in-front.ensures) (record {
      offset = c.offset_in-offset.ensures;
      number = behind d.After-take_signed;
      usual = rw (behind d.After-take_signed, sym (few d.After-is_shortest) ∙ c.if-is_shortest.false) c.if-is_shortest.false;
    })
