use Rattle.std.proofs.Common.{◌≡◌, take}
use Rattle.slotroute_c.specs.Parts.{route_slots}
use Rattle.slotroute_c.proofs.parts.slots_in.Given as goal

-- the slots so far
abbrev pub invariant-loop-route : goal.invariant-loop-route
invariant-loop-route l = l.slots.items ≡ route_slots (take l.route-index l.routes)
