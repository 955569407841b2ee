use Rattle.std.proofs.Common.{◌≡◌, fold}
use Rattle.cluster_map.specs.SlotNodes.{nodes_in}
use Rattle.cluster_map.specs.Targets.{left_in}
use Rattle.cluster_map.proofs.Members.{add_new}
use Rattle.cluster_map.proofs.slot_map.addresses.insert_all.Given as goal

-- the nodes that are left make of the members what all make of the first ones
abbrev pub invariant-loop-address : goal.invariant-loop-address
invariant-loop-address l =
    (goal.iterator-loop-address).can_next l.address-iterator ×
    (goal.iterator-loop-address).is_finite l.address-iterator ×
    (fold add_new l.seen (left_in l.address-iterator) ≡ fold add_new l.fn.seen (nodes_in l.addrs))
