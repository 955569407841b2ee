use Rattle.std.proofs.Common.{◌≡◌, ◌∙◌, [], ap}
use Rattle.cluster_map.specs.SlotNodes.{insert_ranges}
use Rattle.cluster_map.proofs.Disjoint.{disjoint_ranges_stay}
use Rattle.cluster_map.proofs.slot_map.SlotMap.from_slots.Goals as goal

pub returns-clause-kept : goal.returns-clause-kept
returns-clause-kept c disjoint e =
    let is : c.fill_slots.new.self ≡ insert_ranges [] c.args.slots.items = c.in_ok-fill_slots.ensures.put ∙ ap (λ z. insert_ranges z c.args.slots.items) c.new-map.ensures in
    rw is (disjoint_ranges_stay c.args.slots.items e disjoint)
