use Rattle.std.proofs.Common.{subst, option_copied}
use Rattle.cluster_slots.specs.SlotRoute.{SlotRoute}
use Rattle.cluster_map.specs.ReplyNode.{IsFound}
use Rattle.redis_session.proofs.NodeTables.{look_up-found}
use Rattle.redis_session.proofs.table.SlotTable.node.Goals as goal

pub returns : goal.returns
returns c =
    let map = c.self.inside.map in
    let node = c.slot_addr_for_route.result in
    let found = subst (λ (route : SlotRoute). IsFound map route 0 (option_copied node)) c.new.ensures (look_up-found map c.new.result node c.slot_addr_for_route.ensures.node) in
    rw (← c.self.view_is, ← c.in_default.ensures.value) found
