use Rattle.cluster_map.proofs.slot_map.SlotMap.slot_addr_for_route.Goals as goal

pub returns-in_err-addrs-clause-node : goal.returns-in_err-addrs-clause-node
returns-in_err-addrs-clause-node g c = rw (c.from_residual.ensures, ← c.self.view_is, ← c.slot.ensures) c.in_err-addrs.ensures.least

pub returns-in_err-addrs-clause-reply : goal.returns-in_err-addrs-clause-reply
returns-in_err-addrs-clause-reply g c answering reply same = rw (c.from_residual.ensures, ← same, ← c.self.view_is, ← c.slot.ensures) c.in_err-addrs.ensures.least
