use Rattle.std.proofs.Common.{inl}
use Rattle.cluster_map.proofs.slot_map.SlotMap.shard_fallback_addrs.Goals as goal

pub returns-in-None-clause-fallback : goal.returns-in-None-clause-fallback
returns-in-None-clause-fallback c = inl (rw (← c.self.view_is, ← c.slot.ensures) c.in-None.ensures.least, c.new.ensures.items)
