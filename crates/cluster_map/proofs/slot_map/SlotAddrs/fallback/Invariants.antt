use Rattle.std.proofs.Common.{◌≡◌, ◌++◌, drop}
use Rattle.cluster_map.proofs.slot_map.SlotAddrs.fallback.Given as goal

-- the replicas so far and those left to copy are all of them
abbrev pub invariant-loop-replica : goal.invariant-loop-replica
invariant-loop-replica l = l.addresses.items ++ drop l.replica-index l.self.replicas ≡ l.self.replicas
