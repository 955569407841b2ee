use Rattle.std.proofs.Common.{take}
use Rattle.cluster_map.specs.Targets.{addresses_behind}
use Rattle.cluster_map.specs.Numbered.{AreNumbered}
use Rattle.cluster_map.proofs.slot_map.node_set.numbering.number_few.Given as goal

-- the nodes so far are numbered
abbrev pub invariant-loop-node : goal.invariant-loop-node
invariant-loop-node l = AreNumbered (addresses_behind (take l.node-index l.nodes)) (addresses_behind l.found.items) l.numbers.items
