use Rattle.std.proofs.Common.{◌≡◌, ◌++◌, drop, map}
use Rattle.std.specs.List.{filter_map}
use Rattle.resp_core.specs.View.{view}
use Rattle.cluster_map.specs.SlotsReply.{node_in}
use Rattle.cluster_map.proofs.topology.read_nodes.Given as goal

-- what is found, and what the rest holds, is what there is
abbrev pub invariant-loop-node : goal.invariant-loop-node
invariant-loop-node l =
    l.found.items ++ filter_map (node_in l.answering) (map view (drop l.node-index l.nodes)) ≡ filter_map (node_in l.answering) (map view l.nodes)
