use Rattle.std.proofs.Common.{[], arith}
use Rattle.indexmap.proofs.SetLemmas.{set_all_distinct}
use Rattle.cluster_map.proofs.NodeSets.{same_counted}
use Rattle.cluster_map.proofs.slot_map.node_set.rehash.Goals as goal

pub returns-clause-nodes : goal.returns-clause-nodes
returns-clause-nodes g c =
    let same = set_all_distinct same_counted [] c.args.nodes.now.keys c.len-len.ensures.unique in
    grind (arith, same)
