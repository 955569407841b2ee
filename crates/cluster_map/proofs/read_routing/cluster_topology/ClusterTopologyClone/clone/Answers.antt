use Rattle.cluster_map.proofs.read_routing.cluster_topology.ClusterTopologyClone.clone.Goals as goal

pub invariant_of-result : goal.invariant_of-result
invariant_of-result c = rw (c.in_ok-copy_shards.ensures, c.in_ok-copy_places.ensures, c.in_ok-clone.ensures.same (λ v w same. same)) c.self.invariant
