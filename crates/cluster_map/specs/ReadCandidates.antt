-- What a contract sees of replicas and of candidates.
use Rattle.std.specs.Prelude.{List, Some, None}
use Rattle.cluster_slots.specs.Address.{Address}
use Rattle.cluster_map.specs.Candidates.{Candidates}
use Rattle.cluster_map.specs.declared.read_routing.replicas.Replicas.{Replicas}
use Rattle.cluster_map.specs.declared.read_routing.candidates.AnyNodeCandidates.{AnyNodeCandidates}
use Rattle.cluster_map.specs.declared.read_routing.candidates.ReplicasOnlyCandidates.{ReplicasOnlyCandidates}
use Rattle.cluster_map.specs.declared.read_routing.candidates.ReadCandidates.{ReadCandidates}
use Rattle.cluster_map.specs.declared.read_routing.candidates.ReadCandidates.TheVariants.{AnyNode, ReplicasOnly}

abbrev pub addresses_of : Replicas → List Address
addresses_of r = r.nodes.now

abbrev pub any_node_of : AnyNodeCandidates → Candidates
any_node_of c =
    record { slot = c.slot; primary = Some c.primary.now; replicas = addresses_of c.replicas }

abbrev pub replicas_only_of : ReplicasOnlyCandidates → Candidates
replicas_only_of c = record { slot = c.slot; primary = None; replicas = addresses_of c.replicas }

abbrev pub candidates_of : ReadCandidates → Candidates
candidates_of (AnyNode c) = any_node_of c
candidates_of (ReplicasOnly c) = replicas_only_of c
