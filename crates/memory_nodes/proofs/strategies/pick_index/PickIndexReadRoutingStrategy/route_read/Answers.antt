use Rattle.std.proofs.Common.{◌≡◌, ◌∙◌, ◌%◌, ◌∷◌, length, Some, slice_get, ap, subst}
use Rattle.cluster_map.specs.Candidates.{primary_then_replicas}
use Rattle.cluster_map.specs.CandidatePlaces.{IsCandidate-replica, IsCandidate-in_order}
use Rattle.cluster_map.specs.ReadCandidates.{addresses_of, any_node_of, replicas_only_of}
use Rattle.memory_nodes.proofs.strategies.pick_index.PickIndexReadRoutingStrategy.route_read.Goals as goal

pub returns-in-AnyNode-clause-candidate : goal.returns-in-AnyNode-clause-candidate
returns-in-AnyNode-clause-candidate c =
    let candidates = any_node_of c.in-AnyNode.candidates in
    let index = c.args.self.now.0 in
    let node = c.node_at.result.now in
    let same : c.primary.result.now ≡ c.in-AnyNode.candidates.primary.now = cc in
    let nodes : c.primary.result.now ∷ addresses_of c.replicas.result ≡ primary_then_replicas candidates =
    ap (λ z. z ∷ addresses_of c.replicas.result) same ∙ ap (λ z. c.in-AnyNode.candidates.primary.now ∷ z) c.replicas.ensures in
    let there = subst (λ z. slice_get z (index % length z) ≡ Some node) nodes c.node_at.ensures in
    rw c.in-AnyNode.is (IsCandidate-in_order candidates node (index % length (primary_then_replicas candidates)) there)

pub returns-in-ReplicasOnly-clause-candidate : goal.returns-in-ReplicasOnly-clause-candidate
returns-in-ReplicasOnly-clause-candidate c =
    let candidates = replicas_only_of c.in-ReplicasOnly.candidates in
    let index = c.args.self.now.0 in
    let node = c.choose_random.result.now in
    let there = subst (λ z. slice_get z (index % length z) ≡ Some node) c.replicas-in-ReplicasOnly.ensures c.choose_random.ensures in
    rw c.in-ReplicasOnly.is (IsCandidate-replica candidates node (index % length candidates.replicas) there)
