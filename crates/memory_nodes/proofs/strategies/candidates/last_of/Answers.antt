use Rattle.std.proofs.Common.{◌≡◌, length}
use Rattle.cluster_map.specs.ReadCandidates.{addresses_of}
use Rattle.memory_nodes.proofs.Indices.{at_last}
use Rattle.memory_nodes.proofs.strategies.candidates.last_of.Goals as goal

pub returns : goal.returns
returns c =
    let is : c.len.result ≡ length (addresses_of c.args.replicas) = c.len.ensures.value in
    at_last c.choose_random.result.now (addresses_of c.args.replicas) (rw is at c.len.ensures.some) (rw is at c.choose_random.ensures)
