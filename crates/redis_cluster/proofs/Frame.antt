-- What sends do not change, one after the other.
use Rattle.std.proofs.Common.{arith}
use Rattle.std.proofs.lemmas.Grind.{common_steps}
use Rattle.redis_cluster.specs.Frame.{SameNodes}
use Rattle.redis_cluster.specs.declared.nodes.Nodes.{Ghosts}

pub frame_more : {S : Type 0} (N : Ghosts S) (old mid new : S) → SameNodes N old mid → SameNodes N mid new → SameNodes N old new
frame_more N old mid new first later = grind (arith, common_steps)
