use Rattle.std.proofs.Common.{◌≡◌, List}
use Rattle.resp_core.specs.Reply.{Reply}
use Rattle.redis_cluster.specs.Frame.{SameNodes}
use Rattle.redis_cluster.specs.Retry.{AreAllowed}
use Rattle.redis_cluster.specs.Ready.{try_by}
use Rattle.redis_cluster.proofs.Trying.{IsTrying}
use Rattle.redis_cluster.proofs.attempts.send_with_retries.Given as goal

-- what was sent so far is a beginning of the attempts, after which the retry's target comes
abbrev pub invariant-loop-node : goal.invariant-loop-node
invariant-loop-node g l =
    let nodes = g.N.Nodes in
    record {
      tried : IsTrying (try_by l.fn.part l.fn.retry) (nodes.state l.fn.nodes).trace (nodes.state l.nodes).trace l.retry;
      allowed : AreAllowed (nodes.may_refuse l.fn.nodes) (nodes.state l.fn.nodes).trace (nodes.state l.nodes).trace;
      frame : SameNodes nodes l.fn.nodes l.nodes;
      keyspace : nodes.kept l.nodes → (nodes.state l.nodes).keyspace ≡ (nodes.state l.fn.nodes).keyspace;
      gave : (replies : List Reply) → nodes.gave l.fn.nodes replies → nodes.gave l.nodes replies;
    }

-- each further target leaves one target less
abbrev pub decreases-loop-node : goal.decreases-loop-node
decreases-loop-node g l = l.retry.left
