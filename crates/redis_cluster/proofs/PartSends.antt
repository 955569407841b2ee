-- What one send more leaves of a part, after attempts that left the keyspace as it was.
use Rattle.std.proofs.Common.{◌≡◌, ◌∷◌, ◌++◌, [], List, Some, IfSome, map, arith}
use Rattle.std.proofs.lemmas.Grind.{common_steps}
use Rattle.resp_core.specs.Reply.{Reply}
use Rattle.resp_core.specs.View.{view}
use Rattle.resp_core.specs.declared.value.Value.{Value}
use Rattle.cluster_slots.specs.Address.{Address}
use Rattle.redis_cluster.specs.Retry.{Try, AttemptsOf}
use Rattle.redis_cluster.specs.Frame.{SameNodes}
use Rattle.redis_cluster.specs.MultiKey.{multi_key}
use Rattle.redis_cluster.specs.Ended.{IsPartAnswered, IsPartUnanswered}
use Rattle.redis_cluster.specs.Sends.{IsLeft, IsUnanswered, ending_of}
use Rattle.redis_cluster.specs.Trace.{answered}
use Rattle.redis_cluster.specs.Unsplit.{keyspace_after, reply_to}
use Rattle.redis_cluster.specs.declared.nodes.Nodes.{Ghosts}
use Rattle.redis_cluster.specs.declared.nodes.SendError.{SendError}

module _ {S : Type 0} (N : Ghosts S) (try : Try) (old mid new : S) (frame : SameNodes N old mid) (stands : N.kept mid → (N.state mid).keyspace ≡ (N.state old).keyspace)
    (gave : (replies : List Reply) → N.gave old replies → N.gave mid replies) (kept : N.kept new → N.kept mid) where
  pub answered_then : (value : Value) → AttemptsOf try (Some answered) (N.state old).trace (N.state new).trace → ((replies : List Reply) → N.gave mid replies → N.gave new (replies ++ view value ∷ []))
      → IfSome (multi_key (N.registered mid) (map Some try.part)) (λ command. N.kept new → view value ≡ reply_to N.step command (N.state mid).keyspace)
      → IfSome (multi_key (N.registered mid) (map Some try.part)) (λ command. N.kept new → (N.state new).keyspace ≡ keyspace_after N.step command (N.state mid).keyspace) → IsPartAnswered N try old new value
  answered_then value tried gives reply keyspace = grind (arith, common_steps)

  pub unanswered_then : (error : SendError) (node : Address) → AttemptsOf try (ending_of error) (N.state old).trace (N.state new).trace
      → IsUnanswered (N.may_refuse mid) (N.state mid).trace (N.state new).trace (N.state new).mark node try.part (ending_of error) → ((replies : List Reply) → N.gave mid replies → N.gave new replies)
      → IfSome (multi_key (N.registered mid) (map Some try.part)) (λ command. N.kept new → IsLeft N.step command (N.state mid).keyspace (N.state new).keyspace (ending_of error)) → IsPartUnanswered N try old new error
  unanswered_then error node tried ended gives left = grind (arith, common_steps)
