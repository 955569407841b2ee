-- How the sends of a part end, and how those of a plan end without a reply of the command.
use Rattle.std.specs.Prelude.{◌≡◌, ◌<◌, ◌⊎◌, ◌+◌, ℕ, Bool, List, [], ◌∷◌, ◌++◌, Option, Some, length, map, take, slice_get}
use Rattle.resp_core.specs.ErrorParts.{ErrorParts}
use Rattle.resp_core.specs.Reply.{Reply}
use Rattle.resp_core.specs.View.{view}
use Rattle.resp_core.specs.declared.value.Value.{Value}
use Rattle.redis_routing.specs.Registry.{Registrations}
use Rattle.redis_routing.specs.Split.{slots_of}
use Rattle.redis_cluster.specs.MultiKey.{MultiKey, list, multi_key}
use Rattle.redis_cluster.specs.Orders.{in_order}
use Rattle.redis_cluster.specs.Trace.{Entry, Ending, answered}
use Rattle.redis_cluster.specs.Unsplit.{Step, Keyspace, act_of, keyspace_after, reply_to}
use Rattle.redis_cluster.specs.declared.nodes.Nodes.{Ghosts}
use Rattle.redis_cluster.specs.declared.nodes.SendError.{SendError}
use Rattle.redis_cluster.specs.Faults.{fault_of_send}
use Rattle.redis_cluster.specs.Plan.{Plan}
use Rattle.redis_cluster.specs.Ready.{IsPlanOf}
use Rattle.redis_cluster.specs.Retry.{Try, AttemptsOf, SentInTurn, IsCause}
use Rattle.redis_cluster.specs.Sends.{IsLeft, SlotsTookEffect, ending_of}
use Rattle.redis_cluster.specs.declared.fault.DriveFault.{DriveFault}
use Rattle.redis_cluster.specs.declared.fault.DriveFault.TheVariants as drive

module _ {S : Type 0} (N : Ghosts S) (try : Try) (old new : S) where
  -- A node answered the last attempt, and none before it. If the nodes keep to one meaning, the reply
  -- and the keyspace are those of the part.
  pub record IsPartAnswered (value : Value) : Type 0 where
    pub tried : AttemptsOf try (Some answered) (N.state old).trace (N.state new).trace
    pub gave : (replies : List Reply) → N.gave old replies → N.gave new (replies ++ view value ∷ [])
    pub reply : (command : MultiKey) → multi_key (N.registered old) (map Some try.part) ≡ Some command
        → N.kept new → view value ≡ reply_to N.step command (N.state old).keyspace
    pub keyspace : (command : MultiKey) → multi_key (N.registered old) (map Some try.part) ≡ Some command
        → N.kept new → (N.state new).keyspace ≡ keyspace_after N.step command (N.state old).keyspace

  -- No node answered it, and the last attempt was allowed to end so.
  pub record IsPartUnanswered (error : SendError) : Type 0 where
    pub tried : AttemptsOf try (ending_of error) (N.state old).trace (N.state new).trace
    pub cause : IsCause (N.may_refuse old) (length (N.state new).trace) (N.state new).mark (ending_of error)
    pub gave : (replies : List Reply) → N.gave old replies → N.gave new replies
    pub left : (command : MultiKey) → multi_key (N.registered old) (map Some try.part) ≡ Some command
        → N.kept new → IsLeft N.step command (N.state old).keyspace (N.state new).keyspace (ending_of error)

-- The sends stopped after `count` answers. The trace has the attempts of each of these routes, and
-- those of the next one. The keyspace is that of the slots that were answered; after a lost reply
-- it may be that of the next one, too.
pub record AreStopped {C : Type 0} (kept : Type 0) (step : Step C) (may_refuse : ℕ → Ending → Type 0)
    (command : MultiKey) (plan : Plan) (tries : List Try) (order : List ℕ) (count : ℕ)
    (old_keys new_keys : Keyspace C) (old new : List Entry) (mark : Bool)
    (ending : Option Ending) : Type 0 where
  pub before : List Entry
  pub trace : SentInTurn (in_order tries (take count order)) old before
  pub keyspace : kept → SlotsTookEffect (act_of step command) command.tuples
      (in_order (slots_of plan.split.routes) (take count order))
      (in_order (slots_of plan.split.routes) (take (count + 1) order)) old_keys new_keys ending
  pub try : Try
  pub next : slice_get (in_order tries order) count ≡ Some try
  pub tried : AttemptsOf try ending before new
  pub cause : IsCause may_refuse (length new) mark ending

module _ {C : Type 0} (kept : Type 0) (registered : Registrations) (step : Step C) (may_refuse : ℕ → Ending → Type 0) (plan : Plan)
    (tries : List Try) (order : List ℕ) (old_keys new_keys : Keyspace C) (old new : List Entry) (mark : Bool) where
  -- a send was not answered
  pub record IsSendEnded (fault : DriveFault) (count : ℕ) : Type 0 where
    pub error : SendError
    pub fault_is : fault ≡ fault_of_send error
    pub within : count < length plan.split.routes
    pub stopped : (command : MultiKey) → IsPlanOf registered command plan
        → AreStopped kept step may_refuse command plan tries order count old_keys new_keys old new
        mark (ending_of error)

  -- all were answered, and memory ran out in making one list of the replies
  pub record IsListEnded (fault : DriveFault) (count : ℕ) : Type 0 where
    pub fault_is : fault ≡ drive.Memory
    pub count_is : count ≡ length plan.split.routes
    pub trace : SentInTurn (in_order tries order) old new
    pub keyspace : (command : MultiKey) → IsPlanOf registered command plan
        → kept → new_keys ≡ keyspace_after step command old_keys
    pub form : (command : MultiKey) → IsPlanOf registered command plan → command.form ≡ list

  -- all were answered, and the replies do not fit, which those of nodes that keep the meaning do
  pub record IsReplyEnded (fault : DriveFault) (count : ℕ) : Type 0 where
    pub error : ErrorParts
    pub fault_is : fault ≡ drive.Reply error
    pub count_is : count ≡ length plan.split.routes
    pub trace : SentInTurn (in_order tries order) old new
    pub misfit : kept → ⊥

  abbrev pub AreEndedEarly : DriveFault → ℕ → Type 0
  AreEndedEarly fault count =
      IsSendEnded fault count ⊎ (IsListEnded fault count ⊎ IsReplyEnded fault count)
