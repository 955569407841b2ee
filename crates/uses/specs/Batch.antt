-- What a client that sends the parts of a command side by side makes of the answers to them.
use Rattle.std.specs.Prelude.{◌≡◌, ◌⊎◌, ℕ, List, [], ◌∷◌, ◌++◌, Some, None, Result, Ok, Err, map, length}
use Rattle.resp_core.specs.ErrorParts.{ErrorParts, out_of_memory}
use Rattle.resp_core.specs.Reply.{Reply}
use Rattle.resp_core.specs.View.{view}
use Rattle.resp_core.specs.declared.error.ErrorKind.TheVariants.{Client}
use Rattle.resp_core.specs.declared.value.Value.{Value}
use Rattle.cluster_map.specs.RangeMap as ranges
use Rattle.cluster_map.specs.SlotNodes.{SlotNodes}
use Rattle.redis_routing.specs.Command.{Arguments}
use Rattle.redis_routing.specs.Registry.{Registrations}
use Rattle.redis_cluster.specs.Amid.{IsReplyAmid}
use Rattle.redis_cluster.specs.Names.{names_of}
use Rattle.redis_cluster.specs.Faults.{IsPlanFault}
use Rattle.redis_cluster.specs.Plan.{IsMadeOfParts, Plan}
use Rattle.redis_cluster.specs.Driven.{command_routes_by}
use Rattle.redis_cluster.specs.MultiKey.{MultiKey, multi_key, part_by_slot}
use Rattle.redis_cluster.specs.Ready.{IsPlanOf, Target}
use Rattle.cluster_map.specs.RouteNode.{IsNodeOfRoute}
use Rattle.cluster_map.specs.SlotRoute.{SlotRoute}
use Rattle.std.specs.List.{AllZip}
use Rattle.uses.specs.declared.batcher.BatchError.{BatchError}
use Rattle.uses.specs.declared.batcher.BatchError.TheVariants.{NotPlanned, NotAnswered, NotCombined, Memory}
use Rattle.uses.specs.declared.batcher.NoReply.{NoReply}

-- what came back for the parts, in the order of the routes
abbrev pub Answers : Type 0
Answers = List (Result Value NoReply)

-- the plan has no answer yet
abbrev pub IsUntold : Plan → Type 0
IsUntold plan = plan.answers ≡ map (λ route. None) plan.split.routes

-- Each answer is a reply. If the plan had no reply before, the command's policy makes the one reply
-- of them. It is the reply to the command, amid what others write.
pub record IsGathered (plan : Plan) (answers : Answers) (reply : Reply) : Type 0 where
  pub replies : List Value
  pub each : answers ≡ map Ok replies
  pub made : IsUntold plan → IsMadeOfParts plan.split (map view replies) (Ok reply)
  pub amid : (registered : Registrations) (command : MultiKey) → IsPlanOf registered command plan
      → IsUntold plan → IsReplyAmid (List ℕ) command (map view replies) reply

-- The last call gave a reply to each part of the command. The one reply is the reply to the
-- command, amid what others write.
--
-- `MGET a b`, and another client's `MSET a 1 b 1` comes between the two parts:
--     the old `a` and the new `b`
pub record IsBatchedAmid (args : Arguments) (old new : List Answers → Type 0) (reply : Reply)
    : Type 0 where
  pub command : MultiKey
  pub command_is : multi_key [] args ≡ Some command
  pub replies : List Value
  pub gave : (before : List Answers) → old before → new (before ++ map Ok replies ∷ [])
  pub amid : IsReplyAmid (List ℕ) command (map view replies) reply

-- the part of this number has no reply, for this cause, and each part before it has one
pub record IsNotAnswered (answers : Answers) (number : ℕ) (cause : NoReply) : Type 0 where
  pub before : List Value
  pub rest : Answers
  pub answers_are : answers ≡ map Ok before ++ Err cause ∷ rest
  pub number_is : number ≡ length before

-- Each answer is a reply. There are more or fewer than routes, or the policy refuses them with an
-- error of that kind, or memory ran out.
pub record IsNotCombined (plan : Plan) (answers : Answers) (error : ErrorParts) : Type 0 where
  pub replies : List Value
  pub each : answers ≡ map Ok replies
  pub cause : IsUntold plan → (error.kind ≡ Client)
      ⊎ ((error ≡ out_of_memory) ⊎ IsMadeOfParts plan.split (map view replies) (Err error.kind))

-- a refusal of kind Client
abbrev pub IsClientRefusal : BatchError → Type 0
IsClientRefusal (NotPlanned fault) = ⊥
IsClientRefusal (NotAnswered number cause) = ⊥
IsClientRefusal (NotCombined error) = error.kind ≡ Client
IsClientRefusal Memory = ⊥

-- why there is not a reply to each part
abbrev pub WhyNoReplies : Answers → BatchError → Type 0
WhyNoReplies answers (NotPlanned fault) = ⊥
WhyNoReplies answers (NotAnswered number cause) = IsNotAnswered answers number cause
WhyNoReplies answers (NotCombined error) = ⊥
WhyNoReplies answers Memory = Unit {0}

-- why there is no reply to the command
abbrev pub IsUngathered : Plan → Answers → BatchError → Type 0
IsUngathered plan answers (NotPlanned fault) = ⊥
IsUngathered plan answers (NotAnswered number cause) = IsNotAnswered answers number cause
IsUngathered plan answers (NotCombined error) = IsNotCombined plan answers error
IsUngathered plan answers Memory = Unit {0}

-- a command that has no plan has the plan's fault, and nothing was sent
abbrev pub HasNoBatchPlan : List (ranges.RangeEntry SlotNodes) → Arguments → Type 0 → BatchError → Type 0
HasNoBatchPlan entries args Unsent (NotPlanned fault) = IsPlanFault entries (names_of [] []) args fault × Unsent
HasNoBatchPlan entries args Unsent (NotAnswered number cause) = Unit {0}
HasNoBatchPlan entries args Unsent (NotCombined error) = Unit {0}
HasNoBatchPlan entries args Unsent Memory = Unit {0}

-- what may have been handed over, a list for each call
abbrev pub Handed : Type 0
Handed = List (List Target)

-- these were handed over in one call more
abbrev pub AreAdded : (old new : Handed → Type 0) → List Target → Type 0
AreAdded old new parts = (before : Handed) → old before → new (before ++ parts ∷ [])

-- nothing was handed over
abbrev pub IsSame : (old new : Handed → Type 0) → Type 0
IsSame old new = (before : Handed) → old before → new before

-- In one call the part of each slot was handed over, to the primary of the slot.
pub record AreHanded (entries : List (ranges.RangeEntry SlotNodes)) (args : Arguments)
    (old new : Handed → Type 0) : Type 0 where
  pub routes : List SlotRoute
  pub parts : List Target
  pub routes_are : command_routes_by (names_of [] []) args ≡ Some routes
  pub added : AreAdded old new parts
  pub each : AllZip (λ route part. IsNodeOfRoute entries route 0 part.0
      × (map Some part.1 ≡ part_by_slot [] args route.slot)) routes parts

-- Without a reply, the parts were handed over like that, too. If memory ran out, they were or were
-- not.
abbrev pub AreHandedOrNone : List (ranges.RangeEntry SlotNodes) → Arguments
    → (old new : Handed → Type 0) → BatchError → Type 0
AreHandedOrNone entries args old new (NotPlanned fault) = IsSame old new
AreHandedOrNone entries args old new (NotAnswered number cause) = AreHanded entries args old new
AreHandedOrNone entries args old new (NotCombined error) = AreHanded entries args old new
AreHandedOrNone entries args old new Memory = IsSame old new ⊎ AreHanded entries args old new
