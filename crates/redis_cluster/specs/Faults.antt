-- Why a command was not driven to its end, and what stands then.
use Rattle.std.specs.Prelude.{◌≡◌, ◌⊎◌, ℕ, ◌+◌, List, [], ◌∷◌, ◌++◌, Option, None, Some, length, take, slice_get}
use Rattle.resp_core.specs.ErrorParts.{ErrorParts}
use Rattle.cluster_slots.specs.Address.{Address}
use Rattle.cluster_slots.specs.SlotRoute.{SlotRoute}
use Rattle.redis_cluster.specs.Retry.{IsCause}
use Rattle.redis_cluster.specs.MultiKey.{MultiKey, ReplyForm, list}
use Rattle.redis_cluster.specs.Orders.{NamesOnce, in_order}
use Rattle.redis_cluster.specs.Trace.{Entry, Ending, refused, redirected, lost}
use Rattle.redis_cluster.specs.Unsplit.{Step, keyspace_after}
use Rattle.redis_cluster.specs.declared.nodes.SendError.{SendError}
use Rattle.redis_cluster.specs.declared.nodes.SendError.TheVariants as sent
use Rattle.cluster_map.specs.SlotNodes.{SlotNodes}
use Rattle.cluster_map.specs.RangeMap as ranges
use Rattle.redis_routing.specs.Command.{Arguments}
use Rattle.redis_routing.specs.Names.{Names}
use Rattle.redis_cluster.specs.Driven.{Request, command_routes_by, IsFirstUncovered, IsCoveredCommand, IsDrivable, IsEntryOf, AreSent, RoutesTookEffect}
use Rattle.redis_cluster.specs.State.{State}
use Rattle.redis_cluster.specs.declared.fault.DriveFault.{DriveFault}
use Rattle.redis_cluster.specs.declared.fault.DriveFault.TheVariants.{NotMultiKey, NotCovered, BadOrder, Memory, Node, Redirected, Lost, Reply}
use Rattle.redis_cluster.specs.declared.fault.PlanFault.{PlanFault}
use Rattle.redis_cluster.specs.declared.fault.PlanFault.TheVariants as plan

abbrev pub fault_of_plan : PlanFault → DriveFault
fault_of_plan plan.NotMultiKey = NotMultiKey
fault_of_plan (plan.NotCovered slot) = NotCovered slot
fault_of_plan plan.Memory = Memory

abbrev pub fault_of_send : SendError → DriveFault
fault_of_send (sent.Refused error) = Node error
fault_of_send (sent.Redirected redirect) = Redirected redirect
fault_of_send (sent.Lost error) = Lost error
fault_of_send sent.Memory = Memory

-- why a command has no plan, except for memory
abbrev pub IsPlanFault : List (ranges.RangeEntry SlotNodes) → Names → Arguments → PlanFault
    → Type 0
IsPlanFault entries names args plan.NotMultiKey = command_routes_by names args ≡ None
IsPlanFault entries names args (plan.NotCovered slot) =
    (routes : List SlotRoute) × (command_routes_by names args ≡ Some routes)
    × IsFirstUncovered entries routes slot
IsPlanFault entries names args plan.Memory = Unit {0}

-- why nothing of a request is sent
abbrev pub IsCauseBeforeSending : Request → DriveFault → Type 0
IsCauseBeforeSending r NotMultiKey = IsPlanFault r.map r.names r.arguments plan.NotMultiKey
IsCauseBeforeSending r (NotCovered slot) = IsPlanFault r.map r.names r.arguments (plan.NotCovered slot)
IsCauseBeforeSending r BadOrder =
    (routes : List SlotRoute) × (command : MultiKey)
    × IsCoveredCommand r routes command × (NamesOnce (length routes) r.order → ⊥)
IsCauseBeforeSending r Memory = Unit {0}
IsCauseBeforeSending r fault = ⊥

-- the fault comes before the first send, and not because memory ran out
abbrev pub IsBefore : DriveFault → Type 0
IsBefore NotMultiKey = Unit {0}
IsBefore (NotCovered slot) = Unit {0}
IsBefore BadOrder = Unit {0}
IsBefore fault = ⊥

-- How far the sends of the parts reached: past all routes, or up to a route that was not answered.
-- The last send of that route ended so, or memory ran out before it (`None`).
pub data Reach : Type 0 where
  whole : Reach
  up_to : Option Ending → Reach

-- how far they reached by a fault, of a command with this form of its reply
--
-- `MSET a 1 b 2`, and the node of `b` refuses: the fault is `Node`, up to the route of `b`
-- `MGET a b`, and memory runs out for the list of both replies: the fault is `Memory`, past all routes
abbrev pub IsReachOf : DriveFault → ReplyForm → Reach → Type 0
IsReachOf Memory form reach = (reach ≡ up_to None) ⊎ ((reach ≡ whole) × (form ≡ list))
IsReachOf (Node error) form reach = reach ≡ up_to (Some (refused error))
IsReachOf (Redirected redirect) form reach = reach ≡ up_to (Some (redirected redirect))
IsReachOf (Lost error) form reach = reach ≡ up_to (Some (lost error))
IsReachOf (Reply error) form reach = reach ≡ whole
IsReachOf fault form reach = ⊥

module _ {C : Type 0} (r : Request) (old new : State C) where
  -- nothing was sent, and this is why
  abbrev pub IsEarly : DriveFault → ℕ → Type 0
  IsEarly fault count = IsCauseBeforeSending r fault × (count ≡ 0) × (new ≡ old)

  -- What the sends left: the first `count` parts took effect. If the reply to the next part was
  -- lost, that part may have taken effect, too.
  abbrev pub TookEffect : Step C → List SlotRoute → MultiKey → ℕ → Reach → Type 0
  TookEffect step routes command count whole =
      new.keyspace ≡ keyspace_after step command old.keyspace
  TookEffect step routes command count (up_to (Some (lost error))) =
      RoutesTookEffect step old new command (take count (in_order routes r.order))
      ⊎ RoutesTookEffect step old new command (take (count + 1) (in_order routes r.order))
  TookEffect step routes command count (up_to ending) =
      RoutesTookEffect step old new command (take count (in_order routes r.order))

-- `Answered` says of routes that the trace grew by an answer to each, and `Ends` of a route that it
-- grew by its sends, which ended so.
module _ (Answered : List SlotRoute → (old new : List Entry) → Type 0)
    (Ends : SlotRoute → Option Ending → (old new : List Entry) → Type 0) (r : Request) where
  -- What went out: exactly the first `count` routes of the order were answered. The sends of the next
  -- one, if they reached only up to it, are the last.
  abbrev pub WentOut : List SlotRoute → ℕ → Reach → (old new : List Entry) → Type 0
  WentOut routes count whole old new =
      (count ≡ length routes) × Answered (in_order routes r.order) old new
  WentOut routes count (up_to ending) old new =
      (route : SlotRoute) × (before : List Entry)
      × (slice_get (in_order routes r.order) count ≡ Some route)
      × Answered (take count (in_order routes r.order)) old before × Ends route ending before new

  module _ {C : Type 0} (old new : State C) (may_refuse : ℕ → Ending → Type 0) where
    -- The sends were cut short, and the fault says where. The last send, if they reached only up to a
    -- route, was allowed to end so.
    pub record WereCutShort (fault : DriveFault) (count : ℕ) : Type 0 where
      pub routes : List SlotRoute
      pub command : MultiKey
      pub drivable : IsDrivable r routes command
      pub reach : Reach
      pub reach_is : IsReachOf fault command.form reach
      pub went : WentOut routes count reach old.trace new.trace
      pub allowed : (ending : Option Ending) → reach ≡ up_to ending
          → IsCause may_refuse (length new.trace) new.mark ending

    -- whatever servers do: the fault has its cause, and exactly the first `count` parts were
    -- answered
    abbrev pub IsCutBy : DriveFault → ℕ → Type 0
    IsCutBy fault count = IsEarly r old new fault count ⊎ WereCutShort fault count

    -- if nodes keep to one meaning: nothing was sent, or the sends were cut short, these parts took
    -- effect, and their replies fit
    abbrev pub IsFaultBy : Step C → DriveFault → ℕ → Type 0
    IsFaultBy step fault count = IsEarly r old new fault count
        ⊎ ((cut : WereCutShort fault count)
        × TookEffect r old new step cut.routes cut.command count cut.reach
        × ((error : ErrorParts) → fault ≡ Reply error → ⊥))

-- a part that goes once: one entry for its route, or none if memory ran out
abbrev pub EndsOnce : (SlotRoute → Address → Type 0) → Request → SlotRoute → Option Ending
    → (old new : List Entry) → Type 0
EndsOnce IsNode r route None old new = new ≡ old
EndsOnce IsNode r route (Some ending) old new =
    (e : Entry) × IsEntryOf IsNode r ending route e × (new ≡ old ++ e ∷ [])

-- `IsCutBy` and `IsFaultBy` of parts that go once each
abbrev pub IsCut : {C : Type 0} → (SlotRoute → Address → Type 0) → Request → (old new : State C)
    → (ℕ → Ending → Type 0) → DriveFault → ℕ → Type 0
IsCut IsNode r old new may_refuse fault count =
    IsCutBy (AreSent IsNode r) (EndsOnce IsNode r) r old new may_refuse fault count

abbrev pub IsFault : {C : Type 0} → (SlotRoute → Address → Type 0) → Step C → Request
    → (old new : State C) → (ℕ → Ending → Type 0) → DriveFault → ℕ → Type 0
IsFault IsNode step r old new may_refuse fault count =
    IsFaultBy (AreSent IsNode r) (EndsOnce IsNode r) r old new may_refuse step fault count
