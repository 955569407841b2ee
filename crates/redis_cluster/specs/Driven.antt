-- What a multi-key command leaves at the nodes, and answers, when it was sent part by part.
use Rattle.std.specs.Prelude.{◌≡◌, ◌<◌, ◌≤◌, ◌+◌, ℕ, List, ◌∷◌, ◌++◌, Option, Some, map, option_map, length}
use Rattle.std.specs.List.{All, AllZip}
use Rattle.resp_core.specs.Reply.{Reply}
use Rattle.cluster_slots.specs.Address.{Address}
use Rattle.cluster_slots.specs.SlotRoute.{SlotRoute}
use Rattle.cluster_map.specs.SlotNodes.{SlotNodes}
use Rattle.cluster_map.specs.RangeMap.{IsUncovered}
use Rattle.cluster_map.specs.RangeMap as ranges
use Rattle.cluster_map.specs.ReplyNode.{IsCovered}
use Rattle.redis_routing.specs.Command.{Arguments}
use Rattle.redis_routing.specs.Names.{Names}
use Rattle.redis_cluster.specs.MultiKey.{MultiKey, command_routes, multi_key, part_by_slot}
use Rattle.redis_cluster.specs.Orders.{NamesOnce, in_order, tuples_of_slots}
use Rattle.redis_cluster.specs.Trace.{Entry, Ending, answered}
use Rattle.redis_cluster.specs.State.{State}
use Rattle.redis_cluster.specs.Unsplit.{Step, act_of, after, keyspace_after, reply_to}

-- what is asked of the driver: a command's arguments, which names only read and which are
-- registered, the entries of the map, and the order of the routes
pub record Request : Type 0 where
  pub arguments : Arguments
  pub names : Names
  pub map : List (ranges.RangeEntry SlotNodes)
  pub order : List ℕ

abbrev pub request : Arguments → Names → List (ranges.RangeEntry SlotNodes) → List ℕ → Request
request args names map order = record { arguments = args; names = names; map = map; order = order }

-- the routes of a command, by their numbers, if it is complete
abbrev pub command_routes_by : Names → Arguments → Option (List SlotRoute)
command_routes_by names args =
    option_map (command_routes names.only_reads) (multi_key names.registered args)

-- the first of the routes that has no node has this slot
pub record IsFirstUncovered (entries : List (ranges.RangeEntry SlotNodes)) (routes : List SlotRoute)
    (slot : ℕ) : Type 0 where
  pub before : List SlotRoute
  pub route : SlotRoute
  pub rest : List SlotRoute
  pub routes_are : routes ≡ before ++ route ∷ rest
  pub covered : All (λ r. IsCovered entries r.slot) before
  pub uncovered : IsUncovered entries route.slot
  pub slot_is : slot ≡ route.slot

-- The command is complete, with these routes, and each route's slot has a node.
pub record IsCoveredCommand (r : Request) (routes : List SlotRoute) (command : MultiKey)
    : Type 0 where
  pub command_is : multi_key r.names.registered r.arguments ≡ Some command
  pub routes_are : routes ≡ command_routes r.names.only_reads command
  pub covered : All (λ route. IsCovered r.map route.slot) routes

-- It can be driven: the order names each of its routes once, too.
pub record IsDrivable (r : Request) (routes : List SlotRoute) (command : MultiKey) : Type 0 where
  pub is_covered : IsCoveredCommand r routes command
  pub order : NamesOnce (length routes) r.order

module _ (IsNode : SlotRoute → Address → Type 0) (r : Request) where
  -- the entry of the part of a route's slot, sent to a node of the route
  abbrev pub IsEntryOf : Ending → SlotRoute → Entry → Type 0
  IsEntryOf ending route e =
      IsNode route e.node
      × (map Some e.args ≡ part_by_slot r.names.registered r.arguments route.slot)
      × (e.ending ≡ ending)

  -- the trace grew by an answered entry for each of these routes, in their order
  pub record AreSent (routes : List SlotRoute) (old new : List Entry) : Type 0 where
    pub entries : List Entry
    pub grew : new ≡ old ++ entries
    pub each : AllZip (IsEntryOf answered) routes entries

-- Each part was answered, in the order given, whatever the answers are. `Answered` says of routes
-- that the trace grew by an answer to each, in their order.
pub record IsDeliveredBy (Answered : List SlotRoute → (old new : List Entry) → Type 0) (r : Request)
    (old new : List Entry) : Type 0 where
  pub routes : List SlotRoute
  pub command : MultiKey
  pub drivable : IsDrivable r routes command
  pub trace : Answered (in_order routes r.order) old new

-- The command was driven to its end: it was delivered, and the keyspace and the reply are those of
-- the unsplit command.
pub record IsDrivenBy {C : Type 0} (Answered : List SlotRoute → (old new : List Entry) → Type 0)
    (step : Step C) (r : Request) (old new : State C) (value : Reply) : Type 0 where
  pub delivered : IsDeliveredBy Answered r old.trace new.trace
  pub keyspace : new.keyspace ≡ keyspace_after step delivered.command old.keyspace
  pub reply : value ≡ reply_to step delivered.command old.keyspace

-- `IsDeliveredBy` and `IsDrivenBy` of parts that go once each, to a node of their route
abbrev pub IsDelivered : (SlotRoute → Address → Type 0) → Request → (old new : List Entry) → Type 0
IsDelivered IsNode r old new = IsDeliveredBy (AreSent IsNode r) r old new

abbrev pub IsDriven : {C : Type 0} → (SlotRoute → Address → Type 0) → Step C → Request
    → (old new : State C) → Reply → Type 0
IsDriven IsNode step r old new value = IsDrivenBy (AreSent IsNode r) step r old new value

-- the keyspace is that of the tuples of these routes' slots, in the order of the arguments
abbrev pub RoutesTookEffect : {C : Type 0} → Step C → (old new : State C) → MultiKey → List SlotRoute
    → Type 0
RoutesTookEffect step old new command routes =
    new.keyspace ≡ after (act_of step command)
    (tuples_of_slots (map (λ route. route.slot) routes) command.tuples) old.keyspace

-- each entry that the trace grew by was answered
abbrev pub AreAllAnswered : List Entry → List Entry → Type 0
AreAllAnswered old new =
    (entries : List Entry) × (new ≡ old ++ entries) × All (λ e. e.ending ≡ answered) entries

-- What is needed besides memory, so that a command is driven to its end: it can be driven, and each
-- send of its parts must be answered. None may be refused or redirected, or lose its reply.
pub record IsUnhindered (may_refuse : ℕ → Ending → Type 0) (r : Request) (trace : List Entry)
    : Type 0 where
  pub routes : List SlotRoute
  pub command : MultiKey
  pub drivable : IsDrivable r routes command
  pub willing : (number : ℕ) → length trace ≤ number → number < length trace + length routes
      → (ending : Ending) → may_refuse number ending → ending ≡ answered
