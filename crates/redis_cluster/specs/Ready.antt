-- What the driver knows of a plan before the first send: its command, where each part goes, and what
-- is tried for it.
use Rattle.std.specs.Prelude.{◌≡◌, ◌≤◌, ℕ, List, [], ◌∷◌, ◌++◌, Option, None, Some, map, length, slice_get}
use Rattle.std.specs.List.{All, AllZip, zip}
use Rattle.std.specs.Option.{option_to_list}
use Rattle.cluster_slots.specs.Address.{Address}
use Rattle.cluster_slots.specs.KeySlot.{key_slot}
use Rattle.cluster_slots.specs.SlotRoute.{SlotRoute}
use Rattle.redis_routing.specs.Registry.{Registrations}
use Rattle.redis_routing.specs.Split.{slots_of}
use Rattle.redis_cluster.specs.MultiKey.{MultiKey, multi_key, part_by_slot, part_of, form_by_policy}
use Rattle.redis_cluster.specs.Orders.{times}
use Rattle.redis_cluster.specs.Driven.{Request, IsCoveredCommand}
use Rattle.redis_cluster.specs.Plan.{Plan, tuples_in_split}
use Rattle.redis_cluster.specs.Retry.{RetryState, Try}

-- the plan is one of this command, under these registrations: each tuple's slot has one route, whose
-- part is that of the slot
pub record IsPlanOf (registered : Registrations) (command : MultiKey) (plan : Plan) : Type 0 where
  pub command_is : multi_key registered plan.split.arguments ≡ Some command
  pub form : form_by_policy plan.split.policy ≡ Some command.form
  pub tuples : command.tuples ≡ tuples_in_split plan.split
  pub at_most_once : (slot : ℕ) → times slot (slots_of plan.split.routes) ≤ 1
  pub once : All (λ t. times (key_slot t.key) (slots_of plan.split.routes) ≡ 1) command.tuples
  pub nodes : length plan.nodes ≡ length plan.split.routes
  pub parts : AllZip (λ slot part. multi_key registered (map Some part) ≡ Some (part_of command slot))
      (slots_of plan.split.routes) plan.parts

-- where a part goes, and the part
abbrev pub Target : Type 0
Target = Address × List (List ℕ)

-- those of a plan, route by route
abbrev pub targets : Plan → List Target
targets plan = zip plan.nodes plan.parts

-- a route's node, and its part
abbrev pub IsTarget : (SlotRoute → Address → Type 0) → Request → SlotRoute → Target → Type 0
IsTarget IsNode r route target =
    IsNode route target.0
    × (map Some target.1 ≡ part_by_slot r.names.registered r.arguments route.slot)

-- the plan is of the command that is asked for, and each of its routes has a node
pub record IsReady (IsNode : SlotRoute → Address → Type 0) (r : Request) (plan : Plan)
    (command : MultiKey) : Type 0 where
  pub plan_is : IsPlanOf r.names.registered command plan
  pub is_covered : IsCoveredCommand r (map (λ t. t.0) plan.split.routes) command
  pub targets_are : AllZip (IsTarget IsNode r) (map (λ t. t.0) plan.split.routes)
      (targets plan)

-- the address is the plan's own for one of its routes, which is this one
abbrev pub IsPlanNode : Plan → SlotRoute → Address → Type 0
IsPlanNode plan route address =
    (number : ℕ) × (places : List ℕ) × (slice_get plan.split.routes number ≡ Some (route, places))
    × (slice_get plan.nodes number ≡ Some address)

-- the plan is of this request, and the plan's own nodes are those of its routes
abbrev pub IsPlanFor : Request → Plan → MultiKey → Type 0
IsPlanFor r plan command = IsReady (IsPlanNode plan) r plan command

-- what is tried for a part by its retry
abbrev pub try_by : List (List ℕ) → RetryState → Try
try_by part retry =
    record {
      part = part;
      places = option_to_list retry.target ++ retry.fallback;
      retries = retry.left;
    }

-- what is tried for a part that is sent once
abbrev pub try_once : Address → List (List ℕ) → Try
try_once node part = record { part = part; places = node ∷ []; retries = 0 }

-- a part goes where its retry says, or once to its node if it has none
abbrev pub try_with : Target → Option RetryState → Try
try_with target None = try_once target.0 target.1
try_with target (Some retry) = try_by target.1 retry

-- those of some targets, the first with the first retry
abbrev pub tries_with : List Target → List RetryState → List Try
tries_with [] retries = []
tries_with (target ∷ targets) [] = try_with target None ∷ tries_with targets []
tries_with (target ∷ targets) (retry ∷ retries) =
    try_with target (Some retry) ∷ tries_with targets retries
