-- A routing as four numbers, which `include/slotroute.h` names.
use Rattle.std.specs.Prelude.{◌≡◌, ◌<◌, ◌⊎◌, ℕ, zero, suc, List, map, nat_lt, Option, None, Some}
use Rattle.cluster_slots.specs.declared.slot.SlotAddr.{SlotAddr}
use Rattle.cluster_slots.specs.declared.slot.SlotAddr.TheVariants.{Master, ReplicaOptional, ReplicaRequired}
use Rattle.cluster_slots.specs.declared.aggregate_op.AggregateOp.TheVariants.{Min, Sum}
use Rattle.cluster_slots.specs.declared.aggregate_op.LogicalAggregateOp.TheVariants.{And, Or}
use Rattle.redis_routing.specs.declared.policy.ResponsePolicy.{ResponsePolicy}
use Rattle.redis_routing.specs.declared.policy.ResponsePolicy.TheVariants.{OneSucceeded, FirstSucceededNonEmptyOrAllEmpty, AllSucceeded, AggregateLogical, Aggregate, CombineArrays, Special, CombineMaps}
use Rattle.redis_routing.specs.Names.{Names}
use Rattle.redis_routing.specs.Registry.{Registrations}
use Rattle.redis_routing.specs.Routing.{routing}
use Rattle.redis_bytes.specs.Requests.{Words}
use Rattle.redis_routing.specs.RoutingInfo.{Routing, SingleNodeRouting, MultipleNodeRouting, single_node, multi_node, random, random_primary, specific_node, by_address, all_nodes, all_masters, multi_slot}
use Rattle.slotroute_c.specs.declared.routes.RouteNumbers.{RouteNumbers}

-- which node of a slot: 0 its primary, 1 any, 2 a replica
abbrev pub addr_number : SlotAddr → ℕ
addr_number Master = 0
addr_number ReplicaOptional = 1
addr_number ReplicaRequired = 2

-- how several replies make one, or 0 if the layer has no rule
abbrev pub policy_number : Option ResponsePolicy → ℕ
policy_number None = 0
policy_number (Some OneSucceeded) = 1
policy_number (Some FirstSucceededNonEmptyOrAllEmpty) = 2
policy_number (Some AllSucceeded) = 3
policy_number (Some (AggregateLogical And)) = 4
policy_number (Some (AggregateLogical Or)) = 5
policy_number (Some (Aggregate Min)) = 6
policy_number (Some (Aggregate Sum)) = 7
policy_number (Some CombineArrays) = 8
policy_number (Some Special) = 9
policy_number (Some CombineMaps) = 10

-- the policy with this number, or none if it is the number of no policy
abbrev pub IsPolicyOf : ℕ → Option ResponsePolicy → Type 0
IsPolicyOf number policy = (number ≡ policy_number policy) ⊎ ((10 < number) × (policy ≡ None))

abbrev pub routed : ℕ → ℕ → ℕ → ℕ → RouteNumbers
routed kind slot addr policy = record { kind = kind; slot = slot; addr = addr; policy = policy }

-- the one node that a request goes to; no call returns 7, an address
abbrev pub to_one : SingleNodeRouting → RouteNumbers
to_one random = routed 1 0 0 0
to_one random_primary = routed 2 0 0 0
to_one (specific_node route) = routed 3 route.slot (addr_number route.addr) 0
to_one (by_address host port) = routed 7 0 0 0

-- the nodes that a request goes to, and how their replies make one
abbrev pub to_several : MultipleNodeRouting → Option ResponsePolicy → RouteNumbers
to_several all_nodes policy = routed 4 0 0 (policy_number policy)
to_several all_masters policy = routed 5 0 0 (policy_number policy)
to_several (multi_slot routes pattern) policy = routed 6 0 0 (policy_number policy)

-- 0 if the layer does not route the request
abbrev pub routed_of : Option Routing → RouteNumbers
routed_of None = routed 0 0 0 0
routed_of (Some (single_node single)) = to_one single
routed_of (Some (multi_node multiple policy)) = to_several multiple policy

-- the command only reads if the number is not 0
abbrev pub names_for : ℕ → Registrations → Names
names_for only_reads registered =
    record { only_reads = λ name. nat_lt 0 only_reads; registered = registered }

-- where a request goes by the words of its command
abbrev pub routed_by : ℕ → Registrations → Words → RouteNumbers
routed_by only_reads registered words =
    routed_of (routing (names_for only_reads registered) (map Some words))

-- the node by its number: 0 for the primary, else a replica if there is one
abbrev pub addr_of : ℕ → SlotAddr
addr_of zero = Master
addr_of (suc n) = ReplicaRequired
