-- Routing: where a command goes, by how its name is routed.
use Rattle.std.specs.Prelude.{◌+◌, ℕ, zero, suc, Bool, cond, List, [], ◌∷◌, map, length, Option, None, Some, codes, position, nat_lt, option_map}
use Rattle.cluster_slots.specs.KeySlot.{key_slot}
use Rattle.cluster_slots.specs.Number.{number_in}
use Rattle.cluster_slots.specs.SlotRoute.{SlotRoute}
use Rattle.cluster_slots.specs.declared.slot.SlotAddr.{SlotAddr}
use Rattle.cluster_slots.specs.declared.slot.SlotAddr.TheVariants.{Master, ReplicaOptional}
use Rattle.cluster_slots.specs.ArgPattern.{fits}
use Rattle.cluster_slots.specs.declared.arg_pattern.MultiSlotArgPattern.{MultiSlotArgPattern}
use Rattle.redis_routing.specs.Command.{Arguments, argument, command_name, is_word}
use Rattle.redis_routing.specs.PresentArguments.{present_arguments}
use Rattle.redis_routing.specs.Tuples.{tuples_in}
use Rattle.redis_routing.specs.Parts.{slot_of, first_appearances, places_in_slot}
use Rattle.redis_routing.specs.RoutingInfo.{Routing, random, specific_node, all_nodes, all_masters, multi_slot, single_node, multi_node}
use Rattle.redis_routing.specs.Names.{Names}
use Rattle.redis_routing.specs.Registry.{tables_with}
use Rattle.redis_routing.specs.declared.policy.ResponsePolicy.{ResponsePolicy}
use Rattle.redis_routing.specs.declared.route_by.RouteBy.{RouteBy}
use Rattle.redis_routing.specs.declared.route_by.RouteBy.TheVariants as route_by

-- which nodes of a key's slot: a replica too, where the command only reads
abbrev pub nodes_for : Bool → SlotAddr
nodes_for reads = cond reads ReplicaOptional Master

-- to the slot of the key, if the key is there
abbrev pub to_key : Bool → Option (List ℕ) → Option Routing
to_key reads key =
    option_map
    (λ k. single_node (specific_node (record { slot = key_slot k; addr = nodes_for reads }))) key

-- by the count of keys and the key after it: no key, any node
abbrev pub by_count : Bool → Option ℕ → Option (List ℕ) → Option Routing
by_count reads None key = None
by_count reads (Some zero) key = Some (single_node random)
by_count reads (Some (suc n)) key = to_key reads key

-- to the slot of the key, or to any node where there is none
abbrev pub to_key_or_any : Bool → Option (List ℕ) → Option Routing
to_key_or_any reads None = Some (single_node random)
to_key_or_any reads (Some key) = to_key reads (Some key)

-- to the key at the place after this one
abbrev pub to_key_after : Bool → Arguments → Option ℕ → Option Routing
to_key_after reads args None = None
to_key_after reads args (Some place) = to_key reads (argument args (place + 1))

-- to the primary of the slot of this number, if it is a slot's
abbrev pub to_slot : Option ℕ → Option Routing
to_slot None = None
to_slot (Some n) =
    cond (nat_lt n 16384) (Some (single_node (specific_node (record { slot = n; addr = Master }))))
    None

-- the number of so many bits that an argument writes
abbrev pub argument_number : ℕ → Option (List ℕ) → Option ℕ
argument_number bits None = None
argument_number bits (Some text) = number_in bits text

-- the route of a slot, and the places of its part
abbrev pub route_of_slot : Bool → MultiSlotArgPattern → List (List ℕ) → ℕ → SlotRoute × List ℕ
route_of_slot reads pattern present slot =
    (record { slot = slot; addr = nodes_for reads }, places_in_slot pattern present slot)

-- one route for each slot of a key, by the first key of each slot
abbrev pub routes_of : Bool → MultiSlotArgPattern → List (List ℕ) → List (SlotRoute × List ℕ)
routes_of reads pattern present =
    map (route_of_slot reads pattern present)
    (first_appearances (map slot_of (tuples_in pattern present)))

-- to one node, where all keys have one slot, or else to a node of each slot
abbrev pub routing_of_routes : MultiSlotArgPattern → Option ResponsePolicy
    → List (SlotRoute × List ℕ) → Routing
routing_of_routes pattern policy [] = multi_node (multi_slot [] pattern) policy
routing_of_routes pattern policy (only ∷ []) = single_node (specific_node only.0)
routing_of_routes pattern policy (route ∷ other ∷ routes) =
    multi_node (multi_slot (route ∷ other ∷ routes) pattern) policy

-- to the slots of the keys, if the present arguments make whole tuples
abbrev pub to_slots : Bool → Option ResponsePolicy → MultiSlotArgPattern → List (List ℕ)
    → Option Routing
to_slots reads policy pattern present =
    cond (fits pattern (length present))
    (Some (routing_of_routes pattern policy (routes_of reads pattern present))) None

-- where a command goes by how its name is routed and by its policy
abbrev pub routing_by : Option ResponsePolicy → Bool → Arguments → Option RouteBy → Option Routing
routing_by policy reads args None = to_key_or_any reads (argument args 1)
routing_by policy reads args (Some route_by.AllNodes) = Some (multi_node all_nodes policy)
routing_by policy reads args (Some route_by.AllMasters) = Some (multi_node all_masters policy)
routing_by policy reads args (Some (route_by.MultiSlot pattern)) =
    to_slots reads policy pattern (present_arguments args)
routing_by policy reads args (Some route_by.Undefined) = None
routing_by policy reads args (Some (route_by.CountAt n)) =
    by_count reads (argument_number 64 (argument args n)) (argument args (n + 1))
routing_by policy reads args (Some (route_by.KeyAt n)) = to_key reads (argument args n)
routing_by policy reads args (Some route_by.KeyAfterStreams) =
    to_key_after reads args (position (is_word (codes "STREAMS")) args)
routing_by policy reads args (Some route_by.Random) = Some (single_node random)
routing_by policy reads args (Some (route_by.SlotAt n)) =
    to_slot (argument_number 16 (argument args n))

-- where a command of this name goes: by the tables, or where they don't have the name, as it is
-- registered
abbrev pub routing_by_name : Names → Arguments → Option (List ℕ) → Option Routing
routing_by_name names args None = None
routing_by_name names args (Some name) =
    routing_by ((tables_with names.registered).policy name) (names.only_reads name) args
    ((tables_with names.registered).route_by name)

abbrev pub routing : Names → Arguments → Option Routing
routing names args = routing_by_name names args (command_name args)
