-- What the name of a command says of where it goes.
use Rattle.std.specs.Prelude.{◌≡◌, ℕ, List, Bool, true, Option, None, Some, is_some}
use Rattle.redis_routing.specs.Command.{Arguments, command_name}
use Rattle.redis_routing.specs.Complete.{multi_slot_routes, pattern_by_name, routes_by}
use Rattle.redis_routing.specs.Names.{Names}
use Rattle.redis_routing.specs.Policies.{joins_parts}
use Rattle.redis_routing.specs.PresentArguments.{present_arguments}
use Rattle.redis_routing.specs.ReadOnly.{is_among}
use Rattle.redis_routing.specs.Registry.{Registrations}
use Rattle.redis_routing.specs.RouteBy.{pattern_of}
use Rattle.redis_routing.specs.Routed.{group_nodes}
use Rattle.redis_routing.specs.Routing.{routing, routing_by, to_slots}
use Rattle.redis_routing.specs.RoutingInfo.{Routing, multi_node, one_node}
use Rattle.redis_routing.specs.Split.{policy_by_name}
use Rattle.redis_routing.specs.declared.name_rule.NameRule.{NameRule}
use Rattle.redis_routing.specs.declared.name_rule.NameRule.TheVariants.{Split, Whole}
use Rattle.redis_routing.specs.declared.name_rule.ReadCommands.{ReadCommands}
use Rattle.redis_routing.specs.declared.name_rule.ReadCommands.TheVariants.{Named, All}
use Rattle.redis_routing.specs.declared.rules.Destination.{Destination}
use Rattle.redis_routing.specs.declared.rules.Destination.TheVariants.{One, Several}

-- whether commands of a name only read
abbrev pub only_reads_in : ReadCommands → List ℕ → Bool
only_reads_in (Named names) name = is_among names.now name
only_reads_in All name = true

abbrev pub names_by : ReadCommands → Registrations → Names
names_by reads registered = record { only_reads = only_reads_in reads; registered = registered }

-- It is the rule of the command's name: the command goes where `routing` says, and is split as its
-- name tells.
abbrev pub IsRuleFor : Names → Arguments → NameRule → Type 0
IsRuleFor names args (Split pattern policy reads) =
    (to_slots reads (Some policy) pattern (present_arguments args) ≡ routing names args)
    × (routes_by reads args (Some pattern) ≡ multi_slot_routes names args)
    × (Some pattern ≡ pattern_by_name names.registered (command_name args))
    × (Some policy ≡ policy_by_name names.registered (command_name args))
    × (joins_parts policy ≡ true)
    × (is_some (command_name args) ≡ true)
IsRuleFor names args (Whole route_by policy reads) =
    (pattern_of route_by ≡ None)
    × (routing_by policy reads args route_by ≡ routing names args)
    × (None ≡ multi_slot_routes names args)

-- where a command goes that is not split
abbrev pub destination_routing : Destination → Option Routing
destination_routing (One node) = one_node node
destination_routing (Several nodes policy) = Some (multi_node (group_nodes nodes) policy)
