-- A command that is routed in one look-up of its name.
use Rattle.std.specs.Prelude.{◌≡◌, Bool, true, false, Option, None, Some, option_map, IfSome}
use Rattle.redis_routing.specs.Command.{Arguments, command_name}
use Rattle.redis_routing.specs.Complete.{multi_slot_routes, pattern_by_name}
use Rattle.redis_routing.specs.Names.{Names}
use Rattle.redis_routing.specs.Routing.{routing, routing_of_routes}
use Rattle.redis_routing.specs.RoutingInfo.{Routing, SingleNodeRouting, MultipleNodeRouting, random, specific_node, all_nodes, all_masters, single_node, multi_node, as_single_node}
use Rattle.redis_routing.specs.Split.{Split, policy_by_name}
use Rattle.redis_routing.specs.declared.routed.NodeGroup.{NodeGroup}
use Rattle.redis_routing.specs.declared.routed.NodeGroup.TheVariants.{AllNodes, AllMasters}
use Rattle.redis_routing.specs.declared.routed.Routed.{Routed}
use Rattle.redis_routing.specs.declared.routed.Routed.TheVariants.{Nowhere, One, Several, Slots}

-- whether a name alone routes a command so: no name has the other two
abbrev pub is_by_name : SingleNodeRouting → Bool
is_by_name random = true
is_by_name (specific_node route) = true
is_by_name _ = false

abbrev pub group_nodes : NodeGroup → MultipleNodeRouting
group_nodes AllNodes = all_nodes
group_nodes AllMasters = all_masters

module _ {R : Type 0} where
  -- where the command goes: with one route, to the node of that route
  abbrev pub routing_of : Routed R → Option Routing
  routing_of Nowhere = None
  routing_of (One info) = Some (single_node (as_single_node info))
  routing_of (Several nodes policy) = Some (multi_node (group_nodes nodes) policy)
  routing_of (Slots split) = Some (routing_of_routes split.pattern (Some split.policy) split.routes)

  -- the split of the command, if it is complete and its name is split
  abbrev pub split_routed : Routed R → Option Split
  split_routed (Slots split) = Some split
  split_routed _ = None

  -- If it is one node, a name alone routes a command there.
  abbrev pub IsByName : Routed R → Type 0
  IsByName (One info) = is_by_name (as_single_node info) ≡ true
  IsByName _ = Unit {0}

  -- The command with these arguments goes where `routing` says. It is `Slots` exactly where
  -- `multi_slot_routes` has routes, also where that is one route.
  pub record IsRouted (names : Names) (args : Arguments) (routed : Routed R) : Type 0 where
    pub goes : routing_of routed ≡ routing names args
    pub routes : option_map (λ s. s.routes) (split_routed routed) ≡ multi_slot_routes names args
    pub arguments : IfSome (split_routed routed) (λ s. s.arguments ≡ args)
    pub pattern : IfSome (split_routed routed)
        (λ s. Some s.pattern ≡ pattern_by_name names.registered (command_name args))
    pub policy : IfSome (split_routed routed)
        (λ s. Some s.policy ≡ policy_by_name names.registered (command_name args))
    pub by_name : IsByName routed
