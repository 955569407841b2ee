-- Laws of split commands.
use Rattle.std.specs.Prelude.{◌≡◌, ◌<◌, ◌≤◌, ℕ, List, Option, Some, None, All, map, option_map, nat_eq, count_by, length}
use Rattle.std.specs.List.{list_any}
use Rattle.std.specs.List.Sorted.{IsStrictlySortedBy}
use Rattle.std.specs.Ordering.{nat_cmp}
use Rattle.cluster_slots.specs.SlotRoute.{SlotRoute}
use Rattle.cluster_slots.specs.ArgPattern.{tuple_args_count}
use Rattle.cluster_slots.specs.declared.arg_pattern.MultiSlotArgPattern.{MultiSlotArgPattern}
use Rattle.redis_routing.specs.Command.{Arguments}
use Rattle.redis_routing.specs.Names.{Names}
use Rattle.redis_routing.specs.NameWords.{name_words_of}
use Rattle.redis_routing.specs.Parts.{part_of_slot}
use Rattle.redis_routing.specs.Routing.{routing}
use Rattle.redis_routing.specs.SubCommand.{sub_command_after}
use Rattle.redis_routing.specs.RoutingInfo.{Routing, MultipleNodeRouting, specific_node, all_nodes, all_masters, multi_slot, single_node, multi_node}

-- how many of the lists have the place
abbrev pub lists_with : ℕ → List (SlotRoute × List ℕ) → ℕ
lists_with place routes = count_by (λ r. list_any (nat_eq place) r.1) routes

-- The cover law: each slot has one route, and the lists of the routes ascend and share out the
-- places of the present arguments, of which a shared one stands in each.
pub record Covers (pattern : MultiSlotArgPattern) (present : List (List ℕ))
    (routes : List (SlotRoute × List ℕ)) : Type 0 where
  pub slots : (slot : ℕ) → count_by (λ r. nat_eq slot r.0.slot) routes ≤ 1
  pub ascending : All (λ r. IsStrictlySortedBy nat_cmp r.1) routes
  pub once : (place : ℕ) → place < tuple_args_count pattern (length present) → lists_with place routes ≡ 1
  pub shared : (place : ℕ) → tuple_args_count pattern (length present) ≤ place → place < length present
      → lists_with place routes ≡ length routes
  pub within : (place : ℕ) → length present ≤ place → lists_with place routes ≡ 0

-- The self-routing law: the part of each route, as a command of its own, goes to that very route.
abbrev pub ArePartsRouted : Names → Arguments → MultiSlotArgPattern → List (SlotRoute × List ℕ)
    → Type 0
ArePartsRouted names args pattern routes =
    All
    (λ r. routing names (part_of_slot pattern args r.0.slot)
    ≡ Some (single_node (specific_node r.0)))
    routes

-- The sub-command of the places of each route is the part of its slot.
abbrev pub ArePartsPicked : Arguments → MultiSlotArgPattern → List (SlotRoute × List ℕ) → Type 0
ArePartsPicked args pattern routes =
    All
    (λ r. option_map (map Some) (sub_command_after (name_words_of args) args r.1)
    ≡ Some (part_of_slot pattern args r.0.slot))
    routes

-- what holds of the routes of a split, if it is one
abbrev pub IfSplitTo : (MultiSlotArgPattern → List (SlotRoute × List ℕ) → Type 0)
    → MultipleNodeRouting → Type 0
IfSplitTo P all_nodes = Unit {0}
IfSplitTo P all_masters = Unit {0}
IfSplitTo P (multi_slot routes pattern) = P pattern routes

abbrev pub IfSplit : (MultiSlotArgPattern → List (SlotRoute × List ℕ) → Type 0) → Option Routing
    → Type 0
IfSplit P None = Unit {0}
IfSplit P (Some (single_node to)) = Unit {0}
IfSplit P (Some (multi_node to policy)) = IfSplitTo P to
