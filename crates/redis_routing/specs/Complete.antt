-- Multi-key commands that are complete, and so can be split and sent.
use Rattle.std.specs.Prelude.{◌≡◌, ℕ, All, map, option_map, Bool, cond, List, [], Option, None, Some, length}
use Rattle.cluster_slots.specs.SlotRoute.{SlotRoute}
use Rattle.cluster_slots.specs.ArgPattern.{is_complete}
use Rattle.cluster_slots.specs.declared.arg_pattern.MultiSlotArgPattern.{MultiSlotArgPattern}
use Rattle.redis_routing.specs.Command.{Arguments, command_name}
use Rattle.redis_routing.specs.Names.{Names}
use Rattle.redis_routing.specs.NameWords.{name_words_of}
use Rattle.redis_routing.specs.Registry.{Registrations}
use Rattle.redis_routing.specs.MultiKeyNames.{split_of}
use Rattle.redis_routing.specs.Parts.{part_of_slot}
use Rattle.redis_routing.specs.Routing.{routes_of}
use Rattle.redis_routing.specs.PresentArguments.{present_arguments}
use Rattle.redis_routing.specs.SubCommand.{sub_command_after}

-- the pattern of a command's name, if commands of that name are split
abbrev pub pattern_by_name : Registrations → Option (List ℕ) → Option MultiSlotArgPattern
pattern_by_name registered None = None
pattern_by_name registered (Some name) = option_map (λ split. split.0) (split_of registered name)

-- the part of a slot by a pattern, if there is one
abbrev pub part_by_pattern : Option MultiSlotArgPattern → Arguments → ℕ → Arguments
part_by_pattern None args slot = []
part_by_pattern (Some pattern) args slot = part_of_slot pattern args slot

-- the part of a slot of a multi-key command, as a command of its own
abbrev pub part_by_name : Registrations → Arguments → ℕ → Arguments
part_by_name registered args slot =
    part_by_pattern (pattern_by_name registered (command_name args)) args slot

-- the routes of a complete command by the pattern of its name, if there is one
abbrev pub routes_by : Bool → Arguments → Option MultiSlotArgPattern
    → Option (List (SlotRoute × List ℕ))
routes_by reads args None = None
routes_by reads args (Some pattern) =
    cond (is_complete pattern (length (present_arguments args)))
    (Some (routes_of reads pattern (present_arguments args))) None

abbrev pub routes_by_name : Names → Arguments → Option (List ℕ)
    → Option (List (SlotRoute × List ℕ))
routes_by_name names args None = None
routes_by_name names args (Some name) =
    routes_by (names.only_reads name) args (pattern_by_name names.registered (Some name))

-- the routes of a complete command, with the places of their parts
abbrev pub multi_slot_routes : Names → Arguments → Option (List (SlotRoute × List ℕ))
multi_slot_routes names args = routes_by_name names args (command_name args)

-- The sub-command of the places of each route is the part of its slot.
abbrev pub AreSubCommands : Registrations → Arguments → List (SlotRoute × List ℕ) → Type 0
AreSubCommands registered args routes =
    All
    (λ r. option_map (map Some) (sub_command_after (name_words_of args) args r.1)
    ≡ Some (part_by_name registered args r.0.slot))
    routes
