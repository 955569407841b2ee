-- A split command by its lists of indices is the command by its tuples: the same routes and parts.
use Rattle.std.proofs.Common.{◌≡◌, ℕ, ◌≤◌, List, [], ◌∷◌, ◌++◌, Some, map, option_map, length, refl, sym, ap, ◌∙◌, arith}
use Rattle.std.proofs.lemmas.Grind.{common_steps}
use Rattle.std.specs.Prelude.{IfSome, slice_get}
use Rattle.std.specs.List.{flat_map}
use Rattle.std.specs.Option.{option_to_list}
use Rattle.std.proofs.lemmas.Bool.Decides.{nat_tests}
use Rattle.std.proofs.lemmas.List.{length-drop}
use Rattle.std.proofs.lemmas.Simd.{map-map}
use Rattle.cluster_slots.specs.SlotRoute.{SlotRoute}
use Rattle.cluster_slots.specs.declared.arg_pattern.MultiSlotArgPattern.{MultiSlotArgPattern}
use Rattle.redis_routing.specs.Command.{Arguments}
use Rattle.redis_routing.specs.Names.{Names}
use Rattle.redis_routing.specs.Registry.{Registrations}
use Rattle.redis_routing.specs.Tuples.{Tuple, arguments_of, shared_in}
use Rattle.redis_routing.specs.Complete.{multi_slot_routes, part_by_name}
use Rattle.redis_routing.specs.Split.{HasJoiningPolicy}
use Rattle.redis_cluster.specs.MultiKey.{KeyTuple, MultiKey, command_routes, multi_key, part_by_slot}
use Rattle.redis_cluster.specs.PlacedTuples.{unplaced}
use Rattle.redis_cluster.specs.Driven.{Request, command_routes_by, IsCoveredCommand}
use Rattle.redis_cluster.proofs.SplitParts.{command_of_routes, filter-map, is_made, no_command, pattern_made, routes_made, same_slots}

-- the routes by the command's slots
pub routes_by_command : (names : Names) (args : Arguments) (command : MultiKey) (routes : List (SlotRoute × List ℕ)) → multi_key names.registered args ≡ Some command → multi_slot_routes names args ≡ Some routes
    → map (λ r. r.0) routes ≡ command_routes names.only_reads command
routes_by_command names args command routes is routed = grind (arith, common_steps, is_made names.registered args command is, routes_made, map-map, same_slots)

-- the routes of a covered command are those of its arguments
pub covered_routes : (r : Request) (routes : List SlotRoute) (command : MultiKey) → IsCoveredCommand r routes command → command_routes_by r.names r.arguments ≡ Some routes
covered_routes r routes command is = ap (option_map (command_routes r.names.only_reads)) is.command_is ∙ ap Some (sym is.routes_are)

-- a command has routes just where it is complete, and they are those of its slots
pub routes_are : (names : Names) (args : Arguments) → IfSome (multi_slot_routes names args) (λ routes. HasJoiningPolicy names.registered args)
    → option_map (map (λ r. r.0)) (multi_slot_routes names args) ≡ option_map (command_routes names.only_reads) (multi_key names.registered args)
routes_are names args = grind (arith, no_command, command_of_routes, routes_by_command)

-- the arguments of a tuple
abbrev pub tuple_args : KeyTuple → List (List ℕ)
tuple_args t = t.key ∷ t.extras

-- the arguments of tuples do not depend on where they stand
same_arguments : (ts : List Tuple) → flat_map arguments_of ts ≡ flat_map tuple_args (map unplaced ts)
same_arguments [] = refl
same_arguments (t ∷ ts) = ap (λ words. (t.key ∷ t.extras) ++ words) (same_arguments ts)

-- a list of one thing at most
at_most_one : {X : Type 0} (xs : List X) → length xs ≤ 1 → xs ≡ option_to_list (slice_get xs 0)
at_most_one [] few = refl
at_most_one (x ∷ []) few = refl
at_most_one (x ∷ y ∷ xs) few = absurd (omega arith)

-- tuples share one argument at most
one_shared : (pattern : MultiSlotArgPattern) (present : List (List ℕ)) → length (shared_in pattern present) ≤ 1
one_shared pattern present = grind (arith, length-drop, nat_tests)

-- the part of a slot by the command's tuples
pub part_by_command : (registry : Registrations) (args : Arguments) (command : MultiKey) (slot : ℕ) → multi_key registry args ≡ Some command → part_by_name registry args slot ≡ part_by_slot registry args slot
part_by_command registry args command slot is = grind (arith, common_steps, is_made registry args command is, same_arguments, filter-map, at_most_one, one_shared, pattern_made)
