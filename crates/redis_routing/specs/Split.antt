-- A complete multi-key command, split by slot.
use Rattle.std.specs.Prelude.{◌≡◌, ◌<◌, ◌^◌, ℕ, Bool, true, List, Option, None, Some, length, map, option_map, slice_get}
use Rattle.cluster_slots.specs.SlotRoute.{SlotRoute}
use Rattle.cluster_slots.specs.ArgPattern.{is_complete}
use Rattle.cluster_slots.specs.declared.arg_pattern.MultiSlotArgPattern.{MultiSlotArgPattern}
use Rattle.redis_routing.specs.Command.{Arguments, HasWords, command_name}
use Rattle.redis_routing.specs.NameWords.{name_words_of}
use Rattle.redis_routing.specs.Registry.{Registrations}
use Rattle.redis_routing.specs.MultiKeyNames.{split_of}
use Rattle.redis_routing.specs.Parts.{part_of_slot}
use Rattle.redis_routing.specs.Routing.{routes_of}
use Rattle.redis_routing.specs.PresentArguments.{present_arguments}
use Rattle.redis_routing.specs.declared.policy.ResponsePolicy.{ResponsePolicy}
use Rattle.redis_routing.specs.Policies.{joins_parts}

-- the arguments of the command, its routes with the places of their parts, how its arguments make
-- tuples, and how the replies to its parts make one
pub record Split : Type 0 where
  pub arguments : Arguments
  pub routes : List (SlotRoute × List ℕ)
  pub pattern : MultiSlotArgPattern
  pub policy : ResponsePolicy

-- the slots of routes, in order
abbrev pub slots_of : List (SlotRoute × List ℕ) → List ℕ
slots_of routes = map (λ r. r.0.slot) routes

-- the part of a slot, as a command of its own
abbrev pub split_part : Split → ℕ → Arguments
split_part split slot = part_of_slot split.pattern split.arguments slot

-- the part of the route of this number
abbrev pub route_part : Split → ℕ → Option Arguments
route_part split number =
    option_map (λ r. split_part split r.0.slot) (slice_get split.routes number)

-- the policy of a command's name, if commands of that name are split
abbrev pub policy_by_name : Registrations → Option (List ℕ) → Option ResponsePolicy
policy_by_name registered None = None
policy_by_name registered (Some name) = option_map (λ split. split.1) (split_of registered name)

-- The command's name has a policy, which joins the replies to parts.
abbrev pub HasJoiningPolicy : Registrations → Arguments → Type 0
HasJoiningPolicy registered args =
    (policy : ResponsePolicy) × (policy_by_name registered (command_name args) ≡ Some policy)
    × (joins_parts policy ≡ true)

-- The routes are those of the command, which has a name, is complete and has fewer than 2^63
-- arguments, and the policy joins the replies to its parts.
pub record IsSplit (split : Split) : Type 0 where
  pub few : length split.arguments < 2 ^ 63
  pub name : HasWords (name_words_of split.arguments) split.arguments
  pub complete : is_complete split.pattern (length (present_arguments split.arguments)) ≡ true
  pub is_read : Bool
  pub routes : split.routes ≡ routes_of is_read split.pattern (present_arguments split.arguments)
  pub policy : joins_parts split.policy ≡ true
