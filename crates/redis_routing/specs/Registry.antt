-- Registered names: commands over many keys that the tables don't have, as those of a module. Each
-- name stands with how its arguments make tuples, and how the replies to its parts make one.
use Rattle.std.specs.Prelude.{ℕ, List, length, Bool, ◌&&◌, ◌||◌, not, if◌then◌else◌, nat_eq, Option, None, Some, is_some, is_none, option_map}
use Rattle.std.specs.List.{list_any, before_first, after_first}
use Rattle.cluster_slots.specs.declared.arg_pattern.MultiSlotArgPattern.{MultiSlotArgPattern}
use Rattle.redis_routing.specs.Lookup.{lookup_name}
use Rattle.redis_routing.specs.NameTables.{NameTables}
use Rattle.redis_routing.specs.Policies.{joins_parts, policy_of}
use Rattle.redis_routing.specs.RouteBy.{base_routing}
use Rattle.redis_routing.specs.TwoWords.{takes_second}
use Rattle.redis_routing.specs.declared.policy.ResponsePolicy.{ResponsePolicy}
use Rattle.redis_routing.specs.declared.route_by.RouteBy.{RouteBy}
use Rattle.redis_routing.specs.declared.route_by.RouteBy.TheVariants.{MultiSlot}

-- what a name is registered with
abbrev pub Registered : Type 0
Registered = MultiSlotArgPattern × ResponsePolicy

-- names in ASCII upper case, each with what it is registered with
abbrev pub Registrations : Type 0
Registrations = List (List ℕ × Registered)

abbrev pub is_empty : List ℕ → Bool
is_empty text = nat_eq (length text) 0

abbrev pub is_space : ℕ → Bool
is_space byte = nat_eq byte 32

abbrev pub has_space : List ℕ → Bool
has_space text = list_any is_space text

-- whether the text is one word: it is not empty and has no space
abbrev pub is_one_word : List ℕ → Bool
is_one_word text = not (is_empty text) && not (has_space text)

-- whether a name can't be registered. `COUNTKEYS` and `OBJECT PUT` can. The empty name can't, nor
-- `CLIENT`, whose second word is missing, nor `FOO BAR`, since FOO takes no second word, nor
-- `OBJECT A B`, which has a third.
abbrev pub is_bad_name : List ℕ → Bool
is_bad_name name =
    if has_space name
    then not (takes_second (before_first is_space name)
    && is_one_word (after_first is_space name))
    else is_empty name || takes_second name

-- whether the tables have the name, as `MGET`, or it is registered
abbrev pub is_taken : Registrations → List ℕ → Bool
is_taken registry name = is_some (base_routing name) || is_some (lookup_name registry name)

-- whether the replies to the parts of a command can't make one by this policy
abbrev pub is_bad_policy : ResponsePolicy → Bool
is_bad_policy policy = not (joins_parts policy)

-- whether a name may stand in a registry with this policy
abbrev pub is_registrable : List ℕ → ResponsePolicy → Bool
is_registrable name policy =
    not (is_bad_name name) && is_none (base_routing name) && not (is_bad_policy policy)

-- how a registered name is routed: its commands are split by slot
abbrev pub registered_routing : Option Registered → Option RouteBy
registered_routing registered = option_map (λ r. MultiSlot r.0) registered

abbrev pub registered_policy : Option Registered → Option ResponsePolicy
registered_policy registered = option_map (λ r. r.1) registered

-- how a name is routed by the project's own tables, or where they don't have it, by a registry
abbrev pub routing_or : Option RouteBy → Option Registered → Option RouteBy
routing_or (Some route_by) registered = Some route_by
routing_or None registered = registered_routing registered

-- its policy by the tables, or where they don't route the name, by a registry
abbrev pub policy_or : Option RouteBy → Option ResponsePolicy → Option Registered → Option ResponsePolicy
policy_or (Some route_by) policy registered = policy
policy_or None policy registered = registered_policy registered

-- the project's own tables with the rows of a registry after them
abbrev pub tables_with : Registrations → NameTables
tables_with registry = record {
  route_by = λ name. routing_or (base_routing name) (lookup_name registry name);
  policy = λ name. policy_or (base_routing name) (policy_of name) (lookup_name registry name);
}
