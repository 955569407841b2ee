-- How commands of a name are split.
use Rattle.std.specs.Prelude.{◌≡◌, ℕ, List, ◌++◌, true, Option, None, Some, cond, is_some}
use Rattle.redis_routing.specs.Lookup.{lookup_name}
use Rattle.redis_routing.specs.MultiKeyRows.{multi_key_names}
use Rattle.redis_routing.specs.Policies.{joins_parts}
use Rattle.redis_routing.specs.Registry.{Registered, Registrations}
use Rattle.redis_routing.specs.declared.policy.ResponsePolicy.{ResponsePolicy}
use Rattle.redis_routing.specs.declared.route_by.RouteBy.{RouteBy}
use Rattle.redis_routing.specs.declared.route_by.RouteBy.TheVariants.{MultiSlot}

-- How commands of a name are split: by the nine rows, or as the name is registered.
-- `DEL` has `(KeysOnly, Aggregate Sum)`. `GET` has nothing, unless it is registered.
unfoldable pub split_of : Registrations → List ℕ → Option Registered
split_of registered name = lookup_name (multi_key_names ++ registered) name

-- What a name is registered with, if it is none of the nine.
-- `DEL` has nothing. `JSON.MDEL` has what it is registered with.
unfoldable pub registered_as : Registrations → List ℕ → Option Registered
registered_as registered name =
    cond (is_some (lookup_name multi_key_names name)) None (lookup_name registered name)

-- How a name is routed, and its policy, tell how commands of it are split: by this pattern and a
-- policy that joins the replies to parts, or not at all.
abbrev pub TellsSplit : Option Registered → Option RouteBy → Option ResponsePolicy → Type 0
TellsSplit split (Some (MultiSlot pattern)) policy =
    (own : ResponsePolicy) × (policy ≡ Some own) × (joins_parts own ≡ true)
    × (split ≡ Some (pattern, own))
TellsSplit split route_by policy = split ≡ None
