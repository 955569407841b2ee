-- The tables of names by which commands are routed.
use Rattle.std.specs.Prelude.{ℕ, List, Option}
use Rattle.redis_routing.specs.Policies.{policy_of}
use Rattle.redis_routing.specs.RouteBy.{base_routing}
use Rattle.redis_routing.specs.declared.policy.ResponsePolicy.{ResponsePolicy}
use Rattle.redis_routing.specs.declared.route_by.RouteBy.{RouteBy}

-- how each name is routed, and its policy, where it has them
pub record NameTables : Type 0 where
  pub route_by : List ℕ → Option RouteBy
  pub policy : List ℕ → Option ResponsePolicy

-- the project's own tables
abbrev pub default_tables : NameTables
default_tables = record { route_by = base_routing; policy = policy_of }
