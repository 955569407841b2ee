-- The policies of the names that split by slot join the replies to parts.
use Rattle.std.proofs.Common.{◌≡◌, ℕ, List, Bool, true, false, Option, None, Some, refl, sym, ap, ◌∙◌, arith}
use Rattle.std.specs.Prelude.{IfSome}
use Rattle.std.proofs.lemmas.Grind.{common_steps}
use Rattle.cluster_slots.specs.declared.arg_pattern.MultiSlotArgPattern.{MultiSlotArgPattern}
use Rattle.redis_routing.specs.Lookup.{lookup_name}
use Rattle.redis_routing.specs.MultiKeyNames.{TellsSplit, split_of}
use Rattle.redis_routing.specs.Policies.{joins_parts, policy_of}
use Rattle.redis_routing.specs.Registry.{Registered, Registrations, is_registrable, policy_or, routing_or, tables_with}
use Rattle.redis_routing.specs.RouteBy.{base_routings, base_routing}
use Rattle.redis_routing.specs.declared.policy.ResponsePolicy.{ResponsePolicy}
use Rattle.redis_routing.specs.declared.route_by.RouteBy.{RouteBy}
use Rattle.redis_routing.specs.declared.route_by.RouteBy.TheVariants as route_by
use Rattle.redis_routing.proofs.NineNames.{found_nine, found_none, found_registered}
use Rattle.redis_routing.proofs.Rows.{each_row}

abbrev is_joining : Option ResponsePolicy → Bool
is_joining None = false
is_joining (Some policy) = joins_parts policy

abbrev joins_if_split : List ℕ → Option RouteBy → Bool
joins_if_split name (Some (route_by.MultiSlot pattern)) = is_joining (policy_of name)
joins_if_split name _ = true

each_joins : (name : List ℕ) → joins_if_split name (base_routing name) ≡ true
unfolding base_routing policy_of
each_joins name = each_row joins_if_split (λ n. refl) base_routings refl name

split_joins : (name : List ℕ) (pattern : MultiSlotArgPattern) → base_routing name ≡ Some (route_by.MultiSlot pattern) → is_joining (policy_of name) ≡ true
split_joins name pattern is = sym (ap (joins_if_split name) is) ∙ each_joins name

-- each such name has a policy
pub split_has_policy : (name : List ℕ) (pattern : MultiSlotArgPattern) → base_routing name ≡ Some (route_by.MultiSlot pattern) → policy_of name ≡ None → ⊥
split_has_policy name pattern is none = cc (split_joins name pattern is, ap is_joining none)

-- and that joins replies
pub split_policy_joins : (name : List ℕ) (pattern : MultiSlotArgPattern) (policy : ResponsePolicy) → base_routing name ≡ Some (route_by.MultiSlot pattern) → policy_of name ≡ Some policy → joins_parts policy ≡ true
split_policy_joins name pattern policy is found = sym (ap is_joining found) ∙ split_joins name pattern is

registrable_joins : (name : List ℕ) (policy : ResponsePolicy) → is_registrable name policy ≡ true → joins_parts policy ≡ true
registrable_joins name policy may = grind (arith, common_steps)

module _ (registered : Registrations) (name : List ℕ) where
  by_rows : (way : Option RouteBy) (policy : Option ResponsePolicy) (row : Option Registered) → base_routing name ≡ way → policy_of name ≡ policy → lookup_name registered name ≡ row
      → IfSome row (λ r. is_registrable name r.1 ≡ true) → TellsSplit (split_of registered name) (routing_or way row) (policy_or way policy row)
  by_rows None policy None base own found may = found_registered registered name base ∙ found
  by_rows None policy (Some r) base own found may = (r.1, refl, registrable_joins name r.1 may, found_registered registered name base ∙ found)
  by_rows (Some (route_by.MultiSlot pattern)) None row base own found may = absurd (split_has_policy name pattern base own)
  by_rows (Some (route_by.MultiSlot pattern)) (Some policy) row base own found may =
      (policy, refl, split_policy_joins name pattern policy base own, found_nine registered name pattern policy base own)
  by_rows (Some way) policy row base own found may = found_none registered name way base refl (rw found may)

  -- what a look-up tells of the split, under a registry whose names can be registered
  pub tells_split : IfSome (lookup_name registered name) (λ r. is_registrable name r.1 ≡ true) → (way : Option RouteBy) (policy : Option ResponsePolicy)
      → way ≡ (tables_with registered).route_by name → policy ≡ (tables_with registered).policy name → TellsSplit (split_of registered name) way policy
  tells_split may way policy routed joined = rw (routed, joined) (by_rows (base_routing name) (policy_of name) (lookup_name registered name) refl refl refl may)

-- a name that is routed otherwise is not split
pub not_split : (split : Option Registered) (way : RouteBy) (policy : Option ResponsePolicy) → ((pattern : MultiSlotArgPattern) → way ≡ route_by.MultiSlot pattern → ⊥) → TellsSplit split (Some way) policy → split ≡ None
not_split split (route_by.MultiSlot pattern) policy other told = absurd (other pattern refl)
not_split split way policy other told = told
