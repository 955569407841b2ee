-- The laws of split commands, for whatever a command is routed to.
use Rattle.std.proofs.Common.{◌≡◌, ℕ, List, [], Bool, true, Option, None, Some, length, sym, ap, subst, arith}
use Rattle.std.specs.Prelude.{nat_lt}
use Rattle.std.proofs.lemmas.Grind.{common_steps}
use Rattle.cluster_slots.specs.SlotRoute.{SlotRoute}
use Rattle.cluster_slots.specs.ArgPattern.{fits}
use Rattle.cluster_slots.specs.declared.arg_pattern.MultiSlotArgPattern.{MultiSlotArgPattern}
use Rattle.redis_routing.specs.Command.{Arguments, command_name}
use Rattle.redis_routing.specs.Laws.{Covers, ArePartsRouted, ArePartsPicked, IfSplit}
use Rattle.redis_routing.specs.Names.{Names}
use Rattle.redis_routing.specs.NameWords.{name_words_of}
use Rattle.redis_routing.specs.Policies.{policy_of}
use Rattle.redis_routing.specs.Registry.{tables_with}
use Rattle.redis_routing.specs.Routing.{to_key, by_count, to_key_or_any, to_key_after, to_slot, routes_of, to_slots, routing, routing_by, routing_by_name}
use Rattle.redis_routing.specs.PresentArguments.{present_arguments}
use Rattle.redis_routing.specs.RouteBy.{base_routing}
use Rattle.redis_routing.specs.declared.policy.ResponsePolicy.{ResponsePolicy}
use Rattle.redis_routing.specs.declared.route_by.RouteBy.{RouteBy}
use Rattle.redis_routing.specs.declared.route_by.RouteBy.TheVariants as route_by
use Rattle.redis_routing.proofs.CommandNames.{has_words}
use Rattle.redis_routing.proofs.Cover.{covers}
use Rattle.redis_routing.proofs.Picks.{parts_picked}
use Rattle.redis_routing.proofs.SelfRouting.{parts_routed, table_words}
use Rattle.resp_core.proofs.Cases.{by_test}

-- a fact of the routes of every split, from that of the splits by pattern
module _ (P : MultiSlotArgPattern → List (SlotRoute × List ℕ) → Type 0) (args : Arguments) (reads : Bool) (policy : Option ResponsePolicy) where
  of_key : (key : Option (List ℕ)) → IfSplit P (to_key reads key)
  of_key None = tt
  of_key (Some key) = tt

  of_count : (count : Option ℕ) (key : Option (List ℕ)) → IfSplit P (by_count reads count key)
  of_count count key = grind (arith, of_key)

  of_key_or_any : (key : Option (List ℕ)) → IfSplit P (to_key_or_any reads key)
  of_key_or_any None = tt
  of_key_or_any (Some key) = tt

  of_key_after : (place : Option ℕ) → IfSplit P (to_key_after reads args place)
  of_key_after None = tt
  of_key_after (Some place) = of_key _

  of_slot : (number : Option ℕ) → IfSplit P (to_slot number)
  of_slot None = tt
  of_slot (Some n) = by_test (nat_lt n 16384) (λ h. rw h tt) (λ h. rw h tt)

  of_slots : (pattern : MultiSlotArgPattern) → (fits pattern (length (present_arguments args)) ≡ true → P pattern (routes_of reads pattern (present_arguments args))) → IfSplit P (to_slots reads policy pattern (present_arguments args))
  of_slots pattern h = grind (arith, common_steps)

  of_route_by : (w : Option RouteBy) → ((pattern : MultiSlotArgPattern) → w ≡ Some (route_by.MultiSlot pattern) → fits pattern (length (present_arguments args)) ≡ true → P pattern (routes_of reads pattern (present_arguments args))) → IfSplit P (routing_by policy reads args w)
  of_route_by w h1 = grind (arith, of_key_or_any, of_slots, of_count, of_key, of_key_after, of_slot)

-- the laws of the routes of a command by its name
module _ (names : Names) (args : Arguments) (name : List ℕ) (named : Some name ≡ command_name args) where
  abbrev reads : Bool
  reads = names.only_reads name

  abbrev policy : Option ResponsePolicy
  policy = (tables_with names.registered).policy name

  abbrev way : Option RouteBy
  way = (tables_with names.registered).route_by name

  routed_by_name : routing_by policy reads args way ≡ routing names args
  routed_by_name = ap (routing_by_name names args) named

  -- the cover law
  pub split_covers : IfSplit (λ pattern routes. Covers pattern (present_arguments args) routes) (routing names args)
  split_covers =
      subst (IfSplit (λ pattern routes. Covers pattern (present_arguments args) routes)) routed_by_name
      (of_route_by (λ pattern routes. Covers pattern (present_arguments args) routes) args reads policy way (λ pattern is whole. covers reads pattern (present_arguments args) whole))

  -- the self-routing law
  pub split_parts : IfSplit (λ pattern routes. ArePartsRouted names args pattern routes) (routing names args)
  split_parts =
      subst (IfSplit (λ pattern routes. ArePartsRouted names args pattern routes)) routed_by_name
      (of_route_by (λ pattern routes. ArePartsRouted names args pattern routes) args reads policy way (λ pattern is whole. parts_routed names args name pattern (sym named) is whole))

  -- the parts by their places
  pub split_picked : IfSplit (λ pattern routes. ArePartsPicked args pattern routes) (routing names args)
  split_picked = grind (arith, routed_by_name, of_route_by, parts_picked, has_words)

-- the names that the tables split have one word
pub table_name_words : (only_reads : List ℕ → Bool) (args : Arguments) (name : List ℕ) → Some name ≡ command_name args → IfSplit (λ pattern routes. name_words_of args ≡ 1) (routing_by (policy_of name) (only_reads name) args (base_routing name))
table_name_words only_reads args name named = of_route_by (λ pattern routes. name_words_of args ≡ 1) args (only_reads name) (policy_of name) (base_routing name) (λ pattern is whole. table_words args name pattern named is)

-- where a command goes by the tables, without a registry
pub table_routing : (only_reads : List ℕ → Bool) (args : Arguments) (name : List ℕ) → Some name ≡ command_name args → routing_by (policy_of name) (only_reads name) args (base_routing name) ≡ routing (record { only_reads = only_reads; registered = [] }) args
table_routing only_reads args name named = grind (arith, common_steps)

-- so it is where no name is registered
pub split_words : (only_reads : List ℕ → Bool) (args : Arguments) (name : List ℕ) → Some name ≡ command_name args → IfSplit (λ pattern routes. name_words_of args ≡ 1) (routing (record { only_reads = only_reads; registered = [] }) args)
split_words only_reads args name named = grind (arith, table_routing, table_name_words)

-- a fact of the routes of a split is one of every command, since a command without a name is not split
pub of_any_name : (P : MultiSlotArgPattern → List (SlotRoute × List ℕ) → Type 0) (names : Names) (args : Arguments)
    → ((name : List ℕ) → Some name ≡ command_name args → IfSplit P (routing names args)) → (name : Option (List ℕ)) → name ≡ command_name args → IfSplit P (routing names args)
of_any_name P names args each None none = subst (IfSplit P) (ap (routing_by_name names args) none) tt
of_any_name P names args each (Some name) named = each name named
