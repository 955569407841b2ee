-- The nine rows agree with the tables of all names.
use Rattle.std.proofs.Common.{◌≡◌, ℕ, List, [], ◌∷◌, ◌++◌, true, Option, None, Some, refl, sym, ap, ◌∙◌, cond, arith}
use Rattle.std.specs.Prelude.{IfSome, option_and_then, is_some}
use Rattle.std.specs.Str.{bytes_eq}
use Rattle.std.proofs.lemmas.Grind.{common_steps}
use Rattle.resp_core.proofs.Cases.{by_test}
use Rattle.cluster_slots.specs.declared.arg_pattern.MultiSlotArgPattern.{MultiSlotArgPattern}
use Rattle.redis_routing.specs.Lookup.{lookup_name}
use Rattle.redis_routing.specs.Policies.{policy_of}
use Rattle.redis_routing.specs.Registry.{Registered, Registrations, is_registrable}
use Rattle.redis_routing.specs.RouteBy.{base_routing, pattern_of}
use Rattle.redis_routing.specs.MultiKeyNames.{split_of, registered_as}
use Rattle.redis_routing.specs.MultiKeyRows.{multi_key_names}
use Rattle.redis_routing.specs.declared.policy.ResponsePolicy.{ResponsePolicy}
use Rattle.redis_routing.specs.declared.route_by.RouteBy.{RouteBy}
use Rattle.redis_routing.specs.declared.route_by.RouteBy.TheVariants.{MultiSlot}
use Rattle.redis_routing.proofs.Agree.{agree}
use Rattle.redis_routing.proofs.TableRows.{all_names, routing-NAMES, policy-NAMES}

-- a pattern and a policy, if both are there
abbrev both : Option MultiSlotArgPattern → Option ResponsePolicy → Option Registered
both (Some pattern) (Some policy) = Some (pattern, policy)
both pattern policy = None

nine-NAMES : (name : List ℕ) → option_and_then (λ v. both (pattern_of (Some v.0)) v.1) (lookup_name all_names name) ≡ lookup_name multi_key_names name
nine-NAMES name = agree (λ v. both (pattern_of (Some v.0)) v.1) all_names multi_key_names refl refl name

by_parts : (o : Option (RouteBy × Option ResponsePolicy)) → both (pattern_of (option_and_then (λ v. Some v.0) o)) (option_and_then (λ v. v.1) o) ≡ option_and_then (λ v. both (pattern_of (Some v.0)) v.1) o
by_parts None = refl
by_parts (Some v) = refl

-- the nine rows are what the tables of all names say of those that are split by slot
nine_rows : (name : List ℕ) → both (pattern_of (base_routing name)) (policy_of name) ≡ lookup_name multi_key_names name
nine_rows name =
    ap (λ w. both (pattern_of w) (policy_of name)) (sym (routing-NAMES name))
    ∙ ap (both (pattern_of (option_and_then (λ v. Some v.0) (lookup_name all_names name)))) (sym (policy-NAMES name))
    ∙ by_parts (lookup_name all_names name) ∙ nine-NAMES name

abbrev or_else : Option Registered → Option Registered → Option Registered
or_else (Some r) other = Some r
or_else None other = other

-- rows before others are looked up first
rows_first : (rows registered : Registrations) (name : List ℕ) → lookup_name (rows ++ registered) name ≡ or_else (lookup_name rows name) (lookup_name registered name)
rows_first [] registered name = refl
rows_first (row ∷ rows) registered name = by_test (bytes_eq row.0 name) (λ equal. rw equal refl) (λ unlike. rw unlike (rows_first rows registered name))

nine_first : (registered : Registrations) (name : List ℕ) → split_of registered name ≡ or_else (lookup_name multi_key_names name) (lookup_name registered name)
unfolding split_of
nine_first registered name = rows_first multi_key_names registered name

by_both : (registered : Registrations) (name : List ℕ) (w : Option RouteBy) (p : Option ResponsePolicy) → base_routing name ≡ w → policy_of name ≡ p → split_of registered name ≡ or_else (both (pattern_of w) p) (lookup_name registered name)
by_both registered name w p way policy = grind (arith, nine_first, nine_rows)

-- one of the nine
pub found_nine : (registered : Registrations) (name : List ℕ) (pattern : MultiSlotArgPattern) (policy : ResponsePolicy) → base_routing name ≡ Some (MultiSlot pattern) → policy_of name ≡ Some policy
    → split_of registered name ≡ Some (pattern, policy)
found_nine registered name pattern policy way joined = by_both registered name (Some (MultiSlot pattern)) (Some policy) way joined

-- a name that the tables don't have
pub found_registered : (registered : Registrations) (name : List ℕ) → base_routing name ≡ None → split_of registered name ≡ lookup_name registered name
found_registered registered name way = by_both registered name None (policy_of name) way refl

no_pattern : (o : Option MultiSlotArgPattern) (p : Option ResponsePolicy) → o ≡ None → both o p ≡ None
no_pattern None p none = refl
no_pattern (Some o) p none = absurd (cc none)

-- the tables don't have a name that may be registered
free_name : (name : List ℕ) (policy : ResponsePolicy) → is_registrable name policy ≡ true → base_routing name ≡ None
free_name name policy may = grind (arith, common_steps)

free_row : (name : List ℕ) (w : RouteBy) (row : Option Registered) → base_routing name ≡ Some w → IfSome row (λ r. is_registrable name r.1 ≡ true) → row ≡ None
free_row name w None way may = refl
free_row name w (Some r) way may = absurd (cc (way, free_name name r.1 may))

-- another name of the tables, under a registry whose names can be registered
pub found_none : (registered : Registrations) (name : List ℕ) (w : RouteBy) → base_routing name ≡ Some w → pattern_of (Some w) ≡ None
    → IfSome (lookup_name registered name) (λ r. is_registrable name r.1 ≡ true) → split_of registered name ≡ None
found_none registered name w way none may = grind (arith, common_steps, by_both registered name (Some w) (policy_of name) way refl, no_pattern (pattern_of (Some w)) (policy_of name) none, free_row name w (lookup_name registered name) way may)

-- a name that the tables don't have is none of the nine
none_of_nine : (name : List ℕ) → base_routing name ≡ None → lookup_name multi_key_names name ≡ None
none_of_nine name way = sym (nine_rows name) ∙ ap (λ w. both (pattern_of w) (policy_of name)) way

free_of_nine : (name : List ℕ) (row : Option Registered) → IfSome row (λ r. is_registrable name r.1 ≡ true) → IfSome row (λ r. lookup_name multi_key_names name ≡ None)
free_of_nine name None may = tt
free_of_nine name (Some r) may = none_of_nine name (free_name name r.1 may)

known_or_not : (nine row : Option Registered) → IfSome row (λ r. nine ≡ None) → cond (is_some nine) None row ≡ row
known_or_not None row free = refl
known_or_not (Some n) None free = refl
known_or_not (Some n) (Some r) free = absurd (cc free)

-- what a name is registered with, under a registry whose names can be registered
pub registered_alone : (registered : Registrations) (name : List ℕ) → IfSome (lookup_name registered name) (λ r. is_registrable name r.1 ≡ true) → registered_as registered name ≡ lookup_name registered name
unfolding registered_as
registered_alone registered name may = known_or_not (lookup_name multi_key_names name) (lookup_name registered name) (free_of_nine name (lookup_name registered name) may)
