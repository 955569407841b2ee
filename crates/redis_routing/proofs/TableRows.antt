-- The tables in the code have the rows of those in specs/.
use Rattle.std.proofs.Common.{◌≡◌, ℕ, List, [], Option, None, Some, refl, sym, ap, ◌∙◌, ◌++◌, ◌-◌, ◌<◌, ◌≤◌, map, arith}
use Rattle.std.proofs.Math.Path.{fun_ext}
use Rattle.std.specs.Prelude.{option_and_then}
use Rattle.redis_routing.specs.Lookup.{lookup_name, has_name}
use Rattle.redis_routing.specs.RouteBy.{base_routings, base_routing}
use Rattle.redis_routing.specs.Policies.{policies, policy_of}
use Rattle.redis_routing.specs.TwoWords.{two_word_names, takes_second}
use Rattle.redis_routing.specs.NameTables.{default_tables}
use Rattle.redis_routing.specs.Registry.{tables_with, routing_or, policy_or}
use Rattle.redis_routing.specs.declared.policy.ResponsePolicy.{ResponsePolicy}
use Rattle.redis_routing.specs.declared.route_by.RouteBy.{RouteBy}
use Rattle.redis_routing.specs.Places.{name_hash, row_of, value_at}
use Rattle.redis_routing.specs.declared.places.TheConstants.{NAME_PLACES}
use Rattle.redis_routing.specs.declared.tables.TheConstants.{NAMES_A_TO_C, NAMES_D_TO_L, NAMES_M_TO_S, NAMES_T_TO_Z, TWO_WORD_NAMES}
use Rattle.redis_routing.proofs.Agree.{agree, agree_names}
use Rattle.redis_routing.proofs.Placed.{value_at_place, value_in_first, value_in_second}

abbrev names_a_to_c : List (List ℕ × (RouteBy × Option ResponsePolicy))
names_a_to_c = map (λ row. (row.0.now, row.1)) NAMES_A_TO_C

abbrev names_d_to_l : List (List ℕ × (RouteBy × Option ResponsePolicy))
names_d_to_l = map (λ row. (row.0.now, row.1)) NAMES_D_TO_L

abbrev names_m_to_s : List (List ℕ × (RouteBy × Option ResponsePolicy))
names_m_to_s = map (λ row. (row.0.now, row.1)) NAMES_M_TO_S

abbrev names_t_to_z : List (List ℕ × (RouteBy × Option ResponsePolicy))
names_t_to_z = map (λ row. (row.0.now, row.1)) NAMES_T_TO_Z

abbrev names_m_to_z : List (List ℕ × (RouteBy × Option ResponsePolicy))
names_m_to_z = names_m_to_s ++ names_t_to_z

abbrev names_d_to_z : List (List ℕ × (RouteBy × Option ResponsePolicy))
names_d_to_z = names_d_to_l ++ names_m_to_z

-- the rows of all names
abbrev pub all_names : List (List ℕ × (RouteBy × Option ResponsePolicy))
all_names = names_a_to_c ++ names_d_to_z

-- the row at the place of a name has what the tables have for the name
at_place : (name : List ℕ) (row : ℕ) → row ≡ row_of NAME_PLACES (name_hash name) → value_at all_names row name ≡ lookup_name all_names name
at_place name row is = value_at_place (λ r. r.0) (λ n. row_of NAME_PLACES (name_hash n)) (λ r. r.1) all_names name row refl is

module _ (name : List ℕ) (row : ℕ) (is : row ≡ row_of NAME_PLACES (name_hash name)) where
  pub in_a_to_c : row < 53 → value_at names_a_to_c row name ≡ lookup_name all_names name
  in_a_to_c below = sym (value_in_first names_a_to_c names_d_to_z row name below) ∙ at_place name row is

  after_c : 53 ≤ row → value_at names_d_to_z (row - 53) name ≡ lookup_name all_names name
  after_c past = sym (value_in_second names_a_to_c names_d_to_z row name past) ∙ at_place name row is

  pub in_d_to_l : 53 ≤ row → row < 89 → value_at names_d_to_l (row - 53) name ≡ lookup_name all_names name
  in_d_to_l past below = sym (value_in_first names_d_to_l names_m_to_z (row - 53) name (omega arith)) ∙ after_c past

  after_l : 89 ≤ row → value_at names_m_to_z (row - 89) name ≡ lookup_name all_names name
  after_l past =
      let same : row - 89 ≡ (row - 53) - 36 = omega arith in
      ap (λ k. value_at names_m_to_z k name) same
      ∙ sym (value_in_second names_d_to_l names_m_to_z (row - 53) name (omega arith)) ∙ after_c (omega arith)

  pub in_m_to_s : 89 ≤ row → row < 128 → value_at names_m_to_s (row - 89) name ≡ lookup_name all_names name
  in_m_to_s past below = sym (value_in_first names_m_to_s names_t_to_z (row - 89) name (omega arith)) ∙ after_l past

  pub in_t_to_z : 128 ≤ row → value_at names_t_to_z (row - 128) name ≡ lookup_name all_names name
  in_t_to_z past =
      let same : row - 128 ≡ (row - 89) - 39 = omega arith in
      ap (λ k. value_at names_t_to_z k name) same
      ∙ sym (value_in_second names_m_to_s names_t_to_z (row - 89) name (omega arith)) ∙ after_l (omega arith)

pub routing-NAMES : (name : List ℕ) → option_and_then (λ v. Some v.0) (lookup_name all_names name) ≡ base_routing name
unfolding base_routing
routing-NAMES name = agree (λ v. Some v.0) all_names base_routings refl refl name

pub policy-NAMES : (name : List ℕ) → option_and_then (λ v. v.1) (lookup_name all_names name) ≡ policy_of name
unfolding policy_of
policy-NAMES name = agree (λ v. v.1) all_names policies refl refl name

pub has_name-TWO_WORD_NAMES : (name : List ℕ) → has_name (map (λ n. n.now) TWO_WORD_NAMES) name ≡ takes_second name
unfolding takes_second
has_name-TWO_WORD_NAMES name = agree_names (map (λ n. n.now) TWO_WORD_NAMES) two_word_names refl refl name

none_of : (o : Option (RouteBy × Option ResponsePolicy)) → option_and_then (λ v. Some v.0) o ≡ None → option_and_then (λ v. v.1) o ≡ None
none_of None h = refl
none_of (Some v) h = cc

-- a name that is not routed by the tables has no policy there
pub policy-none : (name : List ℕ) → base_routing name ≡ None → policy_of name ≡ None
policy-none name none = sym (policy-NAMES name) ∙ none_of (lookup_name all_names name) (routing-NAMES name ∙ none)

routing_alone : (o : Option RouteBy) → routing_or o None ≡ o
routing_alone None = refl
routing_alone (Some route_by) = refl

policy_alone : (o : Option RouteBy) (policy : Option ResponsePolicy) → (o ≡ None → policy ≡ None) → policy_or o policy None ≡ policy
policy_alone None policy h = sym (h refl)
policy_alone (Some route_by) policy h = refl

-- the policy of a name without a registry
pub policy_unregistered : (name : List ℕ) → policy_or (base_routing name) (policy_of name) None ≡ policy_of name
policy_unregistered name = policy_alone (base_routing name) (policy_of name) (policy-none name)

-- an empty registry leaves the project's own tables
pub tables_with-empty : tables_with [] ≡ default_tables
tables_with-empty = grind (arith, fun_ext, routing_alone, policy_unregistered)
