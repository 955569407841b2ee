-- Equality of registries: the same names with the same patterns and policies. Rows stand in order of
-- names, so that registries of the same rows are one list.
use Rattle.std.specs.Prelude.{ℕ, List, Bool, nat_eq}
use Rattle.std.specs.Ordering.{on, eq_of_both}
use Rattle.std.specs.Cmp.Lexicographic.{pointwise}
use Rattle.cluster_slots.specs.declared.aggregate_op.AggregateOp.TheVariants.{Min, Sum}
use Rattle.cluster_slots.specs.declared.aggregate_op.LogicalAggregateOp.TheVariants.{And, Or}
use Rattle.cluster_slots.specs.declared.arg_pattern.MultiSlotArgPattern.{MultiSlotArgPattern}
use Rattle.cluster_slots.specs.declared.arg_pattern.MultiSlotArgPattern.TheVariants.{KeysOnly, KeyValuePairs, KeysAndLastArg, KeyWithTwoArgTriples}
use Rattle.redis_routing.specs.Registry.{Registered, Registrations}
use Rattle.redis_routing.specs.declared.policy.ResponsePolicy.{ResponsePolicy}
use Rattle.redis_routing.specs.declared.policy.ResponsePolicy.TheVariants.{OneSucceeded, FirstSucceededNonEmptyOrAllEmpty, AllSucceeded, AggregateLogical, Aggregate, CombineArrays, Special, CombineMaps}

-- the place of a pattern among the four
abbrev pub pattern_place : MultiSlotArgPattern → ℕ
pattern_place KeysOnly = 0
pattern_place KeyValuePairs = 1
pattern_place KeysAndLastArg = 2
pattern_place KeyWithTwoArgTriples = 3

-- the place of a policy among the eight, whatever its operation
abbrev pub policy_place : ResponsePolicy → ℕ
policy_place OneSucceeded = 0
policy_place FirstSucceededNonEmptyOrAllEmpty = 1
policy_place AllSucceeded = 2
policy_place (AggregateLogical operation) = 3
policy_place (Aggregate operation) = 4
policy_place CombineArrays = 5
policy_place Special = 6
policy_place CombineMaps = 7

-- the place of a policy's operation among the two, where it has one
abbrev pub operation_place : ResponsePolicy → ℕ
operation_place (AggregateLogical And) = 0
operation_place (AggregateLogical Or) = 1
operation_place (Aggregate Min) = 0
operation_place (Aggregate Sum) = 1
operation_place policy = 0

-- whether two policies are one, with one operation
abbrev pub same_policy : ResponsePolicy → ResponsePolicy → Bool
same_policy = eq_of_both (on policy_place nat_eq) (on operation_place nat_eq)

-- whether two rows have one name, one pattern and one policy
abbrev pub same_row : List ℕ × Registered → List ℕ × Registered → Bool
same_row =
    eq_of_both (on (λ row. row.0) (pointwise nat_eq))
    (eq_of_both (on (λ row. pattern_place row.1.0) nat_eq) (on (λ row. row.1.1) same_policy))

-- whether two registries have the same names with the same patterns and policies
abbrev pub same_registrations : Registrations → Registrations → Bool
same_registrations = pointwise same_row
