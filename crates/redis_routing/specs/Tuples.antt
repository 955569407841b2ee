-- The tuples that the present arguments of a multi-key command make: a key each, and the
-- arguments that go with it. Places count them from 0.
use Rattle.std.specs.Prelude.{ℕ, ◌+◌, List, [], ◌∷◌, length, take, drop}
use Rattle.std.specs.List.{range_with_len}
use Rattle.cluster_slots.specs.ArgPattern.{tuple_args_count}
use Rattle.cluster_slots.specs.declared.arg_pattern.MultiSlotArgPattern.{MultiSlotArgPattern}
use Rattle.cluster_slots.specs.declared.arg_pattern.MultiSlotArgPattern.TheVariants.{KeysOnly, KeyValuePairs, KeysAndLastArg, KeyWithTwoArgTriples}

-- a key, its place, and the arguments after it that go with it
pub record Tuple : Type 0 where
  pub place : ℕ
  pub key : List ℕ
  pub extras : List (List ℕ)

-- from a place on, each argument is a key
abbrev pub keys_alone : ℕ → List (List ℕ) → List Tuple
keys_alone place [] = []
keys_alone place (key ∷ present) =
    record { place = place; key = key; extras = [] } ∷ keys_alone (place + 1) present

-- from a place on, keys and values stand in turn
abbrev pub keys_and_values : ℕ → List (List ℕ) → List Tuple
keys_and_values place [] = []
keys_and_values place (key ∷ []) = []
keys_and_values place (key ∷ value ∷ present) =
    record { place = place; key = key; extras = value ∷ [] } ∷ keys_and_values (place + 2) present

-- from a place on, a key and two more arguments stand in turn
abbrev pub keys_and_two : ℕ → List (List ℕ) → List Tuple
keys_and_two place [] = []
keys_and_two place (key ∷ []) = []
keys_and_two place (key ∷ a ∷ []) = []
keys_and_two place (key ∷ a ∷ b ∷ present) =
    record { place = place; key = key; extras = a ∷ b ∷ [] } ∷ keys_and_two (place + 3) present

-- the tuples of arguments of which none is shared
abbrev pub tuples_from : MultiSlotArgPattern → ℕ → List (List ℕ) → List Tuple
tuples_from KeysOnly place present = keys_alone place present
tuples_from KeyValuePairs place present = keys_and_values place present
tuples_from KeysAndLastArg place present = keys_alone place present
tuples_from KeyWithTwoArgTriples place present = keys_and_two place present

-- the tuples of the present arguments
abbrev pub tuples_in : MultiSlotArgPattern → List (List ℕ) → List Tuple
tuples_in pattern present =
    tuples_from pattern 0 (take (tuple_args_count pattern (length present)) present)

-- the present arguments that all tuples share: the last one or none
abbrev pub shared_in : MultiSlotArgPattern → List (List ℕ) → List (List ℕ)
shared_in pattern present = drop (tuple_args_count pattern (length present)) present

-- the places of a tuple's arguments
abbrev pub places_of : Tuple → List ℕ
places_of t = range_with_len t.place (1 + length t.extras)

-- the arguments of a tuple
abbrev pub arguments_of : Tuple → List (List ℕ)
arguments_of t = t.key ∷ t.extras
