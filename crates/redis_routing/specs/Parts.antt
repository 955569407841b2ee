-- The parts of a split command: the tuples whose keys have one slot.
use Rattle.std.specs.Prelude.{ℕ, ◌-◌, not, List, [], ◌∷◌, ◌++◌, Some, map, filter, nat_eq, length, take}
use Rattle.std.specs.List.{flat_map, range_with_len}
use Rattle.cluster_slots.specs.KeySlot.{key_slot}
use Rattle.cluster_slots.specs.ArgPattern.{tuple_args_count}
use Rattle.cluster_slots.specs.declared.arg_pattern.MultiSlotArgPattern.{MultiSlotArgPattern}
use Rattle.redis_routing.specs.Command.{Arguments}
use Rattle.redis_routing.specs.NameWords.{name_words_of}
use Rattle.redis_routing.specs.PresentArguments.{present_arguments}
use Rattle.redis_routing.specs.Tuples.{Tuple, tuples_in, shared_in, places_of, arguments_of}

-- the slot of a tuple's key
abbrev pub slot_of : Tuple → ℕ
slot_of t = key_slot t.key

-- each number once, in order of first appearance
abbrev pub first_appearances : List ℕ → List ℕ
first_appearances [] = []
first_appearances (n ∷ ns) = n ∷ filter (λ k. not (nat_eq n k)) (first_appearances ns)

-- the tuples whose key has the slot, in their order
abbrev pub tuples_in_slot : ℕ → List Tuple → List Tuple
tuples_in_slot slot ts = filter (λ t. nat_eq (slot_of t) slot) ts

-- the places of a slot's tuples, and then the shared one
abbrev pub places_in_slot : MultiSlotArgPattern → List (List ℕ) → ℕ → List ℕ
places_in_slot pattern present slot =
    flat_map places_of (tuples_in_slot slot (tuples_in pattern present))
    ++ range_with_len (tuple_args_count pattern (length present))
    (length present - tuple_args_count pattern (length present))

-- the arguments of a slot's tuples, and then the shared one
abbrev pub arguments_in_slot : MultiSlotArgPattern → List (List ℕ) → ℕ → List (List ℕ)
arguments_in_slot pattern present slot =
    flat_map arguments_of (tuples_in_slot slot (tuples_in pattern present))
    ++ shared_in pattern present

-- the part of a slot as a command of its own: the words of the name as they are spelt, and the
-- slot's arguments
abbrev pub part_of_slot : MultiSlotArgPattern → Arguments → ℕ → Arguments
part_of_slot pattern args slot =
    take (name_words_of args) args
    ++ map Some (arguments_in_slot pattern (present_arguments args) slot)
