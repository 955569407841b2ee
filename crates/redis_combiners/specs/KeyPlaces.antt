-- The index of each key of a part among the keys of the whole command.
use Rattle.std.specs.Prelude.{ℕ, ◌-◌, ◌/◌, ◌%◌, ◌==◌, List, length, map, filter, take, Option, Some, None, option_and_then, if◌then◌else◌}
use Rattle.std.specs.List.{enumerate_from}
use Rattle.cluster_slots.specs.Lists.{all_some}
use Rattle.cluster_slots.specs.ArgPattern.{width_of}
use Rattle.cluster_slots.specs.declared.arg_pattern.MultiSlotArgPattern.{MultiSlotArgPattern}
use Rattle.cluster_slots.specs.declared.arg_pattern.MultiSlotArgPattern.TheVariants.{KeysOnly, KeyValuePairs, KeysAndLastArg, KeyWithTwoArgTriples}

-- every width-th number of a list, from the first on
abbrev pub every_nth : ℕ → List ℕ → List ℕ
every_nth width list =
    map (λ entry. entry.1) (filter (λ entry. entry.0 % width == 0) (enumerate_from 0 list))

-- the indices of tuples: the first number of each tuple, divided by the width, if all tuples are
-- whole
abbrev pub tuple_places : ℕ → List ℕ → Option (List ℕ)
tuple_places width list =
    if length list % width == 0 then Some (map (λ n. n / width) (every_nth width list))
    else None

-- the numbers of a list that make tuples: all, except the last one if the keys share the last
-- argument
abbrev pub own_arguments : MultiSlotArgPattern → List ℕ → Option (List ℕ)
own_arguments KeysOnly list = Some list
own_arguments KeyValuePairs list = Some list
own_arguments KeysAndLastArg list =
    if length list == 0 then None
    else Some (take (length list - 1) list)
own_arguments KeyWithTwoArgTriples list = Some list

-- the indices of the keys of a list, if all tuples are whole
abbrev pub places : MultiSlotArgPattern → List ℕ → Option (List ℕ)
places pattern list = option_and_then (tuple_places (width_of pattern)) (own_arguments pattern list)

-- the indices of the keys of each list, if all tuples are whole
abbrev pub all_places : MultiSlotArgPattern → List (List ℕ) → Option (List (List ℕ))
all_places pattern lists = all_some (map (places pattern) lists)
