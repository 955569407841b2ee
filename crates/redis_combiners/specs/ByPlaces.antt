-- Items in the order of their indices in the one array.
use Rattle.std.specs.Prelude.{ℕ, List, [], ◌∷◌, length, map, filter, Option, Some, None, nat_eq, nat_lt, if◌then◌else◌}
use Rattle.std.specs.List.{range_with_len, list_all, zip}
use Rattle.resp_core.specs.Reply.{Reply}
use Rattle.cluster_slots.specs.Lists.{all_some}

-- the items whose index is k: the j-th item has the j-th of `places`
abbrev pub items_of_index : ℕ → List ℕ → List Reply → List Reply
items_of_index k places items = map (λ pair. pair.1) (filter (λ pair. nat_eq pair.0 k) (zip places items))

-- the element of a list of just one
abbrev pub single : List Reply → Option Reply
single [] = None
single (x ∷ []) = Some x
single (x ∷ (y ∷ xs)) = None

-- the items in the order of their indices, if these are the numbers from 0 to their count less 1,
-- each once
abbrev pub by_places : List ℕ → List Reply → Option (List Reply)
by_places places items =
    if list_all (λ place. nat_lt place (length places)) places
    then all_some (map (λ k. single (items_of_index k places items)) (range_with_len 0 (length places)))
    else None
