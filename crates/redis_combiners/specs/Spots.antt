-- Spots for items, one for each index of an array, and items that are put into them.
use Rattle.std.specs.Prelude.{ℕ, Bool, ◌&&◌, List, [], ◌∷◌, length, map, Option, Some, None, is_none, nat_lt, option_and_then, slice_index_or, slice_set, if◌then◌else◌}
use Rattle.std.specs.List.{zip}
use Rattle.resp_core.specs.Reply.{Reply}

-- a spot for each index, with an item if the spot is taken
abbrev pub spots_of : List Bool → List Reply → List (Option Reply)
spots_of taken items = map (λ pair. if pair.0 then Some pair.1 else None) (zip taken items)

-- the spots with one more item, if its spot exists and is free
abbrev pub put_item : List (Option Reply) → ℕ → Reply → Option (List (Option Reply))
put_item spots place item =
    if nat_lt place (length spots) && is_none (slice_index_or spots place None)
    then Some (slice_set spots place (Some item))
    else None

-- the spots with each item at its index, put from the last one on, if each spot exists and is free
abbrev pub filled : List (Option Reply) → List ℕ → List Reply → Option (List (Option Reply))
filled spots [] items = Some spots
filled spots (place ∷ places) [] = Some spots
filled spots (place ∷ places) (item ∷ items) =
    option_and_then (λ later. put_item later place item) (filled spots places items)
