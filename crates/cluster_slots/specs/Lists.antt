-- Lists of items that may be missing, and lists of lists.
use Rattle.std.specs.Prelude.{List, [], ◌∷◌, flat_map, Option, None, Some, option_map}

-- the items, if none of them is missing
abbrev pub all_some : {X : Type 0} → List (Option X) → Option (List X)
all_some [] = Some []
all_some (None ∷ items) = None
all_some (Some x ∷ items) = option_map (λ xs. x ∷ xs) (all_some items)

-- the items of all lists, one list after the other
abbrev pub flatten : {X : Type 0} → List (List X) → List X
flatten lists = flat_map (λ items. items) lists
