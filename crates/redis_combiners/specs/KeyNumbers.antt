-- Replies that are keys and numbers in turn.
use Rattle.std.specs.Prelude.{ℕ, ℤ, List, [], ◌∷◌, map, Option, None, option_and_then, option_map}
use Rattle.std.specs.Option.{option_zip}
use Rattle.resp_core.specs.Reply.{Reply, int_of, bulk_string_of, array_of}
use Rattle.cluster_slots.specs.Lists.{all_some, flatten}

-- a key as bytes, beside a number
abbrev pub KeyNumber : Type 0
KeyNumber = List ℕ × ℤ

-- the items two by two: a key and its number, if they are a bulk string and an integer; a last item
-- alone is no pair
abbrev pub pairs_in_turn : List Reply → List (Option KeyNumber)
pairs_in_turn [] = []
pairs_in_turn (key ∷ []) = None ∷ []
pairs_in_turn (key ∷ (number ∷ items)) =
    option_zip (bulk_string_of key) (int_of number) ∷ pairs_in_turn items

-- the pairs of some items, if these are keys and numbers in turn
abbrev pub pairs_among : List Reply → Option (List KeyNumber)
pairs_among items = all_some (pairs_in_turn items)

-- the pairs of all replies, in order, if each reply is an array of keys and numbers in turn
abbrev pub all_pairs : List Reply → Option (List KeyNumber)
all_pairs replies =
    option_map flatten
    (all_some (map (λ reply. option_and_then pairs_among (array_of reply)) replies))
