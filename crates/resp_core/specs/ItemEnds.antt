-- How a command lies in memory: the bytes of its items, end to end, and where each item ends.
use Rattle.std.specs.Prelude.{◌≡◌, ◌+◌, ◌-◌, ℕ, List, [], ◌∷◌, take, drop, length}
use Rattle.std.specs.List.{concat}

-- the items of bytes whose first one has index `start`, by the index where each item ends
abbrev pub items_by_ends : ℕ → List ℕ → List ℕ → List (List ℕ)
items_by_ends start [] bytes = []
items_by_ends start (end ∷ ends) bytes = take (end - start) bytes ∷ items_by_ends end ends (drop (end - start) bytes)

-- the index where each item ends, if the first one starts at `start`
abbrev pub item_ends : ℕ → List (List ℕ) → List ℕ
item_ends start [] = []
item_ends start (item ∷ items) = (start + length item) ∷ item_ends (start + length item) items

-- cut at `ends`, `bytes` gives items that have these bytes and these ends
pub record AreItemsAt (start : ℕ) (ends bytes : List ℕ) : Type 0 where
  pub same_bytes : concat (items_by_ends start ends bytes) ≡ bytes
  pub same_ends : item_ends start (items_by_ends start ends bytes) ≡ ends
