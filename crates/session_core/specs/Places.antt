-- A list whose items keep their places when the first ones are forgotten.
use Rattle.std.specs.Prelude.{◌-◌, ltb, ℕ, zero, suc, if◌then◌else◌, List, [], ◌∷◌, Option, None, slice_get}

-- the item at a place, if the first one that is left has the place `first`
unfoldable pub item_at : {X : Type 0} → (place first : ℕ) → List X → Option X
item_at place first items = if ltb place first then None else slice_get items (place - first)

-- the list, where the item of this index is changed
abbrev pub changed : {X : Type 0} → (X → X) → (index : ℕ) → List X → List X
changed change index [] = []
changed change zero (x ∷ xs) = change x ∷ xs
changed change (suc index) (x ∷ xs) = x ∷ changed change index xs
