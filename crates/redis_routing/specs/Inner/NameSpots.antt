-- Where a set looks for a name: in the tree at its spot.
use Rattle.std.specs.Prelude.{◌≡◌, ◌%◌, ◌++◌, ℕ, Bool, false, List, [], ◌∷◌, map, Option, Some, None, slice_get, Vec}
use Rattle.std.specs.BTreeSet.{BTreeSet}
use Rattle.std.specs.Global.{Global}
use Rattle.redis_routing.specs.Places.{name_hash}
use Rattle.redis_routing.specs.ReadOnly.{is_among}
use Rattle.redis_routing.specs.declared.read_only.TheConstants.{SPOTS}

abbrev pub Tree : Type 0
Tree = BTreeSet (Vec ℕ Global)

-- the spot of a name
unfoldable pub spot_of : List ℕ → ℕ
spot_of name = name_hash name % SPOTS

-- the names of a tree, as their bytes
abbrev pub names_in_tree : Tree → List (List ℕ)
names_in_tree tree = map (λ name. name.items) tree.keys

-- the names of trees
abbrev pub names_in_trees : List Tree → List (List ℕ)
names_in_trees [] = []
names_in_trees (tree ∷ trees) = names_in_tree tree ++ names_in_trees trees

-- whether a tree that is there has the name
abbrev pub is_in : List ℕ → Option Tree → Bool
is_in name None = false
is_in name (Some tree) = is_among (names_in_tree tree) name

-- each name of the trees is in the one at its spot
pub record AreAtTheirSpots (trees : List Tree) : Type 0 where
  pub each : (name : List ℕ) → is_among (names_in_trees trees) name ≡ is_in name (slice_get trees (spot_of name))
