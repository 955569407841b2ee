-- The values of a key, and the trees that keep them.
use Rattle.std.specs.Prelude.{ℕ, List, [], Option, None, Some, option_map}
use Rattle.std.specs.Ordering.{nat_cmp}
use Rattle.std.specs.Cmp.Lexicographic.{slice_cmp}
use Rattle.std.specs.BTreeMap.{BTreeMap, get_by}
use Rattle.std.specs.declared.vec.Vec.{Vec}
use Rattle.std.specs.declared.alloc.Global.{Global}
use Rattle.redis_cluster.specs.Unsplit.{Keyspace, put}
use Rattle.memory_nodes.specs.declared.cells.Values.{Values}

-- the value at each path
abbrev pub Cell : Type 0
Cell = List ℕ → Option (List ℕ)

-- the value at a path, if the key is there
abbrev pub value_at : Option Cell → List ℕ → Option (List ℕ)
value_at None path = None
value_at (Some cell) path = cell path

-- what a tree has at some bytes
abbrev pub tree_value : {X : Type 0} → BTreeMap (Vec ℕ Global) X → List ℕ → Option X
tree_value tree bytes = get_by (λ key. slice_cmp nat_cmp bytes key.items) tree

-- what the values of a key have at each path
abbrev pub path_value : Values → List ℕ → Option (Vec ℕ Global)
path_value values = put [] values.plain (tree_value values.others)

-- the cell that the values of a key keep
abbrev pub cell_of : Values → Cell
cell_of values path = option_map (λ value. value.items) (path_value values path)

-- the keyspace that a tree of such values keeps
abbrev pub keyspace_of : BTreeMap (Vec ℕ Global) Values → Keyspace Cell
keyspace_of cells key = option_map cell_of (tree_value cells key)
