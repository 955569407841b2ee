-- What undoing a write restores. Undoing takes no memory, so it only overwrites or removes what is
-- there.
use Rattle.std.specs.Prelude.{ℕ, List, [], ◌∷◌, Option, None, Some, option_map}
use Rattle.redis_cluster.specs.Unsplit.{Keyspace, put}
use Rattle.memory_nodes.specs.Cells.{Cell, cell_of}
use Rattle.memory_nodes.specs.declared.change.Before.{Before}
use Rattle.memory_nodes.specs.declared.change.Before.TheVariants.{AtKey, AtPath}
use Rattle.memory_nodes.specs.declared.change.Change.{Change}

-- what was there before, if there is something now that it can overwrite
abbrev pub back : {X : Type 0} → Option X → Option X → Option X
back None now = None
back (Some before) now = option_map (λ x. before) now

-- the cell of a key before a write to one path
abbrev pub path_before : List ℕ → Option (List ℕ) → Cell → Cell
path_before path before cell = put path (back before (cell path)) cell

-- the cell of a key before a write
abbrev pub cell_before : Before → Option Cell → Option Cell
cell_before (AtKey before) now = back (option_map cell_of before) now
cell_before (AtPath path before) now =
    option_map (path_before path.now (option_map (λ v. v.items) before)) now

-- the keyspace before a write
abbrev pub undone : Change → Keyspace Cell → Keyspace Cell
undone change keyspace =
    put change.key.now (cell_before change.before (keyspace change.key.now)) keyspace

-- the keyspace before some changes, the first of which was made first
abbrev pub before_all : List Change → Keyspace Cell → Keyspace Cell
before_all [] keyspace = keyspace
before_all (change ∷ later) keyspace = undone change (before_all later keyspace)
