-- Keyspaces that trees keep.
use Rattle.std.proofs.Common.{◌≡◌, ◌<◌, ℕ, List, [], ◌∷◌, length, Option, Some, None, Vec, Global, option_map, refl, sym, ap, ◌∙◌, arith}
use Rattle.std.proofs.lemmas.Grind.{common_steps}
use Rattle.std.specs.Ordering.{nat_cmp}
use Rattle.std.specs.Cmp.Lexicographic.{slice_cmp}
use Rattle.std.specs.BTreeMap.{BTreeMap, WritesThrough}
use Rattle.redis_cluster.specs.Unsplit.{put}
use Rattle.memory_nodes.specs.Cells.{tree_value, path_value, cell_of, keyspace_of}
use Rattle.memory_nodes.specs.declared.cells.Values.{Values}
use Rattle.memory_nodes.specs.Undo.{back}
use Rattle.memory_nodes.proofs.Bytes.{found-lent}
use Rattle.memory_nodes.proofs.Puts.{put-put, put-apart, map-put, map-back}

-- the values of each key
abbrev pub Cells : Type 0
Cells = BTreeMap (Vec ℕ Global) Values

-- what the values of a key have at the empty path, and at another
pub path-plain : (path : List ℕ) (m : Values) → length path ≡ 0 → path_value m path ≡ m.plain
path-plain [] m none = refl
path-plain (byte ∷ path) m none = absurd (omega (arith, none))

pub path-other : (path : List ℕ) (m : Values) → 0 < length path → path_value m path ≡ tree_value m.others path
path-other [] m some = absurd (omega (arith, some))
path-other (byte ∷ path) m some = refl

-- a change at the empty path, and at another
pub path-put_plain : (path : List ℕ) (m n : Values) (w : Option (Vec ℕ Global)) → length path ≡ 0 → n.plain ≡ w → n.others ≡ m.others → path_value n ≡ put path w (path_value m)
path-put_plain [] m n w none p o = ap (λ x. put [] x (tree_value n.others)) p ∙ ap (λ t. put [] w (tree_value t)) o ∙ sym (put-put [] m.plain w (tree_value m.others))
path-put_plain (byte ∷ path) m n w none p o = absurd (omega (arith, none))

pub path-put_other : (path : List ℕ) (m n : Values) (w : Option (Vec ℕ Global)) → 0 < length path → n.plain ≡ m.plain → tree_value n.others ≡ put path w (tree_value m.others) → path_value n ≡ put path w (path_value m)
path-put_other [] m n w some p o = absurd (omega (arith, some))
path-put_other (byte ∷ path) m n w some p o = ap (λ x. put [] x (tree_value n.others)) p ∙ ap (put [] m.plain) o ∙ put-apart byte path m.plain w (tree_value m.others)

-- the cell after a change at one path
pub cell-put : (path : List ℕ) (m n : Values) (w : Option (Vec ℕ Global)) → path_value n ≡ put path w (path_value m) → cell_of n ≡ put path (option_map (λ value. value.items) w) (cell_of m)
cell-put path m n w h = map-put (λ value. value.items) path w (path_value n) (path_value m) h

pub cell-back : (path : List ℕ) (m n : Values) (before : Option (Vec ℕ Global)) → path_value n ≡ put path (back before (path_value m path)) (path_value m) → cell_of n ≡ put path (back (option_map (λ value. value.items) before) (cell_of m path)) (cell_of m)
cell-back path m n before h = map-back (λ value. value.items) path before (path_value n) (path_value m) h

-- what each path has makes the cell
pub cell-same : (m n : Values) → path_value n ≡ path_value m → cell_of n ≡ cell_of m
cell-same m n h = ap (λ f. λ path. option_map (λ value. value.items) (f path)) h

-- the keyspace after a change at one key
pub keyspace-put : (key : List ℕ) (m n : Cells) (w : Option Values) → tree_value n ≡ put key w (tree_value m) → keyspace_of n ≡ put key (option_map cell_of w) (keyspace_of m)
keyspace-put key m n w h = map-put cell_of key w (tree_value n) (tree_value m) h

pub keyspace-back : (key : List ℕ) (m n : Cells) (before : Option Values) → tree_value n ≡ put key (back before (tree_value m key)) (tree_value m) → keyspace_of n ≡ put key (back (option_map cell_of before) (keyspace_of m key)) (keyspace_of m)
keyspace-back key m n before h = map-back cell_of key before (tree_value n) (tree_value m) h

pub keyspace-same : (m n : Cells) → tree_value n ≡ tree_value m → keyspace_of n ≡ keyspace_of m
keyspace-same m n h = ap (λ f. λ key. option_map cell_of (f key)) h

-- the keyspace once the values that `get_mut` lent have changed
pub keyspace-lent : (key : List ℕ) (m n : Cells) (now w : Values) → Some now ≡ tree_value m key → WritesThrough (λ x y. slice_cmp nat_cmp x.items y.items) (λ k. slice_cmp nat_cmp key k.items) m w n → keyspace_of n ≡ put key (Some (cell_of w)) (keyspace_of m)
keyspace-lent key m n now w there h = keyspace-put key m n (Some w) (found-lent key m n now w there h)

-- no value at the empty path, and a tree of no entry
pub cell-empty : (others : BTreeMap (Vec ℕ Global) (Vec ℕ Global)) → others.entries ≡ [] → cell_of (record { plain = None; others = others }) ≡ (λ path. None)
cell-empty others h = grind (arith, common_steps)
