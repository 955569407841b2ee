-- Writes that are undone.
use Rattle.std.proofs.Common.{◌≡◌, List, [], ◌∷◌, ◌++◌, Option, Some, option_map, refl, ap, ◌∙◌, Bor, ℕ, Vec, Global}
use Rattle.std.specs.Prelude.{Result, Ok, Err, OnErr}
use Rattle.redis_cluster.specs.Unsplit.{Keyspace, put}
use Rattle.memory_nodes.specs.Cells.{Cell, cell_of}
use Rattle.memory_nodes.specs.Undo.{back, cell_before, undone, before_all}
use Rattle.memory_nodes.specs.declared.change.Before.TheVariants.{AtKey, AtPath}
use Rattle.memory_nodes.specs.declared.change.Change.{Change}
use Rattle.memory_nodes.specs.declared.cells.Values.{Values}
use Rattle.memory_nodes.proofs.Puts.{put-there, put-restored, back-there}

-- a write of a whole key
pub undone-key : (key : Bor (List ℕ)) (cell : Cell) (before : Option Values) (new old : Keyspace Cell) → new ≡ put key.now (Some cell) old → option_map cell_of before ≡ old key.now → undone (record { key = key; before = AtKey before }) new ≡ old
undone-key key cell before new old is was =
    put-restored key.now (Some cell) (back (option_map cell_of before) (new key.now)) new old is (back-there key.now cell (option_map cell_of before) new old is was)

-- a write at one path of a key that was there
pub undone-path : (key path : Bor (List ℕ)) (value : List ℕ) (cell now : Cell) (before : Option (Vec ℕ Global)) (new old : Keyspace Cell) → new ≡ put key.now (Some now) old → Some cell ≡ old key.now → now ≡ put path.now (Some value) cell → option_map (λ v. v.items) before ≡ cell path.now → undone (record { key = key; before = AtPath path before }) new ≡ old
undone-path key path value cell now before new old is there written was =
    let at_key : new key.now ≡ Some now = ap (λ ks. ks key.now) is ∙ put-there key.now (Some now) old in
    let at_path = back-there path.now value (option_map (λ v. v.items) before) now cell written was in
    let cell_is = put-restored path.now (Some value) (back (option_map (λ v. v.items) before) (now path.now)) now cell written at_path in
    put-restored key.now (Some now) (cell_before (AtPath path before) (new key.now)) new old is (ap (cell_before (AtPath path before)) at_key ∙ ap Some cell_is ∙ there)

-- the last of some changes is the first one undone
pub before-push : (changes : List Change) (last : Change) (keyspace : Keyspace Cell) → before_all (changes ++ last ∷ []) keyspace ≡ before_all changes (undone last keyspace)
before-push [] last keyspace = refl
before-push (change ∷ changes) last keyspace = ap (undone change) (before-push changes last keyspace)

-- what holds of either result holds of an error
pub at-err : {T E : Type 0} (r : Result T E) (P : Type 0) → P → OnErr r P
at-err (Ok x) P h = tt
at-err (Err e) P h = h
