-- Names in trees by their spots.
use Rattle.std.proofs.Common.{◌≡◌, ◌≢◌, ℕ, zero, suc, List, [], ◌∷◌, ◌++◌, ◌||◌, nat_eq, Some, refl, sym, ap, ◌∙◌, arith, set, slice_get}
use Rattle.std.specs.Str.{bytes_eq}
use Rattle.std.proofs.lemmas.List.Folds.{list_any-append}
use Rattle.std.proofs.lemmas.Slice.Eq.{bytes_eq-Decides}
use Rattle.std.proofs.lemmas.Grind.{common_steps}
use Rattle.redis_routing.specs.ReadOnly.{is_among}
use Rattle.redis_routing.specs.Inner.NameSpots.{Tree, spot_of, names_in_tree, names_in_trees, is_in, AreAtTheirSpots}
use Rattle.resp_core.proofs.Cases.{by_test}

-- an empty tree more changes nothing

pub names_in_trees-push : (trees : List Tree) (tree : Tree) → tree.keys ≡ [] → names_in_trees (trees ++ tree ∷ []) ≡ names_in_trees trees
names_in_trees-push [] tree empty = rw empty refl
names_in_trees-push (t ∷ trees) tree empty = ap (λ names. names_in_tree t ++ names) (names_in_trees-push trees tree empty)

pub is_in-push : (q : List ℕ) (trees : List Tree) (tree : Tree) (at : ℕ) → tree.keys ≡ [] → is_in q (slice_get (trees ++ tree ∷ []) at) ≡ is_in q (slice_get trees at)
is_in-push q [] tree zero empty = rw empty refl
is_in-push q [] tree (suc at) empty = refl
is_in-push q (t ∷ trees) tree zero empty = refl
is_in-push q (t ∷ trees) tree (suc at) empty = is_in-push q trees tree at empty

-- the tree at a spot has a name more

-- the other tree has the names of the first and one more
abbrev pub IsOneMore : List ℕ → Tree → Tree → Type 0
IsOneMore name tree after = (q : List ℕ) → is_among (names_in_tree after) q ≡ (bytes_eq q name || is_among (names_in_tree tree) q)

pub among-set : (name : List ℕ) (trees : List Tree) (at : ℕ) (tree after : Tree) → slice_get trees at ≡ Some tree → IsOneMore name tree after → (q : List ℕ) → is_among (names_in_trees (set trees at after)) q ≡ (bytes_eq q name || is_among (names_in_trees trees) q)
among-set name [] at tree after there more q = cc
among-set name (t ∷ trees) zero tree after there more q = grind (arith, common_steps, list_any-append, more q)
among-set name (t ∷ trees) (suc at) tree after there more q = grind (arith, common_steps, among-set name trees)

get_set : (trees : List Tree) (at : ℕ) (tree after : Tree) → slice_get trees at ≡ Some tree → slice_get (set trees at after) at ≡ Some after
get_set [] at tree after there = cc
get_set (t ∷ trees) zero tree after there = refl
get_set (t ∷ trees) (suc at) tree after there = get_set trees at tree after there

get_set_other : (trees : List Tree) (at other : ℕ) (after : Tree) → other ≢ at → slice_get (set trees at after) other ≡ slice_get trees other
get_set_other [] at other after apart = refl
get_set_other (t ∷ trees) zero zero after apart = absurd (apart refl)
get_set_other (t ∷ trees) zero (suc other) after apart = refl
get_set_other (t ∷ trees) (suc at) zero after apart = refl
get_set_other (t ∷ trees) (suc at) (suc other) after apart = get_set_other trees at other after (λ e. apart (ap suc e))

pub set_same : (trees : List Tree) (at : ℕ) (tree after : Tree) → slice_get trees at ≡ Some tree → after.keys ≡ tree.keys → set trees at after ≡ trees
set_same [] at tree after there keys = refl
set_same (t ∷ trees) zero tree after there keys = let same : after ≡ tree = λ i. record { keys = keys i } in cc
set_same (t ∷ trees) (suc at) tree after there keys = ap (λ rest. t ∷ rest) (set_same trees at tree after there keys)

pub at_their_spots-reached : (trees reached : List Tree) → AreAtTheirSpots trees → names_in_trees reached ≡ names_in_trees trees → ((q : List ℕ) (at : ℕ) → is_in q (slice_get reached at) ≡ is_in q (slice_get trees at)) → AreAtTheirSpots reached
at_their_spots-reached trees reached found names spots = record { each = λ q. ap (λ n. is_among n q) names ∙ found.each q ∙ sym (spots q (spot_of q)) }

pub at_their_spots-set : (name : List ℕ) (trees : List Tree) (at : ℕ) (tree after : Tree) → AreAtTheirSpots trees → at ≡ spot_of name → slice_get trees at ≡ Some tree → IsOneMore name tree after → AreAtTheirSpots (set trees at after)
at_their_spots-set name trees at tree after found own there more = record {
  each = λ q.
      among-set name trees at tree after there more q ∙ ap (λ b. bytes_eq q name || b) (found.each q)
      ∙ by_test (nat_eq (spot_of q) at)
      (λ same. grind (arith, common_steps, get_set, more q))
      (λ apart. grind (arith, common_steps, get_set_other, by_test, bytes_eq-Decides));
}
