-- The walk over a value, and the copies made in its turn.
use Rattle.std.proofs.Common.{◌≡◌, ℕ, zero, suc, ◌+◌, ◌-◌, ◌<◌, ◌≤◌, List, [], ◌∷◌, ◌++◌, length, get_or, map, take, drop, Vec, Global, Bor, refl, ap, ◌∙◌, arith}
use Rattle.std.proofs.lemmas.List.{map-append, take_at, drop_at, length-append, length-map, same_from_push}
use Rattle.std.proofs.lemmas.Grind.{common_steps}
use Rattle.resp_core.specs.Reply.{Reply, Replies, Pairs, nil, int, bulk, array, simple, okay, pairs, no_replies, reply, no_pairs, pair, pairs_of, items_in}
use Rattle.resp_core.specs.View.{view, view_pair}
use Rattle.resp_core.specs.Copying.{inside, inside_pairs}
use Rattle.resp_core.specs.declared.value.Value.{Value, Array}
use Rattle.resp_core.proofs.Views.{view-Array, items_in-replies_of}

abbrev mutual
  -- how many replies a reply is
  pub size : Reply → ℕ
  size nil = 1
  size (int n) = 1
  size (bulk bytes) = 1
  size (array items) = 1 + size_of_items items
  size (simple text) = 1
  size okay = 1
  size (pairs items) = 1 + size_of_pairs items

  pub size_of_items : Replies → ℕ
  size_of_items no_replies = 0
  size_of_items (reply r rs) = size r + size_of_items rs

  pub size_of_pairs : Pairs → ℕ
  size_of_pairs no_pairs = 0
  size_of_pairs (pair k v ps) = size k + size v + size_of_pairs ps

abbrev pub size_of_all : List Reply → ℕ
size_of_all [] = 0
size_of_all (r ∷ rs) = size r + size_of_all rs

size_of_all-append : (rs ss : List Reply) → size_of_all (rs ++ ss) ≡ size_of_all rs + size_of_all ss
size_of_all-append [] ss = omega arith
size_of_all-append (r ∷ rs) ss = omega (arith, size_of_all-append rs ss)

size_of_all-items : (rs : Replies) → size_of_all (items_in rs) ≡ size_of_items rs
size_of_all-items no_replies = refl
size_of_all-items (reply r rs) = omega (arith, size_of_all-items rs)

size_of_all-pairs : (ps : Pairs) → size_of_all (inside_pairs ps) ≡ size_of_pairs ps
size_of_all-pairs no_pairs = refl
size_of_all-pairs (pair k v ps) = omega (arith, size_of_all-append (inside_pairs ps) (v ∷ k ∷ []), size_of_all-pairs ps)

size_of_all-inside : (r : Reply) → size_of_all (inside r) < size r
size_of_all-inside r = grind (arith, size_of_all-items, size_of_all-pairs)

-- a step of the walk leaves less
pub walk-smaller : (us vs ws : List (Bor Value)) (v : Bor Value) → us ≡ vs ++ v ∷ [] → map (λ w. view w.now) ws ≡ map (λ w. view w.now) vs ++ inside (view v.now) → size_of_all (map (λ w. view w.now) ws) < size_of_all (map (λ w. view w.now) us)
walk-smaller us vs ws v before after = grind (arith, map-append, size_of_all-append, size_of_all-inside)

pub inside-Array : (v : Value) (items : Vec Value Global) → v ≡ Array items → inside (view v) ≡ map view items.items
inside-Array v items is = ap (λ w. inside (view w)) is ∙ ap inside (view-Array items) ∙ items_in-replies_of (map view items.items)

map-take : {A B : Type 0} (f : A → B) (n : ℕ) (xs : List A) → map f (take n xs) ≡ take n (map f xs)
map-take f zero xs = refl
map-take f (suc n) [] = refl
map-take f (suc n) (x ∷ xs) = ap (λ ys. f x ∷ ys) (map-take f n xs)

map-drop : {A B : Type 0} (f : A → B) (n : ℕ) (xs : List A) → map f (drop n xs) ≡ drop n (map f xs)
map-drop f zero xs = refl
map-drop f (suc n) [] = refl
map-drop f (suc n) (x ∷ xs) = map-drop f n xs

-- how many copies there are before those of the items
pub length-rest : (copies : List Value) (rest : List Reply) (items : List Value) → map view copies ≡ rest ++ map view items → length copies ≡ length rest + length items
length-rest copies rest items e = omega (arith, ap length e, length-map copies view, length-map items view, length-append rest (map view items))

pub take-rest : (copies : List Value) (rest : List Reply) (items : List Value) (n : ℕ) → map view copies ≡ rest ++ map view items → n ≡ length copies - length items → map view (take n copies) ≡ rest
take-rest copies rest items n e at = grind (arith, length-rest, map-take, take_at)

pub drop-rest : (copies : List Value) (rest : List Reply) (items : List Value) (n : ℕ) → map view copies ≡ rest ++ map view items → n ≡ length copies - length items → map view (drop n copies) ≡ map view items
drop-rest copies rest items n e at = grind (arith, length-rest, map-drop, drop_at)

append-two : {A : Type 0} (xs ys : List A) (a b : A) → xs ++ (ys ++ a ∷ b ∷ []) ≡ (xs ++ ys ++ a ∷ []) ++ b ∷ []
append-two xs ys a b = grind (arith, common_steps)

-- the copies of a pair's value and key are the last two
take-pair : (copies cs ds : List Value) (key value : Value) (rest : List Reply) (p : Value × Value) (ps : List (Value × Value)) → copies ≡ cs ++ key ∷ [] → cs ≡ ds ++ value ∷ [] → map view copies ≡ rest ++ inside_pairs (pairs_of (map view_pair (p ∷ ps))) → (map view ds ≡ rest ++ inside_pairs (pairs_of (map view_pair ps))) × (view_pair (key, value) ≡ view_pair p)
take-pair copies cs ds key value rest p ps is-copies is-cs e = grind (arith, map-append, same_from_push, append-two)

pub two-left : (copies : List Value) (rest : List Reply) (p : Value × Value) (ps : List (Value × Value)) → map view copies ≡ rest ++ inside_pairs (pairs_of (map view_pair (p ∷ ps))) → 2 ≤ length copies
two-left copies rest p ps e = grind (arith, common_steps)

pub pairs-left : (copies : List Value) (rest : List Reply) (items : List (Value × Value)) (n : ℕ) (p : Value × Value) → n < length items → p ≡ get_or items n p → map view copies ≡ rest ++ inside_pairs (pairs_of (map view_pair (drop n items))) → map view copies ≡ rest ++ inside_pairs (pairs_of (map view_pair (p ∷ drop (n + 1) items)))
pairs-left copies rest items n p h is e = grind (arith, common_steps)

pub take-next : (copies cs ds : List Value) (key value : Value) (items : List (Value × Value)) (n : ℕ) (p : Value × Value) → n < length items → p ≡ get_or items n p → copies ≡ cs ++ key ∷ [] → cs ≡ ds ++ value ∷ [] → (rest : List Reply) → map view copies ≡ rest ++ inside_pairs (pairs_of (map view_pair (drop n items))) → (map view ds ≡ rest ++ inside_pairs (pairs_of (map view_pair (drop (n + 1) items)))) × (view_pair (key, value) ≡ view_pair p)
take-next copies cs ds key value items n p h is is-copies is-cs rest e = take-pair copies cs ds key value rest p (drop (n + 1) items) is-copies is-cs (pairs-left copies rest items n p h is e)
