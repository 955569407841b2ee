-- All ranges of the shards, put in one after the other, and the places that they have.
use Rattle.std.proofs.Common.{◌≡◌, ◌<◌, ◌≤◌, ◌+◌, ℕ, zero, suc, Bool, not, nat_eq, inl, inr, List, [], ◌∷◌, ◌++◌, map, filter, length, take, get_or, slice_index, ap, ◌∙◌, arith}
use Rattle.std.proofs.lemmas.List.{append-nil, take_more, length-take-le}
use Rattle.std.specs.List.{Contains}
use Rattle.std.proofs.lemmas.Grind.{common_steps}
use Rattle.cluster_map.specs.EachOnce.{once_by}
use Rattle.cluster_map.specs.RangeMap.{RangeEntry, value_of, insert_entry, insert_entries}
use Rattle.cluster_map.specs.Shards.{ShardNodes}
use Rattle.cluster_map.specs.Topology.{place_entry, place_entries, places_left}
use Rattle.cluster_map.specs.Inner.Topology.{AllPlaces}
use Rattle.resp_core.proofs.Cases.{by_test}
use Rattle.cluster_map.proofs.Ranges.{Contains-cons_cases, Contains-nil}

abbrev put : List (RangeEntry ℕ) → RangeEntry ℕ → List (RangeEntry ℕ)
put es e = insert_entry es e.0 e.1 (value_of e)

place_entries-last : (place : ℕ) (ss : List ShardNodes) (s : ShardNodes) → place_entries place (ss ++ s ∷ []) ≡ place_entries place ss ++ map (place_entry (place + length ss)) s.ranges
place_entries-last place [] s = append-nil (map (place_entry place) s.ranges) ∙ ap (λ k. map (place_entry k) s.ranges) (omega arith)
place_entries-last place (x ∷ xs) s = grind (arith, common_steps, place_entries-last (suc place) xs s)

-- the ranges of one shard more
pub place_entries-more : (ss : List ShardNodes) (i : ℕ) (s : ShardNodes) → i < length ss → s ≡ get_or ss i s → place_entries 0 (take i ss) ++ map (place_entry i) s.ranges ≡ place_entries 0 (take (i + 1) ss)
place_entries-more ss i s within is = grind (arith, common_steps, take_more, length-take-le, place_entries-last)

places-filter : (n : ℕ) (p : RangeEntry ℕ → Bool) (es : List (RangeEntry ℕ)) → AllPlaces n es → AllPlaces n (filter p es)
places-filter n p [] all = tt
places-filter n p (e ∷ es) all = by_test (p e) (λ t. rw t (all.0, places-filter n p es all.1)) (λ t. rw t (places-filter n p es all.1))

places-append : (n : ℕ) (xs ys : List (RangeEntry ℕ)) → AllPlaces n xs → AllPlaces n ys → AllPlaces n (xs ++ ys)
places-append n [] ys a b = b
places-append n (x ∷ xs) ys a b = (a.0, places-append n xs ys a.1 b)

places-insert : (n : ℕ) (es : List (RangeEntry ℕ)) (e : RangeEntry ℕ) → value_of e < n → AllPlaces n es → AllPlaces n (put es e)
places-insert n es e below all = grind (arith, places-append, places-filter)

places-insert_entries : (n : ℕ) (es more : List (RangeEntry ℕ)) → AllPlaces n es → AllPlaces n more → AllPlaces n (insert_entries es more)
places-insert_entries n es [] a b = a
places-insert_entries n es (x ∷ xs) a b = places-insert_entries n (put es x) xs (places-insert n es x b.0 a) b.1

places-place_entry : (n place : ℕ) (ranges : List (ℕ × ℕ)) → place < n → AllPlaces n (map (place_entry place) ranges)
places-place_entry n place [] below = tt
places-place_entry n place (r ∷ rs) below = (below, places-place_entry n place rs below)

places-from : (n place : ℕ) (ss : List ShardNodes) → place + length ss ≤ n → AllPlaces n (place_entries place ss)
places-from n place [] below = tt
places-from n place (s ∷ ss) below = places-append n (map (place_entry place) s.ranges) (place_entries (suc place) ss) (places-place_entry n place s.ranges (omega arith)) (places-from n (suc place) ss (omega arith))

pub all_places : (ss : List ShardNodes) → AllPlaces (length ss) (insert_entries [] (place_entries 0 ss))
all_places ss = places-insert_entries (length ss) [] (place_entries 0 ss) tt (places-from (length ss) 0 ss (omega arith))

pub place_below : (n : ℕ) (es : List (RangeEntry ℕ)) → AllPlaces n es → (e : RangeEntry ℕ) → Contains es e → value_of e < n
place_below n [] all e there = absurd (Contains-nil e there)
place_below n (r ∷ rs) all e there = elim (Contains-cons_cases r rs e there) [
  | inl same ↦ let value : value_of r ≡ value_of e = ap value_of same in let here : value_of r < n = all.0 in omega arith
  | inr later ↦ place_below n rs all.1 e later
]

abbrev pub AllBelow : ℕ → List ℕ → Type 0
AllBelow n [] = Unit {0}
AllBelow n (k ∷ ks) = (k < n) × AllBelow n ks

pub below-values : (n : ℕ) (es : List (RangeEntry ℕ)) → AllPlaces n es → AllBelow n (map value_of es)
below-values n [] all = tt
below-values n (e ∷ es) all = (all.0, below-values n es all.1)

below-filter : (n : ℕ) (p : ℕ → Bool) (ks : List ℕ) → AllBelow n ks → AllBelow n (filter p ks)
below-filter n p [] all = tt
below-filter n p (k ∷ ks) all = by_test (p k) (λ t. rw t (all.0, below-filter n p ks all.1)) (λ t. rw t (below-filter n p ks all.1))

below-once : (n : ℕ) (ks : List ℕ) → AllBelow n ks → AllBelow n (once_by nat_eq ks)
below-once n [] all = tt
below-once n (k ∷ ks) all = (all.0, below-filter n (λ y. not (nat_eq y k)) (once_by nat_eq ks) (below-once n ks all.1))

below-at : (n : ℕ) (ks : List ℕ) → AllBelow n ks → (k : ℕ) → k < length ks → slice_index ks k < n
below-at n [] all k within = absurd (omega arith)
below-at n (x ∷ xs) all zero within = all.0
below-at n (x ∷ xs) all (suc k) within = below-at n xs all.1 k (omega arith)

pub left_below : (n : ℕ) (es : List (RangeEntry ℕ)) → AllPlaces n es → (k : ℕ) → k < length (places_left es) → slice_index (places_left es) k < n
left_below n es all = below-at n (places_left es) (below-once n (map value_of es) (below-values n es all))
