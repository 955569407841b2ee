-- The arrays of a command's parts, put in the order of its keys, are one array.
use Rattle.std.proofs.Common.{◌≡◌, ℕ, ◌<◌, List, [], ◌∷◌, ◌++◌, Bool, true, false, cond, Option, Some, None, Ok, All, map, length, get_or, refl, sym, ap, ◌∙◌, subst, arith}
use Rattle.std.specs.Prelude.{nat_eq, nat_lt, slice_get, option_map, option_and_then}
use Rattle.std.specs.List.{AllZip, filter_map, list_all, range_with_len, zip}
use Rattle.std.specs.Option.{option_to_list}
use Rattle.std.proofs.lemmas.Bool.{eq-eqb}
use Rattle.std.proofs.lemmas.Bool.Decides.{nat_tests}
use Rattle.std.proofs.lemmas.List.{get_or-map, length-map, same_lists}
use Rattle.std.proofs.lemmas.List.Elements.{All-head, All-tail}
use Rattle.std.proofs.lemmas.List.Folds.{flat_map-map}
use Rattle.std.proofs.lemmas.List.FromFn.{get_or-map-range_with_len, length-map-range_with_len}
use Rattle.std.proofs.lemmas.Option.{slice_get-get_or}
use Rattle.std.proofs.lemmas.Grind.{common_steps}
use Rattle.cluster_slots.specs.SlotRoute.{SlotRoute}
use Rattle.resp_core.specs.Reply.{Reply, array, array_of, replies_of}
use Rattle.resp_core.proofs.Cases.{by_test}
use Rattle.cluster_slots.specs.Lists.{all_some, flatten}
use Rattle.cluster_slots.specs.declared.arg_pattern.MultiSlotArgPattern.{MultiSlotArgPattern}
use Rattle.redis_combiners.specs.AllItems.{all_items}
use Rattle.redis_combiners.specs.ByPlaces.{by_places, items_of_index, single}
use Rattle.redis_combiners.specs.KeyPlaces.{all_places, places}
use Rattle.redis_combiners.specs.Misfits.{first_misfit, misfit}
use Rattle.redis_combiners.specs.SortedArrays.{array_or_refusal, sorted_arrays}
use Rattle.redis_combiners.proofs.Arranging.{items_at-cons}
use Rattle.redis_cluster.specs.MultiKey.{KeyTuple, tuples_of_slot}
use Rattle.redis_cluster.specs.Orders.{NamesOnce, in_order, times}
use Rattle.redis_cluster.specs.SlotItems.{items_of_slot}
use Rattle.redis_cluster.proofs.Counts.{times_here, times_there}
use Rattle.redis_cluster.proofs.Fold.{NamesSlots}
use Rattle.redis_cluster.proofs.Once.{length-names_once}
use Rattle.redis_cluster.proofs.Orders.{in_order-append}
use Rattle.redis_cluster.proofs.Placed.{numbers_share_out}
use Rattle.redis_cluster.proofs.Places.{items_of_slot_is, length-items_of_slot, length-numbers_of_slot, numbers_of_slot}
use Rattle.redis_cluster.proofs.SplitPlaces.{places_of_part}
use Rattle.redis_routing.specs.Split.{slots_of}
use Rattle.redis_cluster.proofs.PlacesOfKeys.{places_of_keys}

-- items taken in an order, and put back
module _ (xs : List Reply) where
  taken : (p : ℕ) (ps : List ℕ) (d : Reply) → p < length xs → in_order xs (p ∷ ps) ≡ get_or xs p d ∷ in_order xs ps
  taken p ps d l = ap (λ o. option_to_list o ++ in_order xs ps) (slice_get-get_or xs p d l)

  same_test : (a b : ℕ) (t : Bool) → nat_eq a b ≡ t → nat_eq b a ≡ t
  same_test a b true e = grind (arith, nat_tests)
  same_test a b false e = grind (arith, nat_tests)

  -- what stands where a number does not
  other_place : (k p : ℕ) (ps : List ℕ) (d : Reply) → p < length xs → nat_eq k p ≡ false → items_of_index k (p ∷ ps) (in_order xs (p ∷ ps)) ≡ items_of_index k ps (in_order xs ps)
  other_place k p ps d l there = grind (arith, common_steps, taken p ps d l, items_at-cons k p ps (get_or xs p d) (in_order xs ps), same_test k p false there)

  none_at : (k : ℕ) (ps : List ℕ) (d : Reply) → All (λ p. p < length xs) ps → times k ps ≡ 0 → items_of_index k ps (in_order xs ps) ≡ []
  none_at k [] d small none = refl
  none_at k (p ∷ ps) d small none =
      by_test (nat_eq k p)
      (λ here. absurd (omega (arith, times_here k p ps here)))
      (λ there. other_place k p ps d (All-head (λ q. q < length xs) p ps small) there
      ∙ none_at k ps d (All-tail (λ q. q < length xs) p ps small) (sym (times_there k p ps there) ∙ none))

  one_at : (k : ℕ) (ps : List ℕ) (d : Reply) → All (λ p. p < length xs) ps → times k ps ≡ 1 → items_of_index k ps (in_order xs ps) ≡ get_or xs k d ∷ []
  one_at k [] d small once = absurd (omega arith)
  one_at k (p ∷ ps) d small once =
      let l : p < length xs = All-head (λ q. q < length xs) p ps small in
      let rest : All (λ q. q < length xs) ps = All-tail (λ q. q < length xs) p ps small in
      by_test (nat_eq k p)
      (λ here.
      let same : p ≡ k = grind (arith, nat_tests) in
      ap (items_of_index k (p ∷ ps)) (taken p ps d l) ∙ items_at-cons k p ps (get_or xs p d) (in_order xs ps)
      ∙ ap (λ b. cond b (get_or xs p d ∷ items_of_index k ps (in_order xs ps)) (items_of_index k ps (in_order xs ps))) (same_test k p true here)
      ∙ ap (λ ys. get_or xs p d ∷ ys) (none_at k ps d rest (omega (arith, times_here k p ps here)))
      ∙ ap (λ q. get_or xs q d ∷ []) same)
      (λ there. other_place k p ps d l there ∙ one_at k ps d rest (sym (times_there k p ps there) ∙ once))

  all_are : (ys : List Reply) → all_some (map Some ys) ≡ Some ys
  all_are [] = refl
  all_are (y ∷ ys) = ap (option_map (λ zs. y ∷ zs)) (all_are ys)

  all_small : (n : ℕ) (ps : List ℕ) → All (λ p. p < n) ps → list_all (λ p. nat_lt p n) ps ≡ true
  all_small n [] small = refl
  all_small n (p ∷ ps) small = grind (arith, common_steps, All-head, nat_tests, All-tail, all_small n ps (All-tail (λ q. q < n) p ps small))

  -- Items taken in an order that names each once are all of them again, by their places.
  put_back : (order : List ℕ) → NamesOnce (length xs) order → by_places order (in_order xs order) ≡ Some xs
  put_back order names =
      let n : length order ≡ length xs = length-names_once (length xs) order names in
      let at : ℕ → Option Reply = λ k. single (items_of_index k order (in_order xs order)) in
      let long : length (map at (range_with_len 0 (length order))) ≡ length order = length-map-range_with_len at 0 (length order) in
      let each : map at (range_with_len 0 (length order)) ≡ map Some xs =
      same_lists (map at (range_with_len 0 (length order))) (map Some xs) (omega (arith, long, n, length-map xs (λ (x : Reply). Some x))) (λ k d l.
      let short : k < length xs = omega (arith, long, n) in
      get_or-map-range_with_len at 0 (length order) k k d (omega (arith, n)) (omega arith)
      ∙ ap single (one_at k order (array (replies_of [])) names.below (names.once k short))
      ∙ sym (get_or-map (λ (x : Reply). Some x) xs k (array (replies_of [])) d short)) in
      ap (λ b. cond b (all_some (map at (range_with_len 0 (length order)))) None) (all_small (length order) order (subst (λ m. All (λ p. p < m) order) (sym n) names.below))
      ∙ ap all_some each ∙ all_are xs

-- as many numbers as a slot has, as many tuples
pub counts_are : (ts : List KeyTuple) (slots : List ℕ) → map length (map (λ slot. numbers_of_slot slot ts) slots) ≡ map (λ slot. length (tuples_of_slot slot ts)) slots
counts_are ts [] = refl
counts_are ts (slot ∷ slots) = ap (λ n. n ∷ map length (map (λ s. numbers_of_slot s ts) slots)) (length-numbers_of_slot slot ts) ∙ ap (λ ns. length (tuples_of_slot slot ts) ∷ ns) (counts_are ts slots)

-- the places of the keys of the parts are the numbers of their tuples
parts_places : (ts : List KeyTuple) (pattern : MultiSlotArgPattern) (routes : List (SlotRoute × List ℕ)) → All (λ r. r.1 ≡ places_of_part pattern ts r.0.slot) routes
    → all_places pattern (map (λ r. r.1) routes) ≡ Some (map (λ slot. numbers_of_slot slot ts) (slots_of routes))
parts_places ts pattern [] placed = refl
parts_places ts pattern (r ∷ routes) placed =
    let Placed : (SlotRoute × List ℕ) → Type 0 = λ q. q.1 ≡ places_of_part pattern ts q.0.slot in
    ap (λ list. all_some (places pattern list ∷ map (places pattern) (map (λ q. q.1) routes))) (All-head Placed r routes placed)
    ∙ ap (λ o. all_some (o ∷ map (places pattern) (map (λ q. q.1) routes))) (places_of_keys pattern ts r.0.slot)
    ∙ ap (option_map (λ nss. numbers_of_slot r.0.slot ts ∷ nss)) (parts_places ts pattern routes (All-tail Placed r routes placed))

-- The replies to parts make what their misfit says, or else what the items make by the numbers of their tuples.
pub sorted_is : (ts : List KeyTuple) (pattern : MultiSlotArgPattern) (routes : List (SlotRoute × List ℕ)) (replies : List Reply) → All (λ r. r.1 ≡ places_of_part pattern ts r.0.slot) routes → length replies ≡ length routes
    → sorted_arrays pattern replies (map (λ r. r.1) routes)
    ≡ array_or_refusal (first_misfit replies (map (λ slot. length (tuples_of_slot slot ts)) (slots_of routes))) (option_and_then (by_places (flatten (map (λ slot. numbers_of_slot slot ts) (slots_of routes)))) (all_items replies))
sorted_is ts pattern routes replies placed each = grind (arith, common_steps, numbers_of_slot, length-map, parts_places ts pattern routes placed, eq-eqb, counts_are)

-- replies that are arrays of the values of their tuples
module _ (ts : List KeyTuple) (values : List Reply) (l : length values ≡ length ts) where
  abbrev Arrays : List ℕ → List Reply → Type 0
  Arrays slots replies = AllZip (λ slot reply. array_of reply ≡ Some (items_of_slot slot ts values)) slots replies

  fit : (slot : ℕ) (reply : Reply) → array_of reply ≡ Some (items_of_slot slot ts values) → misfit (reply, length (tuples_of_slot slot ts)) ≡ None
  fit slot reply is = grind (arith, eq-eqb, length-items_of_slot)

  all_fit : (slots : List ℕ) (replies : List Reply) → Arrays slots replies → filter_map misfit (zip replies (map (λ slot. length (tuples_of_slot slot ts)) slots)) ≡ []
  all_fit [] [] are = refl
  all_fit [] (r ∷ replies) are = absurd are
  all_fit (slot ∷ slots) [] are = absurd are
  all_fit (slot ∷ slots) (r ∷ replies) are = grind (arith, fit, all_fit slots replies are.1)

  -- none of them is a misfit
  pub no_misfit : (slots : List ℕ) (replies : List Reply) → Arrays slots replies → first_misfit replies (map (λ slot. length (tuples_of_slot slot ts)) slots) ≡ None
  no_misfit slots replies are = ap (λ ks. slice_get ks 0) (all_fit slots replies are)

  each_array : (slots : List ℕ) (replies : List Reply) → Arrays slots replies → all_some (map array_of replies) ≡ Some (map (λ slot. items_of_slot slot ts values) slots)
  each_array [] [] are = refl
  each_array [] (r ∷ replies) are = absurd are
  each_array (slot ∷ slots) [] are = absurd are
  each_array (slot ∷ slots) (r ∷ replies) are = grind (arith, common_steps, each_array slots replies are.1)

  flat : (slots : List ℕ) → flatten (map (λ slot. items_of_slot slot ts values) slots) ≡ in_order values (flatten (map (λ slot. numbers_of_slot slot ts) slots))
  flat [] = refl
  flat (slot ∷ slots) = grind (arith, items_of_slot_is, numbers_of_slot, in_order-append, flat slots)

  -- the items of all parts, put in the order of their keys
  sorted : (slots : List ℕ) (replies : List Reply) → NamesSlots slots ts → Arrays slots replies → option_and_then (by_places (flatten (map (λ slot. numbers_of_slot slot ts) slots))) (all_items replies) ≡ Some values
  sorted slots replies named are =
      let numbers = flatten (map (λ slot. numbers_of_slot slot ts) slots) in
      let once : NamesOnce (length values) numbers = subst (λ n. NamesOnce n numbers) (sym l)
      (subst (NamesOnce (length ts)) (sym (flat_map-map (λ (ns : List ℕ). ns) (λ slot. numbers_of_slot slot ts) slots)) (numbers_share_out slots ts named)) in
      ap (λ o. option_and_then (by_places numbers) (option_map flatten o)) (each_array slots replies are)
      ∙ ap (by_places numbers) (flat slots)
      ∙ put_back values numbers once

  -- The arrays of the parts are put in the order of the keys to make one.
  pub arrays_sorted : (pattern : MultiSlotArgPattern) (routes : List (SlotRoute × List ℕ)) (replies : List Reply) → NamesSlots (slots_of routes) ts → All (λ r. r.1 ≡ places_of_part pattern ts r.0.slot) routes
      → length replies ≡ length routes → Arrays (slots_of routes) replies → sorted_arrays pattern replies (map (λ r. r.1) routes) ≡ Ok (array (replies_of values))
  arrays_sorted pattern routes replies named placed each are = grind (arith, common_steps, sorted_is ts pattern routes replies placed each, numbers_of_slot, no_misfit, sorted)
