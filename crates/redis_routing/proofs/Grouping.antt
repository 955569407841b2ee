-- Lists of routes that are filled tuple by tuple.
use Rattle.std.proofs.Common.{◌≡◌, ℕ, zero, suc, ◌+◌, ◌-◌, ◌<◌, ◌≤◌, List, [], ◌∷◌, ◌++◌, Bool, true, false, not, filter, refl, sym, ap, ◌∙◌, arith, map, length, get_or, set, subst, Vec, Global, if◌then◌else◌}
use Rattle.std.specs.Prelude.{nat_eq}
use Rattle.std.specs.List.{list_any, flat_map, range_with_len, position_or_len, AllByRecursion, IsDistinct}
use Rattle.std.proofs.lemmas.Bool.{eqb-true}
use Rattle.std.proofs.lemmas.Map.Steps.{length-le_from_distinct_below}
use Rattle.std.proofs.lemmas.List.{append-nil, length-map, get_or-map, map-set}
use Rattle.std.proofs.lemmas.Simd.{map-map}
use Rattle.std.proofs.lemmas.Grind.{common_steps}
use Rattle.cluster_slots.specs.KeySlot.{key_slot}
use Rattle.cluster_slots.specs.SlotRoute.{SlotRoute}
use Rattle.cluster_slots.specs.declared.slot.SlotAddr.{SlotAddr}
use Rattle.cluster_slots.specs.ArgPattern.{tuple_args_count}
use Rattle.cluster_slots.specs.declared.arg_pattern.MultiSlotArgPattern.{MultiSlotArgPattern}
use Rattle.indexmap.specs.IndexSet.{insert_key}
use Rattle.redis_routing.specs.Groups.{RouteList, list_of_slot, lists_of_tuples, with_places, with_shared}
use Rattle.redis_routing.specs.Parts.{first_appearances, slot_of, tuples_in_slot}
use Rattle.redis_routing.specs.Routing.{nodes_for, routes_of}
use Rattle.redis_routing.specs.RoutingInfo.{route_list, route_lists}
use Rattle.redis_routing.specs.Split.{slots_of}
use Rattle.redis_routing.specs.Tuples.{Tuple, tuples_in, places_of}
use Rattle.redis_routing.proofs.Slots.{swap, part_push, order_more}
use Rattle.resp_core.proofs.Cases.{by_test}

-- what is taken out of a list is not left there
all_gone : (n : ℕ) (xs : List ℕ) → AllByRecursion (λ y. nat_eq n y ≡ false) (filter (λ k. not (nat_eq n k)) xs)
all_gone n [] = tt
all_gone n (x ∷ xs) = by_test (nat_eq n x) (λ same. rw same (all_gone n xs)) (λ other. rw other (other, all_gone n xs))

all_left : (n : ℕ) (p : ℕ → Bool) (xs : List ℕ) → AllByRecursion (λ y. nat_eq n y ≡ false) xs → AllByRecursion (λ y. nat_eq n y ≡ false) (filter p xs)
all_left n p [] all = tt
all_left n p (x ∷ xs) all = by_test (p x) (λ stays. rw stays (all.0, all_left n p xs all.1)) (λ goes. rw goes (all_left n p xs all.1))

distinct_left : (p : ℕ → Bool) (xs : List ℕ) → IsDistinct nat_eq xs → IsDistinct nat_eq (filter p xs)
unfolding IsDistinct
distinct_left p [] distinct = tt
distinct_left p (x ∷ xs) distinct = by_test (p x) (λ stays. rw stays (all_left x p xs distinct.0, distinct_left p xs distinct.1)) (λ goes. rw goes (distinct_left p xs distinct.1))

distinct_firsts : (ns : List ℕ) → IsDistinct nat_eq (first_appearances ns)
unfolding IsDistinct
distinct_firsts [] = tt
distinct_firsts (n ∷ ns) = (all_gone n (first_appearances ns), distinct_left (λ k. not (nat_eq n k)) (first_appearances ns) (distinct_firsts ns))

any_left : (s n : ℕ) (xs : List ℕ) → nat_eq s n ≡ false → list_any (nat_eq s) (filter (λ k. not (nat_eq n k)) xs) ≡ list_any (nat_eq s) xs
any_left s n [] apart = refl
any_left s n (x ∷ xs) apart = grind (arith, common_steps, any_left s n xs apart)

-- the firsts are the numbers
any_first : (s : ℕ) (ns : List ℕ) → list_any (nat_eq s) (first_appearances ns) ≡ list_any (nat_eq s) ns
any_first s [] = refl
any_first s (n ∷ ns) = grind (arith, by_test, any_left, any_first s ns)

any_below : (s : ℕ) (ts : List Tuple) → list_any (nat_eq s) (map slot_of ts) ≡ true → s < 16384
unfolding key_slot
any_below s [] h = absurd (cc h)
any_below s (t ∷ ts) h = by_test (nat_eq s (slot_of t)) (λ same. rw (eqb-true s (slot_of t) same) (omega arith)) (λ other. any_below s ts (rw other at h))

-- there are no more lists than slots
pub few_lists : (nodes : SlotAddr) (ts : List Tuple) → length (lists_of_tuples nodes ts) ≤ 16384
few_lists nodes ts =
    let few : length (first_appearances (map slot_of ts)) ≤ 16384 =
    length-le_from_distinct_below (first_appearances (map slot_of ts)) 16384 (distinct_firsts (map slot_of ts)) (λ s there. any_below s ts (sym (any_first s (map slot_of ts)) ∙ there)) in
    rw length-map few

none_in_slot : (s : ℕ) (ts : List Tuple) → list_any (nat_eq s) (map slot_of ts) ≡ false → flat_map places_of (tuples_in_slot s ts) ≡ []
none_in_slot s [] none = refl
none_in_slot s (t ∷ ts) none =
    by_test (nat_eq s (slot_of t))
    (λ same. absurd (cc (rw same at none)))
    (λ other. let apart : nat_eq (slot_of t) s ≡ false = swap (slot_of t) s ∙ other in rw apart (none_in_slot s ts (rw other at none)))

module _ (nodes : SlotAddr) (ts : List Tuple) (t : Tuple) (more : List Tuple) (is : more ≡ ts ++ t ∷ []) where
  abbrev own : SlotRoute
  own = record { slot = slot_of t; addr = nodes }

  places_now : (u : ℕ) → flat_map places_of (tuples_in_slot u more) ≡ (if nat_eq (slot_of t) u then flat_map places_of (tuples_in_slot u ts) ++ places_of t else flat_map places_of (tuples_in_slot u ts))
  places_now u = ap (λ us. flat_map places_of (tuples_in_slot u us)) is ∙ part_push u ts t

  -- a slot of its own has the places behind those that it had
  longer : (u : ℕ) → nat_eq (slot_of t) u ≡ true → list_of_slot nodes more u ≡ (record { slot = u; addr = nodes }, flat_map places_of (tuples_in_slot u ts) ++ places_of t)
  longer u same = ap (λ ps. (record { slot = u; addr = nodes }, ps)) (places_now u ∙ ap (λ b. if b then flat_map places_of (tuples_in_slot u ts) ++ places_of t else flat_map places_of (tuples_in_slot u ts)) same)

  -- other slots stay
  stays : (u : ℕ) → nat_eq (slot_of t) u ≡ false → list_of_slot nodes more u ≡ list_of_slot nodes ts u
  stays u other = ap (λ ps. (record { slot = u; addr = nodes }, ps)) (places_now u ∙ ap (λ b. if b then flat_map places_of (tuples_in_slot u ts) ++ places_of t else flat_map places_of (tuples_in_slot u ts)) other)

  all_stay : (us : List ℕ) → AllByRecursion (λ y. nat_eq (slot_of t) y ≡ false) us → map (list_of_slot nodes more) us ≡ map (list_of_slot nodes ts) us
  all_stay [] all = refl
  all_stay (u ∷ us) all = λ i. stays u all.0 i ∷ all_stay us all.1 i

  step : (us : List ℕ) → IsDistinct nat_eq us → (list_any (nat_eq (slot_of t)) us ≡ false → flat_map places_of (tuples_in_slot (slot_of t) ts) ≡ [])
      → with_places own (places_of t) (map (list_of_slot nodes ts) us) ≡ map (list_of_slot nodes more) (if list_any (nat_eq (slot_of t)) us then us else us ++ slot_of t ∷ [])
  unfolding IsDistinct
  step [] distinct none = grind (arith, common_steps)
  step (u ∷ us) distinct none =
      by_test (nat_eq (slot_of t) u)
      (λ same.
      let e : slot_of t ≡ u = eqb-true (slot_of t) u same in
      let others : AllByRecursion (λ y. nat_eq (slot_of t) y ≡ false) us = subst (λ n. AllByRecursion (λ y. nat_eq n y ≡ false) us) (sym e) distinct.0 in
      rw same (λ i. sym (longer u same) i ∷ sym (all_stay us others) i))
      (λ other.
      let rest = step us distinct.1 (λ h. none (rw other h)) in
      rw other (by_test (list_any (nat_eq (slot_of t)) us)
      (λ there. rw there (λ i. sym (stays u other) i ∷ (rest ∙ ap (λ b. map (list_of_slot nodes more) (if b then us else us ++ slot_of t ∷ [])) there) i))
      (λ absent. rw absent (λ i. sym (stays u other) i ∷ (rest ∙ ap (λ b. map (list_of_slot nodes more) (if b then us else us ++ slot_of t ∷ [])) absent) i))))

  -- the routes of the tuples, after one tuple more
  pub lists_more : with_places own (places_of t) (lists_of_tuples nodes ts) ≡ lists_of_tuples nodes more
  lists_more = grind (arith, step, distinct_firsts, none_in_slot, any_first, order_more)

module _ (route : SlotRoute) (places : List ℕ) where
  -- the list of a slot gets the places
  pub places_added : (lists : List RouteList) (k : ℕ) (d : RouteList) → k ≡ position_or_len (nat_eq route.slot) (slots_of lists) → k < length lists
      → with_places route places lists ≡ set lists k ((get_or lists k d).0, (get_or lists k d).1 ++ places)
  places_added [] k d is inside = absurd (omega (arith, inside))
  places_added (r ∷ rs) zero d is inside = grind (arith, common_steps)
  places_added (r ∷ rs) (suc k) d is inside =
      by_test (nat_eq route.slot r.0.slot)
      (λ same. absurd (omega (arith, rw same at is)))
      (λ other.
      let next : suc k ≡ 1 + position_or_len (nat_eq route.slot) (slots_of rs) = rw other at is in
      rw other (ap (λ xs. r ∷ xs) (places_added rs k d (omega (arith, next)) (omega (arith, inside)))))

  -- a slot that has no list gets one at the end
  pub list_added : (lists : List RouteList) → length lists ≤ position_or_len (nat_eq route.slot) (slots_of lists)
      → with_places route places lists ≡ lists ++ (route, places) ∷ []
  list_added [] none = refl
  list_added (r ∷ rs) none =
      by_test (nat_eq route.slot r.0.slot)
      (λ same. absurd (omega (arith, rw same at none)))
      (λ other.
      let next : suc (length rs) ≤ 1 + position_or_len (nat_eq route.slot) (slots_of rs) = rw other at none in
      rw other (ap (λ xs. r ∷ xs) (list_added rs (omega (arith, next)))))

  -- a new slot goes last
  pub slot_added : (lists : List RouteList) → slots_of (with_places route places lists) ≡ insert_key nat_eq (slots_of lists) route.slot
  slot_added [] = refl
  slot_added (r ∷ rs) = grind (arith, common_steps, slot_added rs)

-- with the shared places the lists are the routes
pub shared_routes : (reads : Bool) (pattern : MultiSlotArgPattern) (present : List (List ℕ)) (nodes : SlotAddr) (own m : ℕ) (lists : List RouteList)
    → lists ≡ lists_of_tuples nodes (tuples_in pattern present) → nodes ≡ nodes_for reads → own ≡ tuple_args_count pattern (length present) → m ≡ length present
    → with_shared (range_with_len own (m - own)) lists ≡ routes_of reads pattern present
shared_routes reads pattern present nodes own m lists lists-are nodes-are own-is m-is = grind (arith, map-map)

-- no shared places
pub with_none : (places : List ℕ) (lists : List RouteList) → places ≡ [] → with_shared places lists ≡ lists
with_none places [] none = refl
with_none places (r ∷ rs) none = λ i. (r.0, (ap (λ ps. r.1 ++ ps) none ∙ append-nil r.1) i) ∷ with_none places rs none i

-- a slot for each list
pub slots_len : (items : List (SlotRoute × Vec ℕ Global)) → length (slots_of (route_lists items)) ≡ length items
slots_len items = length-map (route_lists items) (λ r. r.0.slot) ∙ length-map items route_list

module _ (items : List (SlotRoute × Vec ℕ Global)) (index : ℕ) (inside : index < length items) (item : SlotRoute × Vec ℕ Global) (is : item ≡ get_or items index item) where
  list_at : get_or (route_lists items) index (route_list item) ≡ route_list item
  list_at = get_or-map route_list items index item (route_list item) inside ∙ ap route_list (sym is)

  within : index < length (route_lists items)
  within = omega (arith, inside, length-map items route_list)

  -- the lists as they are kept, where that of a slot gets the places
  pub lists_longer : (route : SlotRoute) (places : List ℕ) (longer : Vec ℕ Global) → index ≡ position_or_len (nat_eq route.slot) (slots_of (route_lists items)) → longer.items ≡ item.1.items ++ places
      → route_lists (set items index (item.0, longer)) ≡ with_places route places (route_lists items)
  lists_longer route places longer place pushed = grind (arith, common_steps, map-set route_list items index (item.0, longer), longer, places_added route places (route_lists items) index (route_list item) place within, within, list_at)
