-- Lists of parts, each of which fits its number, and the slots of routes.
use Rattle.std.proofs.Common.{◌≡◌, ℕ, zero, suc, ◌<◌, ◌++◌, List, [], ◌∷◌, Some, Vec, Global, length, get_or, refl, sym, ap, ◌∙◌, arith}
use Rattle.std.specs.Prelude.{IfSome, option_map, slice_get}
use Rattle.std.proofs.lemmas.List.{length-map}
use Rattle.std.proofs.lemmas.Option.{slice_get-map, slice_get_read}
use Rattle.cluster_slots.specs.SlotRoute.{SlotRoute}
use Rattle.redis_routing.specs.RoutingInfo.{route_list, route_lists}
use Rattle.session_core.specs.declared.part.PartOrder.TheVariants.{OfSlot}

-- one more, which fits its number
pub each_more : {A : Type 0} (P : ℕ → A → Type 0) (xs : List A) (x : A) → ((n : ℕ) → IfSome (slice_get xs n) (P n)) → P (length xs) x → (n : ℕ) → IfSome (slice_get (xs ++ x ∷ []) n) (P n)
each_more P [] x each here zero = here
each_more P [] x each here (suc n) = tt
each_more P (y ∷ ys) x each here zero = each zero
each_more P (y ∷ ys) x each here (suc n) = each_more (λ k. P (suc k)) ys x (λ k. each (suc k)) here n

-- the slot of the route of this number
pub slot_at_route : (items : List (SlotRoute × Vec ℕ Global)) (routes : List (SlotRoute × List ℕ)) (n : ℕ) (route : SlotRoute × Vec ℕ Global)
    → route_lists items ≡ routes → n < length routes → route ≡ get_or items n route → Some route.0.slot ≡ option_map (λ r. r.0.slot) (slice_get routes n)
slot_at_route items routes n route are within is =
    let inside : n < length items = omega (arith, within, ap length are, length-map items route_list) in
    let at : slice_get items n ≡ Some route = slice_get_read items (length items) n route refl inside is in
    sym (ap (λ rs. option_map (λ r. r.0.slot) (slice_get rs n)) (sym are) ∙ ap (option_map (λ (r : SlotRoute × List ℕ). r.0.slot)) (slice_get-map route_list items n ∙ ap (option_map route_list) at))

same_slot : (slot other : ℕ) → Some slot ≡ Some other → OfSlot slot ≡ OfSlot other
same_slot slot other same = cc

-- the only route
pub only_route : (routes : List (SlotRoute × List ℕ)) (slot : ℕ) → length routes ≡ 1 → Some slot ≡ option_map (λ r. r.0.slot) (slice_get routes 0)
    → (route : SlotRoute × List ℕ) × (routes ≡ route ∷ []) × (OfSlot slot ≡ OfSlot route.0.slot)
only_route [] slot one is = absurd (omega arith)
only_route (route ∷ []) slot one is = (route, refl, same_slot slot route.0.slot is)
only_route (route ∷ other ∷ more) slot one is = absurd (omega arith)
