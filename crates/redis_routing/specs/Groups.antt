-- The routes of tuples, one for each slot, as the code makes them.
use Rattle.std.specs.Prelude.{ℕ, ◌++◌, ◌∷◌, List, [], map, nat_eq, if◌then◌else◌}
use Rattle.std.specs.List.{flat_map}
use Rattle.cluster_slots.specs.SlotRoute.{SlotRoute}
use Rattle.cluster_slots.specs.declared.slot.SlotAddr.{SlotAddr}
use Rattle.redis_routing.specs.Parts.{first_appearances, slot_of, tuples_in_slot}
use Rattle.redis_routing.specs.Tuples.{Tuple, places_of}

-- a route, and the places of its part
abbrev pub RouteList : Type 0
RouteList = SlotRoute × List ℕ

-- the route of a slot, with the places of its tuples
abbrev pub list_of_slot : SlotAddr → List Tuple → ℕ → RouteList
list_of_slot nodes ts slot =
    (record { slot = slot; addr = nodes }, flat_map places_of (tuples_in_slot slot ts))

-- a route for each slot of some tuples, by the first one of each slot
abbrev pub lists_of_tuples : SlotAddr → List Tuple → List RouteList
lists_of_tuples nodes ts = map (list_of_slot nodes ts) (first_appearances (map slot_of ts))

-- the lists with more places of a slot: behind those that it has, or in a list of their own at the
-- end
abbrev pub with_places : SlotRoute → List ℕ → List RouteList → List RouteList
with_places route places [] = (route, places) ∷ []
with_places route places (r ∷ rs) =
    if nat_eq route.slot r.0.slot then (r.0, r.1 ++ places) ∷ rs else r ∷ with_places route places rs

-- the lists with the shared places at the end of each
abbrev pub with_shared : List ℕ → List RouteList → List RouteList
with_shared places lists = map (λ r. (r.0, r.1 ++ places)) lists
