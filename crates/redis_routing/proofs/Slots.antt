-- Grouping by slot: what one tuple more does to the groups.
use Rattle.std.proofs.Common.{◌≡◌, ℕ, List, [], ◌∷◌, ◌++◌, refl, sym, ap, ◌∙◌, arith, map, if◌then◌else◌}
use Rattle.std.specs.Prelude.{nat_eq}
use Rattle.std.specs.List.{list_any, flat_map}
use Rattle.std.proofs.lemmas.List.{map_push}
use Rattle.std.proofs.lemmas.Bool.Decides.{nat_tests}
use Rattle.std.proofs.lemmas.Grind.{common_steps}
use Rattle.redis_routing.specs.Parts.{first_appearances, slot_of, tuples_in_slot}
use Rattle.redis_routing.specs.Tuples.{Tuple, places_of}

pub swap : (a b : ℕ) → nat_eq a b ≡ nat_eq b a
swap a b = grind (arith, nat_tests)

-- the places of a slot, after one tuple more
pub part_push : (s : ℕ) (ts : List Tuple) (t : Tuple) → flat_map places_of (tuples_in_slot s (ts ++ t ∷ [])) ≡ (if nat_eq (slot_of t) s then flat_map places_of (tuples_in_slot s ts) ++ places_of t else flat_map places_of (tuples_in_slot s ts))
part_push s ts t = grind (arith, common_steps)

-- the numbers by first appearance, after one more
pub firsts_push : (xs : List ℕ) (x : ℕ) → first_appearances (xs ++ x ∷ []) ≡ (if list_any (nat_eq x) xs then first_appearances xs else first_appearances xs ++ x ∷ [])
firsts_push [] x = refl
firsts_push (y ∷ ys) x = grind (arith, common_steps, firsts_push ys x)

module _ (ts more : List Tuple) (t : Tuple) (slot : ℕ) (same : slot ≡ slot_of t) (is : more ≡ ts ++ t ∷ []) where
  slots_more : map slot_of more ≡ map slot_of ts ++ slot ∷ []
  slots_more = ap (map slot_of) is ∙ map_push slot_of ts t ∙ ap (λ s. map slot_of ts ++ s ∷ []) (sym same)

  -- the slots by first appearance, after one tuple more
  pub order_more : (if list_any (nat_eq slot) (map slot_of ts) then first_appearances (map slot_of ts) else first_appearances (map slot_of ts) ++ slot ∷ []) ≡ first_appearances (map slot_of more)
  order_more = sym (ap first_appearances slots_more ∙ firsts_push (map slot_of ts) slot)
