-- The slot of a command by itself is the one that its routing has.
use Rattle.std.proofs.Common.{◌≡◌, ℕ, zero, suc, ◌+◌, ◌*◌, ◌/◌, ◌%◌, List, [], ◌∷◌, Bool, true, false, cond, Option, Some, None, map, option_map, length, take, get_or, refl, ap, arith}
use Rattle.std.specs.Prelude.{codes, nat_eq, option_and_then, position}
use Rattle.std.specs.Option.{option_or}
use Rattle.std.specs.Simd.{first_chunks}
use Rattle.std.proofs.Math.Seq.{take-length}
use Rattle.std.proofs.lemmas.Bool.Decides.{nat_tests}
use Rattle.std.proofs.lemmas.Grind.{common_steps}
use Rattle.cluster_slots.specs.KeySlot.{key_slot}
use Rattle.cluster_slots.specs.ArgPattern.{fits}
use Rattle.cluster_slots.specs.declared.arg_pattern.MultiSlotArgPattern.{MultiSlotArgPattern}
use Rattle.redis_routing.specs.Command.{Arguments, argument, command_name, is_word}
use Rattle.redis_routing.specs.CommandSlot.{command_slot, command_keys, only_number, slot_by}
use Rattle.redis_routing.specs.Lookup.{lookup_name}
use Rattle.redis_routing.specs.Names.{Names}
use Rattle.redis_routing.specs.Parts.{first_appearances, slot_of}
use Rattle.redis_routing.specs.PresentArguments.{present_arguments}
use Rattle.redis_routing.specs.Registry.{Registered, routing_or}
use Rattle.redis_routing.specs.RouteBy.{base_routing}
use Rattle.redis_routing.specs.Routing.{route_of_slot, routing, routing_by, routing_by_name, routing_of_routes, to_key, to_key_after, to_key_or_any, to_slots}
use Rattle.redis_routing.specs.RoutingInfo.{Routing, slot_routed}
use Rattle.redis_routing.specs.Tuples.{keys_alone, keys_and_two, keys_and_values, tuples_in}
use Rattle.redis_routing.specs.declared.policy.ResponsePolicy.{ResponsePolicy}
use Rattle.redis_routing.specs.declared.route_by.RouteBy.{RouteBy}
use Rattle.redis_routing.specs.declared.route_by.RouteBy.TheVariants as route_by

of_key : (reads : Bool) (key : Option (List ℕ)) → slot_routed (to_key reads key) ≡ option_map key_slot key
of_key reads None = refl
of_key reads (Some key) = refl

of_key_or_any : (reads : Bool) (key : Option (List ℕ)) → slot_routed (to_key_or_any reads key) ≡ option_map key_slot key
of_key_or_any reads None = refl
of_key_or_any reads (Some key) = refl

of_place : (reads : Bool) (args : Arguments) (place : Option ℕ) → slot_routed (to_key_after reads args place) ≡ option_and_then (λ n. option_map key_slot (argument args (n + 1))) place
of_place reads args None = refl
of_place reads args (Some place) = of_key reads (argument args (place + 1))

of_test : (b : Bool) (routing : Option Routing) → slot_routed (cond b routing None) ≡ cond b (slot_routed routing) None
of_test true routing = refl
of_test false routing = refl

-- one route goes to its slot, and several to no single one
of_routes : (reads : Bool) (policy : Option ResponsePolicy) (pattern : MultiSlotArgPattern) (present : List (List ℕ)) (slots : List ℕ)
    → slot_routed (Some (routing_of_routes pattern policy (map (route_of_slot reads pattern present) slots))) ≡ only_number slots
of_routes reads policy pattern present slots = grind (arith)

-- the slot of these keys, if they all have one
abbrev slot_of_keys : List (List ℕ) → Option ℕ
slot_of_keys keys = only_number (first_appearances (map key_slot keys))

alone : (place : ℕ) (xs : List (List ℕ)) → map slot_of (keys_alone place xs) ≡ map key_slot xs
alone place [] = refl
alone place (x ∷ xs) = ap (λ slots. key_slot x ∷ slots) (alone (place + 1) xs)

pairs : (n place : ℕ) (xs : List (List ℕ)) → length xs ≡ n * 2 → map slot_of (keys_and_values place xs) ≡ map key_slot (map (λ group. get_or group 0 []) (first_chunks 2 n xs))
pairs zero place [] fit = refl
pairs zero place (x ∷ xs) fit = absurd (omega arith)
pairs (suc n) place [] fit = absurd (omega arith)
pairs (suc n) place (x ∷ []) fit = absurd (omega arith)
pairs (suc n) place (x ∷ y ∷ xs) fit = ap (λ slots. key_slot x ∷ slots) (pairs n (place + 2) xs (omega arith))

triples : (n place : ℕ) (xs : List (List ℕ)) → length xs ≡ n * 3 → map slot_of (keys_and_two place xs) ≡ map key_slot (map (λ group. get_or group 0 []) (first_chunks 3 n xs))
triples zero place [] fit = refl
triples zero place (x ∷ xs) fit = absurd (omega arith)
triples (suc n) place [] fit = absurd (omega arith)
triples (suc n) place (x ∷ []) fit = absurd (omega arith)
triples (suc n) place (x ∷ y ∷ []) fit = absurd (omega arith)
triples (suc n) place (x ∷ y ∷ z ∷ xs) fit = ap (λ slots. key_slot x ∷ slots) (triples n (place + 3) xs (omega arith))

module _ (xs : List (List ℕ)) where
  by_pairs : (b : Bool) → nat_eq (length xs % 2) 0 ≡ b → cond b (only_number (first_appearances (map slot_of (keys_and_values 0 (take (length xs) xs))))) None
      ≡ slot_of_keys (cond b (map (λ group. get_or group 0 []) (first_chunks 2 (length xs / 2) xs)) [])
  by_pairs true whole = grind (arith, nat_tests, take-length, pairs)
  by_pairs false whole = refl

  by_triples : (b : Bool) → nat_eq (length xs % 3) 0 ≡ b → cond b (only_number (first_appearances (map slot_of (keys_and_two 0 (take (length xs) xs))))) None
      ≡ slot_of_keys (cond b (map (λ group. get_or group 0 []) (first_chunks 3 (length xs / 3) xs)) [])
  by_triples true whole = grind (arith, nat_tests, take-length, triples)
  by_triples false whole = refl

-- the slot of keys alone
of_alone : (keys : List (List ℕ)) → only_number (first_appearances (map slot_of (keys_alone 0 keys))) ≡ slot_of_keys keys
of_alone keys = ap (λ slots. only_number (first_appearances slots)) (alone 0 keys)

-- the slot of the tuples, if they are whole
of_tuples : (pattern : MultiSlotArgPattern) (present : List (List ℕ)) → cond (fits pattern (length present)) (only_number (first_appearances (map slot_of (tuples_in pattern present)))) None ≡ slot_of_keys (command_keys pattern present)
of_tuples pattern present = grind (arith, nat_tests, of_alone, take-length, by_pairs, by_triples)

of_slots : (reads : Bool) (policy : Option ResponsePolicy) (pattern : MultiSlotArgPattern) (present : List (List ℕ)) → slot_routed (to_slots reads policy pattern present) ≡ slot_of_keys (command_keys pattern present)
of_slots reads policy pattern present = grind (arith, of_test, of_routes, of_tuples)

of_way : (policy : Option ResponsePolicy) (reads : Bool) (args : Arguments) (way : Option RouteBy) → slot_routed (routing_by policy reads args way) ≡ slot_by args way
of_way policy reads args None = of_key_or_any reads (argument args 1)
of_way policy reads args (Some route_by.AllNodes) = refl
of_way policy reads args (Some route_by.AllMasters) = refl
of_way policy reads args (Some (route_by.MultiSlot pattern)) = of_slots reads policy pattern (present_arguments args)
of_way policy reads args (Some route_by.Undefined) = refl
of_way policy reads args (Some (route_by.CountAt n)) = grind (arith, common_steps)
of_way policy reads args (Some (route_by.KeyAt n)) = of_key reads (argument args n)
of_way policy reads args (Some route_by.KeyAfterStreams) = of_place reads args (position (is_word (codes "STREAMS")) args)
of_way policy reads args (Some route_by.Random) = refl
of_way policy reads args (Some (route_by.SlotAt n)) = grind (arith, common_steps)

same_way : (way : Option RouteBy) (row : Option Registered) → routing_or way row ≡ option_or way (option_map (λ split. route_by.MultiSlot split.0) row)
same_way None row = refl
same_way (Some way) row = refl

of_name : (names : Names) (args : Arguments) (name : Option (List ℕ)) → slot_routed (routing_by_name names args name)
    ≡ option_and_then (λ name. slot_by args (option_or (base_routing name) (option_map (λ split. route_by.MultiSlot split.0) (lookup_name names.registered name)))) name
of_name names args None = refl
of_name names args (Some name) = grind (arith, of_way, same_way)

-- whichever names only read
pub slot_is_routed : (names : Names) (args : Arguments) → slot_routed (routing names args) ≡ command_slot names.registered args
unfolding command_slot
slot_is_routed names args = of_name names args (command_name args)
