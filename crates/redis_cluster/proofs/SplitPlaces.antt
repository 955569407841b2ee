-- The places of the parts of a multi-key command: those of the slot's tuples, by their numbers, and the place that all keys share.
use Rattle.std.proofs.Common.{◌≡◌, ℕ, ◌+◌, ◌-◌, ◌*◌, ◌%◌, ◌≤◌, List, [], ◌∷◌, ◌++◌, Bool, true, map, length, drop, refl, sym, ap, ◌∙◌, subst, add-one, suc-mul, zero-mul, arith}
use Rattle.std.specs.Prelude.{nat_eq, All}
use Rattle.std.specs.List.{flat_map, range_with_len}
use Rattle.std.proofs.lemmas.Bool.Decides.{nat_tests}
use Rattle.std.proofs.lemmas.List.{length-drop, length-map}
use Rattle.std.proofs.lemmas.List.Elements.{All-map}
use Rattle.cluster_slots.specs.ArgPattern.{is_complete, tuple_args_count, width_of}
use Rattle.cluster_slots.specs.declared.arg_pattern.MultiSlotArgPattern.{MultiSlotArgPattern}
use Rattle.cluster_slots.specs.declared.arg_pattern.MultiSlotArgPattern.TheVariants.{KeysOnly, KeyValuePairs, KeysAndLastArg, KeyWithTwoArgTriples}
use Rattle.cluster_slots.proofs.ArgPatterns.{length-own, own_few}
use Rattle.redis_routing.specs.Command.{Arguments}
use Rattle.redis_routing.specs.NameWords.{name_words_of}
use Rattle.redis_routing.specs.PresentArguments.{present_arguments}
use Rattle.redis_routing.specs.Tuples.{Tuple, keys_alone, keys_and_values, keys_and_two, places_of, tuples_from, tuples_in}
use Rattle.redis_routing.specs.Parts.{first_appearances, slot_of, tuples_in_slot}
use Rattle.redis_routing.specs.Routing.{route_of_slot, routes_of}
use Rattle.redis_routing.proofs.Cover.{own_whole}
use Rattle.redis_routing.proofs.Picks.{complete_fits}
use Rattle.redis_routing.proofs.SelfRouting.{before_gap_short}
use Rattle.redis_cluster.specs.MultiKey.{KeyTuple, MultiKey}
use Rattle.redis_cluster.specs.PlacedTuples.{unplaced}
use Rattle.redis_cluster.proofs.Places.{numbers_from}
use Rattle.redis_cluster.proofs.SplitParts.{HasTuples}
use Rattle.resp_core.proofs.Cases.{by_test}

-- the places of the arguments of the tuple of a number, where each tuple has so many
abbrev pub argument_places : ℕ → ℕ → List ℕ
argument_places width number = range_with_len (number * width) width

-- the place after the tuples, where all keys share the argument there
abbrev pub shared_places : MultiSlotArgPattern → ℕ → List ℕ
shared_places KeysOnly place = []
shared_places KeyValuePairs place = []
shared_places KeysAndLastArg place = place ∷ []
shared_places KeyWithTwoArgTriples place = []

-- the places of a slot's part
abbrev pub places_of_part : MultiSlotArgPattern → List KeyTuple → ℕ → List ℕ
places_of_part pattern tuples slot = flat_map (argument_places (width_of pattern)) (numbers_from slot 0 tuples) ++ shared_places pattern (length tuples * width_of pattern)

-- the tuples stand side by side from a place on, each of so many arguments
abbrev AreWide : ℕ → ℕ → List Tuple → Type 0
AreWide width place [] = Unit {0}
AreWide width place (t ∷ ts) = (places_of t ≡ range_with_len place width) × AreWide width (place + width) ts

wide_alone : (place : ℕ) (present : List (List ℕ)) → AreWide 1 place (keys_alone place present)
wide_alone place [] = tt
wide_alone place (key ∷ present) = (refl, wide_alone (place + 1) present)

wide_pairs : (place : ℕ) (present : List (List ℕ)) → AreWide 2 place (keys_and_values place present)
wide_pairs place [] = tt
wide_pairs place (key ∷ []) = tt
wide_pairs place (key ∷ value ∷ present) = (refl, wide_pairs (place + 2) present)

wide_triples : (place : ℕ) (present : List (List ℕ)) → AreWide 3 place (keys_and_two place present)
wide_triples place [] = tt
wide_triples place (key ∷ []) = tt
wide_triples place (key ∷ a ∷ []) = tt
wide_triples place (key ∷ a ∷ b ∷ present) = (refl, wide_triples (place + 3) present)

wide : (pattern : MultiSlotArgPattern) (place : ℕ) (present : List (List ℕ)) → AreWide (width_of pattern) place (tuples_from pattern place present)
wide KeysOnly place present = wide_alone place present
wide KeyValuePairs place present = wide_pairs place present
wide KeysAndLastArg place present = wide_alone place present
wide KeyWithTwoArgTriples place present = wide_triples place present

-- the places of a slot's tuples are those of their numbers
places_by_number : (width slot number : ℕ) (ts : List Tuple) → AreWide width (number * width) ts → flat_map places_of (tuples_in_slot slot ts) ≡ flat_map (argument_places width) (numbers_from slot number (map unplaced ts))
places_by_number width slot number [] h = refl
places_by_number width slot number (t ∷ ts) h =
    let next : number * width + width ≡ (number + 1) * width = sym (ap (λ n. n * width) (add-one number) ∙ suc-mul number width) in
    let rest = places_by_number width slot (number + 1) ts (subst (λ place. AreWide width place ts) next h.1) in
    by_test (nat_eq (slot_of t) slot)
    (λ here. rw here (ap (λ ps. ps ++ flat_map places_of (tuples_in_slot slot ts)) h.0 ∙ ap (λ ps. argument_places width number ++ ps) rest))
    (λ other. rw other rest)

count_alone : (place : ℕ) (present : List (List ℕ)) → length (keys_alone place present) * 1 ≡ length present
count_alone place [] = refl
count_alone place (key ∷ present) = omega (arith, count_alone (place + 1) present)

count_pairs : (place : ℕ) (present : List (List ℕ)) → length present % 2 ≡ 0 → length (keys_and_values place present) * 2 ≡ length present
count_pairs place [] even = refl
count_pairs place (key ∷ []) even = absurd (omega arith)
count_pairs place (key ∷ value ∷ present) even = let less : length present % 2 ≡ 0 = omega arith in omega (arith, count_pairs (place + 2) present less)

count_triples : (place : ℕ) (present : List (List ℕ)) → length present % 3 ≡ 0 → length (keys_and_two place present) * 3 ≡ length present
count_triples place [] even = refl
count_triples place (key ∷ []) even = absurd (omega arith)
count_triples place (key ∷ a ∷ []) even = absurd (omega arith)
count_triples place (key ∷ a ∷ b ∷ present) even = let less : length present % 3 ≡ 0 = omega arith in omega (arith, count_triples (place + 3) present less)

-- so many arguments make the tuples
tuples_count : (pattern : MultiSlotArgPattern) (present : List (List ℕ)) → length present % width_of pattern ≡ 0 → length (tuples_from pattern 0 present) * width_of pattern ≡ length present
tuples_count KeysOnly present even = count_alone 0 present
tuples_count KeyValuePairs present even = count_pairs 0 present even
tuples_count KeysAndLastArg present even = count_alone 0 present
tuples_count KeyWithTwoArgTriples present even = count_triples 0 present even

-- the places after the tuples of complete arguments
shared_after : (pattern : MultiSlotArgPattern) (m : ℕ) → is_complete pattern m ≡ true → range_with_len (tuple_args_count pattern m) (m - tuple_args_count pattern m) ≡ shared_places pattern (tuple_args_count pattern m)
shared_after pattern m h1 = grind (arith, nat_tests)

module _ (pattern : MultiSlotArgPattern) (present : List (List ℕ)) (command : MultiKey) (made : HasTuples pattern present command) where
  own_is : tuple_args_count pattern (length present) ≡ length command.tuples * width_of pattern
  own_is = grind (arith, own_whole, complete_fits, tuples_count, length-own, length-map)

  -- there are no more tuples than present arguments
  pub tuples_few_present : length command.tuples ≤ length present
  tuples_few_present =
      let own : tuple_args_count pattern (length present) ≤ length present = own_few pattern (length present) in
      let count : length command.tuples ≤ length command.tuples * width_of pattern = le_times pattern (length command.tuples) in
      omega (arith, own_is)
    where
      le_times : (pattern : MultiSlotArgPattern) (n : ℕ) → n ≤ n * width_of pattern
      le_times KeysOnly n = omega arith
      le_times KeyValuePairs n = omega arith
      le_times KeysAndLastArg n = omega arith
      le_times KeyWithTwoArgTriples n = omega arith

  part_place : (reads : Bool) (slot : ℕ) → (route_of_slot reads pattern present slot).1 ≡ places_of_part pattern command.tuples slot
  part_place reads slot = grind (arith, zero-mul, wide, places_by_number, numbers_from, shared_after, own_is)

  -- the list of each route has the places of its part
  pub parts_placed : (reads : Bool) → All (λ r. r.1 ≡ places_of_part pattern command.tuples r.0.slot) (routes_of reads pattern present)
  parts_placed reads = All-map (λ r. r.1 ≡ places_of_part pattern command.tuples r.0.slot) (route_of_slot reads pattern present) (first_appearances (map slot_of (tuples_in pattern present))) (λ k d inside. part_place reads _)

-- no more arguments are present than there are
pub few_present : (args : Arguments) → length (present_arguments args) ≤ length args
few_present args = omega (arith, before_gap_short (drop (name_words_of args) args), length-drop (name_words_of args) args)
