-- The part of each route of a split, as a command of its own, goes to that very route.
use Rattle.std.proofs.Common.{◌≡◌, ℕ, ◌+◌, ◌-◌, ◌*◌, ◌%◌, ◌<◌, ◌≤◌, List, [], ◌∷◌, ◌++◌, Bool, true, false, cond, not, ◌&&◌, ◌||◌, Option, Some, None, map, length, take, refl, sym, ap, ◌∙◌, arith}
use Rattle.std.specs.Prelude.{nat_eq, nat_lt, All}
use Rattle.std.specs.List.{flat_map, list_any}
use Rattle.std.proofs.Math.Nat.{mul-mod_left}
use Rattle.std.proofs.lemmas.Bool.{lt-ltb, eq-eqb, or_right}
use Rattle.std.proofs.lemmas.Bool.Decides.{nat_tests}
use Rattle.std.proofs.lemmas.List.{take_at, drop_at, length-append, length-drop, length-take, length-take-le}
use Rattle.std.proofs.lemmas.List.Elements.{All-cons, All-filter, All-head, All-map, All-tail, All-weaker}
use Rattle.std.proofs.lemmas.Simd.{map-map}
use Rattle.std.proofs.lemmas.Grind.{common_steps}
use Rattle.cluster_slots.specs.KeySlot.{key_slot}
use Rattle.cluster_slots.specs.SlotRoute.{SlotRoute}
use Rattle.cluster_slots.specs.ArgPattern.{fits, is_complete, tuple_args_count, width_of}
use Rattle.cluster_slots.specs.declared.arg_pattern.MultiSlotArgPattern.{MultiSlotArgPattern}
use Rattle.cluster_slots.specs.declared.arg_pattern.MultiSlotArgPattern.TheVariants.{KeysOnly, KeyValuePairs, KeysAndLastArg, KeyWithTwoArgTriples}
use Rattle.cluster_slots.proofs.ArgPatterns.{fits_some}
use Rattle.redis_routing.specs.TwoWords.{takes_second}
use Rattle.redis_routing.specs.Command.{Arguments, command_name, name_by}
use Rattle.redis_routing.specs.RouteBy.{base_routings, base_routing}
use Rattle.redis_routing.specs.Names.{Names}
use Rattle.redis_routing.specs.NameWords.{name_words_of}
use Rattle.redis_routing.specs.PresentArguments.{arguments_before_gap, present_arguments}
use Rattle.redis_routing.specs.Registry.{tables_with}
use Rattle.redis_routing.specs.Tuples.{Tuple, keys_alone, keys_and_two, keys_and_values, shared_in, tuples_from, tuples_in, arguments_of}
use Rattle.redis_routing.specs.Parts.{first_appearances, tuples_in_slot, part_of_slot, arguments_in_slot, slot_of}
use Rattle.redis_routing.specs.Routing.{nodes_for, route_of_slot, routes_of, routing, to_slots}
use Rattle.redis_routing.specs.RoutingInfo.{single_node, specific_node}
use Rattle.redis_routing.specs.Laws.{ArePartsRouted}
use Rattle.redis_routing.specs.declared.policy.ResponsePolicy.{ResponsePolicy}
use Rattle.redis_routing.specs.declared.route_by.RouteBy.{RouteBy}
use Rattle.redis_routing.specs.declared.route_by.RouteBy.TheVariants as route_by
use Rattle.redis_routing.proofs.CommandNames.{words_again, words_alone}
use Rattle.redis_routing.proofs.Rows.{each_row}

-- a name of one word, to which no second one belongs
abbrev is_plain : List ℕ → Bool
is_plain name = not (takes_second name || list_any (nat_eq 32) name)

abbrev plain_if_split : List ℕ → Option RouteBy → Bool
plain_if_split name (Some (route_by.MultiSlot pattern)) = is_plain name
plain_if_split name _ = true

each_plain : (name : List ℕ) → plain_if_split name (base_routing name) ≡ true
unfolding base_routing takes_second
each_plain name = each_row plain_if_split (λ n. refl) base_routings refl name

-- no second word belongs to the first one of a plain name
takes_none : (first : List ℕ) (second : Option (List ℕ)) → is_plain (name_by first second) ≡ true → takes_second first ≡ false
takes_none first second plain = grind (arith, common_steps)

-- the name of a command that splits under the tables takes its first word alone
pub table_words : (args : Arguments) (name : List ℕ) (pattern : MultiSlotArgPattern) → Some name ≡ command_name args → base_routing name ≡ Some (route_by.MultiSlot pattern) → name_words_of args ≡ 1
table_words [] name pattern named route_by_is = absurd (cc named)
table_words (None ∷ rest) name pattern named route_by_is = absurd (cc named)
table_words (Some first ∷ rest) name pattern named route_by_is = grind (arith, common_steps, each_plain name, words_alone, takes_none)

pub arguments_before_gap-map : (words : List (List ℕ)) → arguments_before_gap (map Some words) ≡ words
arguments_before_gap-map [] = refl
arguments_before_gap-map (word ∷ words) = ap (λ ws. word ∷ ws) (arguments_before_gap-map words)

-- a part has one slot, unless it is empty
first_appearances-part : (slot : ℕ) (ts : List Tuple) → first_appearances (map slot_of (tuples_in_slot slot ts)) ≡ cond (list_any (λ t. nat_eq (slot_of t) slot) ts) (slot ∷ []) []
first_appearances-part slot [] = refl
first_appearances-part slot (t ∷ ts) = grind (arith, common_steps, first_appearances-part slot ts)

some_tuple : (slot : ℕ) (ts : List Tuple) → first_appearances (map slot_of ts) ≡ slot ∷ [] → 0 < length ts
some_tuple slot [] h = cc h
some_tuple slot (t ∷ ts) h = omega arith

-- what a tuple has besides its place: its key, and what goes with it
abbrev pub content : Tuple → List ℕ × List (List ℕ)
content t = (t.key, t.extras)

-- what comes of the content of each tuple is the same where the contents are
pub same_contents : {X : Type 0} (f : List ℕ × List (List ℕ) → X) (ts us : List Tuple) → map content ts ≡ map content us → map (λ t. f (content t)) ts ≡ map (λ t. f (content t)) us
same_contents f ts us same = sym (map-map f content ts) ∙ ap (map f) same ∙ map-map f content us

-- tuples of one width: their arguments, one after another, make tuples of the same contents again; and there are no more of them than the bound
record IsWhole (make : ℕ → List (List ℕ) → List Tuple) (width bound : ℕ) (ts : List Tuple) : Type 0 where
  tuples : (place : ℕ) → map content (make place (flat_map arguments_of ts)) ≡ map content ts
  size : length (flat_map arguments_of ts) ≡ length ts * width
  few : length ts ≤ bound

whole_alone : (slot place : ℕ) (present : List (List ℕ)) → IsWhole keys_alone 1 (length present) (tuples_in_slot slot (keys_alone place present))
whole_alone slot place [] = record { tuples = λ p. refl; size = refl; few = omega arith }
whole_alone slot place (key ∷ present) = grind (arith, common_steps, whole_alone slot (place + 1) present)

whole_values : (slot place : ℕ) (present : List (List ℕ)) → IsWhole keys_and_values 2 (length present) (tuples_in_slot slot (keys_and_values place present))
whole_values slot place [] = record { tuples = λ p. refl; size = refl; few = omega arith }
whole_values slot place (key ∷ []) = record { tuples = λ p. refl; size = refl; few = omega arith }
whole_values slot place (key ∷ value ∷ present) = grind (arith, common_steps, whole_values slot (place + 2) present)

whole_two : (slot place : ℕ) (present : List (List ℕ)) → IsWhole keys_and_two 3 (length present) (tuples_in_slot slot (keys_and_two place present))
whole_two slot place [] = record { tuples = λ p. refl; size = refl; few = omega arith }
whole_two slot place (key ∷ []) = record { tuples = λ p. refl; size = refl; few = omega arith }
whole_two slot place (key ∷ a ∷ []) = record { tuples = λ p. refl; size = refl; few = omega arith }
whole_two slot place (key ∷ a ∷ b ∷ present) = grind (arith, common_steps, whole_two slot (place + 3) present)

whole : (pattern : MultiSlotArgPattern) (slot place : ℕ) (present : List (List ℕ)) → IsWhole (tuples_from pattern) (width_of pattern) (length present) (tuples_in_slot slot (tuples_from pattern place present))
whole KeysOnly slot place present = whole_alone slot place present
whole KeyValuePairs slot place present = whole_values slot place present
whole KeysAndLastArg slot place present = whole_alone slot place present
whole KeyWithTwoArgTriples slot place present = whole_two slot place present

-- where n of the tuples of m arguments stand before what all share, what makes tuples is again what those n have
own_again : (pattern : MultiSlotArgPattern) (m n : ℕ) → 0 < n → n ≤ tuple_args_count pattern m → tuple_args_count pattern (n * width_of pattern + (m - tuple_args_count pattern m)) ≡ n * width_of pattern
own_again pattern m n h1 h2 = grind (arith, nat_tests)

-- so many arguments are those of whole tuples
whole_fits : (k n width : ℕ) → 0 < k → k ≡ n * width → (nat_lt 0 k && nat_eq (k % width) 0) ≡ true
whole_fits k n width some is = rw (lt-ltb 0 k some, eq-eqb (k % width) 0 (ap (λ j. j % width) is ∙ mul-mod_left n width)) refl

fits_again : (pattern : MultiSlotArgPattern) (m n : ℕ) → 0 < n → fits pattern (n * width_of pattern + (m - tuple_args_count pattern m)) ≡ true
fits_again pattern m n h1 = grind (arith, lt-ltb, whole_fits)

-- and where the m arguments are complete, they are complete with what all share
still_complete : (pattern : MultiSlotArgPattern) (m n : ℕ) → 0 < n → is_complete pattern m ≡ true → is_complete pattern (n * width_of pattern + (m - tuple_args_count pattern m)) ≡ true
still_complete pattern m n h1 h2 = grind (arith, fits_again, nat_tests)

module _ (pattern : MultiSlotArgPattern) (present : List (List ℕ)) (slot : ℕ) (there : list_any (λ t. nat_eq (slot_of t) slot) (tuples_in pattern present) ≡ true) where
  abbrev slot_tuples : List Tuple
  slot_tuples = tuples_in_slot slot (tuples_in pattern present)

  abbrev part_arguments : List (List ℕ)
  part_arguments = arguments_in_slot pattern present slot

  one_slot : first_appearances (map slot_of slot_tuples) ≡ slot ∷ []
  one_slot = first_appearances-part slot (tuples_in pattern present) ∙ ap (λ b. cond b (slot ∷ []) []) there

  whole_part : IsWhole (tuples_from pattern) (width_of pattern) (length (take (tuple_args_count pattern (length present)) present)) slot_tuples
  whole_part = whole pattern slot 0 (take (tuple_args_count pattern (length present)) present)

  length-part_arguments : length part_arguments ≡ length slot_tuples * width_of pattern + (length present - tuple_args_count pattern (length present))
  length-part_arguments = length-append (flat_map arguments_of slot_tuples) (shared_in pattern present) ∙ ap (λ n. n + length (shared_in pattern present)) whole_part.size ∙ ap (λ n. length slot_tuples * width_of pattern + n) (length-drop (tuple_args_count pattern (length present)) present)

  own-part_arguments : tuple_args_count pattern (length part_arguments) ≡ length (flat_map arguments_of slot_tuples)
  own-part_arguments = grind (arith, length-part_arguments, own_again, some_tuple, one_slot, whole_part, length-take)

  -- the tuples of the part by itself have the contents of the slot's
  pub tuples_again : map content (tuples_in pattern part_arguments) ≡ map content slot_tuples
  tuples_again = grind (arith, take_at, own-part_arguments, whole_part)

  -- what all its tuples share is what all tuples of the command share
  pub shared_again : shared_in pattern part_arguments ≡ shared_in pattern present
  shared_again = drop_at (flat_map arguments_of slot_tuples) (shared_in pattern present) (tuple_args_count pattern (length part_arguments)) (sym own-part_arguments)

  -- the part of a complete command is complete
  pub complete_again : is_complete pattern (length present) ≡ true → is_complete pattern (length part_arguments) ≡ true
  complete_again complete = ap (is_complete pattern) length-part_arguments ∙ still_complete pattern (length present) (length slot_tuples) (some_tuple slot slot_tuples one_slot) complete

  one_slot_again : first_appearances (map slot_of (tuples_in pattern part_arguments)) ≡ slot ∷ []
  one_slot_again = ap first_appearances (same_contents (λ u. key_slot u.0) (tuples_in pattern part_arguments) slot_tuples tuples_again) ∙ one_slot

  part_to_slot : (reads : Bool) (policy : Option ResponsePolicy) → to_slots reads policy pattern part_arguments ≡ Some (single_node (specific_node (record { slot = slot; addr = nodes_for reads })))
  part_to_slot reads policy = grind (arith, length-part_arguments, fits_again, some_tuple, one_slot, one_slot_again)

-- each of some things is one of those with its number
pub all_there : {X : Type 0} (number : X → ℕ) (xs : List X) → All (λ x. list_any (λ y. nat_eq (number y) (number x)) xs ≡ true) xs
all_there number xs = grind (arith, common_steps, eq-eqb, or_right)

pub All-first_appearances : (P : ℕ → Type 0) (ns : List ℕ) → All P ns → All P (first_appearances ns)
All-first_appearances P [] all = all
All-first_appearances P (n ∷ ns) all = All-cons P n _ (All-head P n ns all) (All-filter (λ k. not (nat_eq n k)) P (first_appearances ns) (All-first_appearances P ns (All-tail P n ns all)))

pub before_gap_short : (args : Arguments) → length (arguments_before_gap args) ≤ length args
before_gap_short [] = omega arith
before_gap_short (None ∷ args) = omega arith
before_gap_short (Some arg ∷ args) = omega (arith, before_gap_short args)

-- after the words of the name stand only texts of the part
pub present_arguments-part : (args : Arguments) (texts : List (List ℕ)) → 0 < length (present_arguments args) → present_arguments (take (name_words_of args) args ++ map Some texts) ≡ texts
present_arguments-part args texts some = grind (arith, common_steps, length-take-le, before_gap_short, length-drop, words_again args some (map Some texts), drop_at, arguments_before_gap-map texts)

module _ (names : Names) (args : Arguments) (name : List ℕ) (pattern : MultiSlotArgPattern) (named : command_name args ≡ Some name) (route_by_is : (tables_with names.registered).route_by name ≡ Some (route_by.MultiSlot pattern)) (fit : fits pattern (length (present_arguments args)) ≡ true) where
  abbrev present : List (List ℕ)
  present = present_arguments args

  abbrev policy : Option ResponsePolicy
  policy = (tables_with names.registered).policy name

  part_routed : (slot : ℕ) → list_any (λ t. nat_eq (slot_of t) slot) (tuples_in pattern present) ≡ true
      → routing names (part_of_slot pattern args slot) ≡ Some (single_node (specific_node (record { slot = slot; addr = nodes_for (names.only_reads name) })))
  part_routed slot there = grind (arith, fits_some, words_again, present_arguments-part, part_to_slot)

  pub parts_routed : ArePartsRouted names args pattern (routes_of (names.only_reads name) pattern present)
  parts_routed =
      let ts : List Tuple = tuples_in pattern present in
      let Routed : SlotRoute × List ℕ → Type 0 = λ r. routing names (part_of_slot pattern args r.0.slot) ≡ Some (single_node (specific_node r.0)) in
      let There : ℕ → Type 0 = λ slot. list_any (λ t. nat_eq (slot_of t) slot) ts ≡ true in
      All-map Routed (route_of_slot (names.only_reads name) pattern present) (first_appearances (map slot_of ts))
      (All-weaker There (λ slot. Routed (route_of_slot (names.only_reads name) pattern present slot)) part_routed (first_appearances (map slot_of ts))
      (All-first_appearances There (map slot_of ts) (All-map There slot_of ts (all_there slot_of ts))))
