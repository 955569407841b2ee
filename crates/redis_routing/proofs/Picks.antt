-- The sub-command by the places of a part is that part.
use Rattle.std.proofs.Common.{◌≡◌, ℕ, ◌+◌, ◌<◌, List, [], ◌∷◌, ◌++◌, Bool, true, false, cond, Option, None, Some, Vec, Global, map, option_map, length, take, drop, get_or, refl, sym, ap, ◌∙◌, subst, arith}
use Rattle.std.specs.List.{range_with_len}
use Rattle.std.specs.Prelude.{slice_get}
use Rattle.std.proofs.lemmas.List.{drop-drop, get_or-drop, get_or-map, length-map, map-append}
use Rattle.std.proofs.lemmas.Option.{slice_get-map, slice_get-get_or, get_or_from_slice_get}
use Rattle.cluster_slots.specs.SlotRoute.{SlotRoute}
use Rattle.cluster_slots.specs.Lists.{all_some}
use Rattle.cluster_slots.specs.ArgPattern.{fits, is_complete}
use Rattle.cluster_slots.specs.declared.arg_pattern.MultiSlotArgPattern.{MultiSlotArgPattern}
use Rattle.redis_routing.specs.Command.{Arguments, HasWords, argument, command_name}
use Rattle.redis_routing.specs.Laws.{ArePartsPicked}
use Rattle.redis_routing.specs.Names.{Names}
use Rattle.redis_routing.specs.NameWords.{name_words_of}
use Rattle.redis_routing.specs.Parts.{first_appearances, slot_of, places_in_slot, arguments_in_slot, part_of_slot}
use Rattle.redis_routing.specs.Routing.{routes_of, route_of_slot}
use Rattle.redis_routing.specs.PresentArguments.{present_arguments, present_arguments_after}
use Rattle.redis_routing.specs.SubCommand.{sub_command_after}
use Rattle.redis_routing.specs.Tuples.{tuples_in}
use Rattle.redis_routing.specs.Complete.{pattern_by_name, routes_by, routes_by_name, multi_slot_routes, AreSubCommands}
use Rattle.redis_routing.specs.Split.{Split, IsSplit, route_part, split_part}
use Rattle.redis_routing.specs.RoutingInfo.{route_list, route_lists}
use Rattle.std.proofs.lemmas.Bool.Decides.{nat_tests}
use Rattle.redis_routing.proofs.CommandNames.{has_words}
use Rattle.redis_routing.proofs.Cover.{Between, bounds, part_in_present, arguments_at_places}
use Rattle.redis_routing.proofs.SubCommands.{before, name_before}
use Rattle.redis_routing.proofs.TupleSteps.{present_item}

-- arguments that are texts, read by their places
read_from : (args : Arguments) (low : ℕ) (behind : Arguments) → drop low args ≡ behind → (texts : List (List ℕ)) → map Some texts ≡ take (length texts) behind → Some texts ≡ all_some (map (λ place. argument args place) (range_with_len low (length texts)))
read_from args low behind is [] taken = refl
read_from args low [] is (text ∷ texts) taken = absurd (cc taken)
read_from args low (arg ∷ behind) is (text ∷ texts) taken =
    let first : Some text ≡ arg = cc taken in
    let here : argument args low ≡ arg = ap (argument args) (omega arith) ∙ sym (get_or-drop low args 0 None) ∙ ap (λ xs. argument xs 0) is in
    let rest : drop (low + 1) args ≡ behind = sym (drop-drop 1 low args) ∙ ap (drop 1) is in
    let others : map Some texts ≡ take (length texts) behind = cc taken in
    ap (option_map (λ ts. text ∷ ts)) (read_from args (low + 1) behind rest texts others)
    ∙ ap (λ a. all_some (a ∷ map (λ place. argument args place) (range_with_len (low + 1) (length texts)))) (first ∙ sym here)

name_read : (words : ℕ) (args : Arguments) (name : HasWords words args) → Some name.texts ≡ all_some (map (λ place. argument args place) (range_with_len 0 words))
name_read words args name = grind (arith, read_from)

-- the present arguments at some places
texts_at : (words : ℕ) (args : Arguments) (low : ℕ) (places : List ℕ) → Between low (length (present_arguments_after words args)) places
    → all_some (map (λ place. argument args (place + words)) places) ≡ Some (map (λ place. get_or (present_arguments_after words args) place []) places)
texts_at words args low [] h = refl
texts_at words args low (p ∷ places) h = grind (arith, bounds, present_item, option_map, texts_at words args (p + 1) places h.1)

part_picked : (args : Arguments) (pattern : MultiSlotArgPattern) (slot : ℕ) → HasWords (name_words_of args) args → fits pattern (length (present_arguments args)) ≡ true
    → option_map (map Some) (sub_command_after (name_words_of args) args (places_in_slot pattern (present_arguments args) slot)) ≡ Some (part_of_slot pattern args slot)
part_picked args pattern slot name whole =
    let words : ℕ = name_words_of args in
    let present = present_arguments args in
    let behind = map (λ place. argument args (place + words)) (places_in_slot pattern present slot) in
    let texts : all_some behind ≡ Some (arguments_in_slot pattern present slot) = texts_at words args 0 (places_in_slot pattern present slot) (part_in_present pattern present slot whole) ∙ ap Some (arguments_at_places pattern present slot) in
    let made : sub_command_after words args (places_in_slot pattern present slot) ≡ Some (name.texts ++ arguments_in_slot pattern present slot) =
    sym (name_before (map (λ place. argument args place) (range_with_len 0 words)) behind name.texts (name_read words args name)) ∙ ap (before name.texts) texts in
    ap (option_map (map Some)) made ∙ ap Some (map-append Some name.texts (arguments_in_slot pattern present slot) ∙ ap (λ words. words ++ map Some (arguments_in_slot pattern present slot)) name.taken)

-- the parts of all routes
pub parts_picked : (args : Arguments) (reads : Bool) (pattern : MultiSlotArgPattern) → HasWords (name_words_of args) args → fits pattern (length (present_arguments args)) ≡ true → ArePartsPicked args pattern (routes_of reads pattern (present_arguments args))
parts_picked args reads pattern name whole = λ k d inside.
    let present = present_arguments args in
    let slots = first_appearances (map slot_of (tuples_in pattern present)) in
    let few : k < length slots = rw length-map at inside in
    let is : get_or (routes_of reads pattern present) k d ≡ route_of_slot reads pattern present (get_or slots k 0) = get_or-map (route_of_slot reads pattern present) slots k 0 d few in
    rw is (part_picked args pattern (get_or slots k 0) name whole)

pub complete_fits : (pattern : MultiSlotArgPattern) (m : ℕ) → is_complete pattern m ≡ true → fits pattern m ≡ true
complete_fits pattern m h1 = grind (arith, nat_tests)

-- the sub-commands of a complete command
pub complete_sub_commands : (names : Names) (args : Arguments) (routes : List (SlotRoute × List ℕ)) → multi_slot_routes names args ≡ Some routes → AreSubCommands names.registered args routes
complete_sub_commands names args routes = by_name (command_name args) refl
  where
    by_length : (name : List ℕ) (pattern : MultiSlotArgPattern) → command_name args ≡ Some name → pattern_by_name names.registered (Some name) ≡ Some pattern → (whole : Bool) → is_complete pattern (length (present_arguments args)) ≡ whole
        → cond whole (Some (routes_of (names.only_reads name) pattern (present_arguments args))) None ≡ Some routes → AreSubCommands names.registered args routes
    by_length name pattern named is true whole made =
        let same : pattern_by_name names.registered (command_name args) ≡ Some pattern = ap (pattern_by_name names.registered) named ∙ is in
        let routes-are : routes ≡ routes_of (names.only_reads name) pattern (present_arguments args) = cc made in
        rw (same, routes-are) (parts_picked args (names.only_reads name) pattern (has_words args name (sym named)) (complete_fits pattern (length (present_arguments args)) whole))
    by_length name pattern named is false whole made = absurd (cc made)

    by_pattern : (name : List ℕ) → command_name args ≡ Some name → (found : Option MultiSlotArgPattern) → pattern_by_name names.registered (Some name) ≡ found → routes_by (names.only_reads name) args found ≡ Some routes → AreSubCommands names.registered args routes
    by_pattern name named None is made = absurd (cc made)
    by_pattern name named (Some pattern) is made = by_length name pattern named is (is_complete pattern (length (present_arguments args))) refl made

    by_name : (name : Option (List ℕ)) → command_name args ≡ name → routes_by_name names args name ≡ Some routes → AreSubCommands names.registered args routes
    by_name None named made = absurd (cc made)
    by_name (Some name) named made = by_pattern name named (pattern_by_name names.registered (Some name)) refl made

-- a sub-command that is a part, as texts
sub_command_texts : (made : Option (List (List ℕ))) (part : Arguments) → option_map (map Some) made ≡ Some part → (words : List (List ℕ)) × (made ≡ Some words) × (map Some words ≡ part)
sub_command_texts None part is = absurd (cc is)
sub_command_texts (Some words) part is = (words, refl, cc is)

-- the sub-command by the places of a route of a split is the part of its number
pub route_sub_command : (split : Split) → IsSplit split → (routes : List (SlotRoute × Vec ℕ Global)) (number : ℕ) (route : SlotRoute × Vec ℕ Global) → route_lists routes ≡ split.routes → number < length split.routes → route ≡ get_or routes number route
    → (words : List (List ℕ)) × (sub_command_after (name_words_of split.arguments) split.arguments route.1.items ≡ Some words) × (Some (map Some words) ≡ route_part split number)
route_sub_command split whole routes number route routes-are long is =
    let inside : number < length routes = omega (arith, long, ap length routes-are, length-map routes route_list) in
    let each : ArePartsPicked split.arguments split.pattern split.routes =
    subst (ArePartsPicked split.arguments split.pattern) (sym whole.routes) (parts_picked split.arguments whole.is_read split.pattern whole.name (complete_fits split.pattern (length (present_arguments split.arguments)) whole.complete)) in
    let there : slice_get split.routes number ≡ Some (route_list route) =
    ap (λ rs. slice_get rs number) (sym routes-are) ∙ slice_get-map route_list routes number ∙ ap (option_map route_list) (slice_get-get_or routes number route inside ∙ ap Some (sym is)) in
    let here : get_or split.routes number (route_list route) ≡ route_list route = get_or_from_slice_get split.routes number (route_list route) (route_list route) there in
    let part = sub_command_texts (sub_command_after (name_words_of split.arguments) split.arguments route.1.items) (split_part split route.0.slot) (subst (λ r. option_map (map Some) (sub_command_after (name_words_of split.arguments) split.arguments r.1) ≡ Some (split_part split r.0.slot)) here (each number (route_list route) long)) in
    (part.0, part.1, ap Some part.2 ∙ sym (ap (option_map (λ r. split_part split r.0.slot)) there))
