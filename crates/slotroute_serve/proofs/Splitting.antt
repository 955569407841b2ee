-- The lines of the parts of a command.
use Rattle.std.proofs.Common.{◌≡◌, ℕ, ◌+◌, ◌<◌, List, [], ◌∷◌, ◌++◌, Bool, true, false, cond, ◌||◌, sym, ◌∙◌, ap, subst, length, take, get_or, map, Bor, Vec, Global, option_map, option_copied, is_none, is_some, not, arith}
use Rattle.std.proofs.lemmas.List.{take_more, map-append, flat_map_more}
use Rattle.std.proofs.lemmas.List.Folds.{list_any-append}
use Rattle.std.proofs.lemmas.Option.{slice_get-map, slice_get-get_or}
use Rattle.std.proofs.Math.Path.{fun_ext}
use Rattle.std.specs.Prelude.{Option, Some, None, MatchOption}
use Rattle.std.specs.List.{flat_map, list_any}
use Rattle.cluster_slots.specs.declared.arg_pattern.MultiSlotArgPattern.{MultiSlotArgPattern}
use Rattle.cluster_map.specs.Address.{Address}
use Rattle.cluster_map.specs.SlotNodes.{SlotNodes}
use Rattle.cluster_map.specs.RangeMap.{RangeEntry}
use Rattle.cluster_map.specs.SlotRoute.{SlotRoute}
use Rattle.redis_cluster.specs.Command.{Arguments, command_name}
use Rattle.redis_cluster.specs.Complete.{multi_slot_routes, part_by_name, part_by_pattern, pattern_by_name}
use Rattle.redis_cluster.specs.Parts.{part_of_slot}
use Rattle.redis_cluster.specs.ReadOnly.{is_among}
use Rattle.redis_routing.specs.Names.{names_of}
use Rattle.redis_routing.specs.Registry.{Registrations}
use Rattle.redis_cluster.specs.Split.{Split, route_part, split_part}
use Rattle.redis_cluster.specs.RoutingInfo.{route_lists}
use Rattle.slotroute_serve.specs.Commands.{run_only_reads, names_with}
use Rattle.slotroute_serve.specs.Split.{RoutedPart, IsRoutedPart, ArePartLines, IsSplitAnswer, part_line}
use Rattle.slotroute_serve.proofs.Reading.{AllZip-more}

-- A node that is lent, as the value it lends.
pub node_is : (P : Type 0) (Q : Address → Type 0) (node : Option (Bor Address)) → MatchOption node P (λ address. Q address.now) → MatchOption (option_copied node) P Q
node_is P Q None h = h
node_is P Q (Some address) h = h

pub none_is : (node : Option (Bor Address)) (told here : Bool) → is_some node ≡ not told → told ≡ here → is_none (option_copied node) ≡ here
none_is None true here e h = h
none_is None false here e h = cc
none_is (Some address) true here e h = cc
none_is (Some address) false here e h = h

-- The part of the route of a number is that of the route's slot.
pub words_of_part : (split : Split) (routes : List (SlotRoute × Vec ℕ Global)) (i : ℕ) (route : SlotRoute × Vec ℕ Global) (words : List (List ℕ)) → route_lists routes ≡ split.routes → i < length routes → route ≡ get_or routes i route
    → Some (map Some words) ≡ route_part split i → map Some words ≡ split_part split route.0.slot
words_of_part split routes i route words routes-are inside is part = grind (arith, slice_get-map, option_map, slice_get-get_or)

-- The parts of slots by the pattern of the name are those of the command.
pub same_parts : (registered : Registrations) (args : Arguments) (pattern : MultiSlotArgPattern) → Some pattern ≡ pattern_by_name registered (command_name args) → part_of_slot pattern args ≡ part_by_name registered args
same_parts registered args pattern named = fun_ext (λ slot. ap (λ p. part_by_pattern p args slot) named)

-- One more part without a node, or with one, in the status.
status_more : (before here : Bool) (status : ℕ) → status ≡ cond here 1 (cond before 1 0) → status ≡ cond (before || (here || false)) 1 0
status_more before here status h1 = grind (arith)

-- One more line.
pub one_more : (entries : List (RangeEntry SlotNodes)) (parts_by_slot : ℕ → Arguments) (routes : List (SlotRoute × Vec ℕ Global)) (i : ℕ) (route : SlotRoute × Vec ℕ Global) (lines line : List ℕ) (old status : ℕ) (part : RoutedPart) → i < length routes
    → ArePartLines entries parts_by_slot (route_lists (take i routes)) lines old → route ≡ get_or routes i route → IsRoutedPart entries parts_by_slot route.0 part → line ≡ part_line part → status ≡ cond (is_none part.node) 1 old
    → ArePartLines entries parts_by_slot (route_lists (take (i + 1) routes)) (lines ++ line) status
one_more entries parts_by_slot routes i route lines line old status part l a is p e s =
    let here : IsRoutedPart entries parts_by_slot (get_or routes i route).0 part = subst (λ (r : SlotRoute × Vec ℕ Global). IsRoutedPart entries parts_by_slot r.0 part) is p in
    record {
      parts = a.parts ++ part ∷ [];
      each = rw (take_more routes i route l, map-append) (AllZip-more (λ r. IsRoutedPart entries parts_by_slot r.0) (route_lists (take i routes)) a.parts ((get_or routes i route).0, (get_or routes i route).1.items) part a.each here);
      lines = ap (λ t. t ++ line) a.lines ∙ ap (λ t. flat_map part_line a.parts ++ t) e ∙ flat_map_more part_line [] a.parts part;
      ended = rw (list_any-append (λ (q : RoutedPart). is_none q.node) a.parts (part ∷ [])) (status_more (list_any (λ (q : RoutedPart). is_none q.node) a.parts) (is_none part.node) status (s ∙ ap (cond (is_none part.node) 1) a.ended));
    }

-- The lines of a split of the words answer for them.
pub answers : (registered : Registrations) (entries : List (RangeEntry SlotNodes)) (words command : List (List ℕ)) (names : List (List ℕ)) (split : Split) (text : List ℕ) (status : ℕ) → command ≡ words → ((name : List ℕ) → is_among names name ≡ run_only_reads name)
    → Some split.routes ≡ multi_slot_routes (names_of names registered) (map Some command) → split.arguments ≡ map Some command → Some split.pattern ≡ pattern_by_name registered (command_name (map Some command))
    → ArePartLines entries (split_part split) split.routes text status → IsSplitAnswer registered entries words text status
answers registered entries words command names split text status same reads routes arguments pattern lines =
    let whole : split_part split ≡ part_by_name registered (map Some words) =
    ap (part_of_slot split.pattern) arguments ∙ same_parts registered (map Some command) split.pattern pattern ∙ ap (λ ws. part_by_name registered (map Some ws)) same in
    record {
      routes = split.routes;
      split = ap (λ ws. multi_slot_routes (names_with registered) (map Some ws)) (sym same) ∙ ap (λ (f : List ℕ → Bool). multi_slot_routes (record { only_reads = f; registered = registered }) (map Some command)) (sym (fun_ext reads)) ∙ sym routes;
      answered = subst (λ parts. ArePartLines entries parts split.routes text status) whole lines;
    }
