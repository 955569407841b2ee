-- The parts of a multi-key command: the part of a slot means the command with that slot's tuples alone, and each slot of a key has one route.
use Rattle.std.proofs.Common.{◌≡◌, ℕ, ◌-◌, ◌<◌, ◌≤◌, List, [], ◌∷◌, Bool, true, false, cond, ◌||◌, Option, None, Some, map, length, get_or, refl, sym, ap, ◌∙◌, subst, arith}
use Rattle.std.specs.Prelude.{nat_eq, count_by, option_and_then, option_map, slice_get, All}
use Rattle.std.specs.List.{filter, list_any}
use Rattle.std.proofs.Math.Path.{fun_ext}
use Rattle.std.proofs.lemmas.Bool.Decides.{nat_tests}
use Rattle.std.proofs.lemmas.List.{map-id}
use Rattle.std.proofs.lemmas.List.Elements.{All-map}
use Rattle.std.proofs.lemmas.Simd.{map-map}
use Rattle.std.proofs.lemmas.Grind.{common_steps}
use Rattle.cluster_slots.specs.KeySlot.{key_slot}
use Rattle.cluster_slots.specs.SlotRoute.{SlotRoute}
use Rattle.cluster_slots.specs.ArgPattern.{is_complete}
use Rattle.cluster_slots.specs.declared.arg_pattern.MultiSlotArgPattern.{MultiSlotArgPattern}
use Rattle.cluster_slots.proofs.ArgPatterns.{fits_some}
use Rattle.redis_routing.specs.Command.{Arguments, command_name}
use Rattle.redis_routing.specs.Names.{Names}
use Rattle.redis_routing.specs.Policies.{joins_parts}
use Rattle.redis_routing.specs.PresentArguments.{present_arguments}
use Rattle.redis_routing.specs.Registry.{Registered, Registrations}
use Rattle.redis_routing.specs.MultiKeyNames.{registered_as, split_of}
use Rattle.redis_routing.specs.Tuples.{shared_in, tuples_in}
use Rattle.redis_routing.specs.declared.policy.ResponsePolicy.{ResponsePolicy}
use Rattle.redis_routing.proofs.CommandNames.{words_again}
use Rattle.redis_routing.specs.Complete.{pattern_by_name, part_by_pattern, part_by_name, routes_by, routes_by_name, multi_slot_routes}
use Rattle.redis_routing.specs.Parts.{first_appearances, part_of_slot, slot_of, tuples_in_slot, arguments_in_slot}
use Rattle.redis_routing.specs.Routing.{route_of_slot, routes_of}
use Rattle.redis_routing.specs.Split.{HasJoiningPolicy, policy_by_name, slots_of}
use Rattle.redis_routing.proofs.Cover.{count_firsts}
use Rattle.redis_routing.proofs.Picks.{complete_fits}
use Rattle.redis_routing.proofs.SelfRouting.{All-first_appearances, all_there, complete_again, present_arguments-part, same_contents, shared_again, tuples_again}
use Rattle.redis_routing.proofs.SomeRoutes.{some_route}
use Rattle.redis_cluster.specs.MultiKey.{KeyTuple, MultiKey, ReplyForm, command_with, form_by_policy, is_whole, multi_key, part_of, shape_of, slots_in, tuples_by, tuples_of_slot}
use Rattle.redis_cluster.specs.PlacedTuples.{tuples_of, unplaced}
use Rattle.redis_cluster.proofs.Constructors.{same_some}
use Rattle.redis_cluster.proofs.Shapes.{whole_is, tuples_are_placed, shared_is}
use Rattle.resp_core.proofs.Cases.{by_test}

module _ {X Y : Type 0} (test : Y → Bool) (f : X → Y) where
  pub filter-map : (xs : List X) → filter test (map f xs) ≡ map f (filter (λ x. test (f x)) xs)
  filter-map [] = refl
  filter-map (x ∷ xs) = by_test (test (f x)) (λ kept. rw kept (ap (λ ys. f x ∷ ys) (filter-map xs))) (λ dropped. rw dropped (filter-map xs))

  list_any-map : (xs : List X) → list_any test (map f xs) ≡ list_any (λ x. test (f x)) xs
  list_any-map [] = refl
  list_any-map (x ∷ xs) = ap (λ b. test (f x) || b) (list_any-map xs)

-- the arguments after the name are complete, and these are the tuples of them
pub record HasTuples (pattern : MultiSlotArgPattern) (present : List (List ℕ)) (command : MultiKey) : Type 0 where
  pub complete : is_complete pattern (length present) ≡ true
  pub shared : command.shared ≡ slice_get (shared_in pattern present) 0
  pub tuples : command.tuples ≡ tuples_of pattern present

-- what makes a multi-key command: the name has a pattern and a policy that has a form of the reply, and the arguments after it are complete
pub record IsMade (registry : Registrations) (args : Arguments) (pattern : MultiSlotArgPattern) (command : MultiKey) : Type 0 where
  pub name : command_name args ≡ Some command.name
  pub registered : command.registered ≡ registered_as registry command.name
  pub policy : ResponsePolicy
  pub split : split_of registry command.name ≡ Some (pattern, policy)
  pub form : form_by_policy policy ≡ Some command.form
  pub whole : HasTuples pattern (present_arguments args) command

-- the pattern and the policy of its name
pub pattern_made : (registry : Registrations) (args : Arguments) (pattern : MultiSlotArgPattern) (command : MultiKey) → IsMade registry args pattern command → pattern_by_name registry (Some command.name) ≡ Some pattern
pattern_made registry args pattern command made = ap (option_map (λ split. split.0)) made.split

pub policy_made : (registry : Registrations) (args : Arguments) (pattern : MultiSlotArgPattern) (command : MultiKey) (made : IsMade registry args pattern command) → policy_by_name registry (Some command.name) ≡ Some made.policy
policy_made registry args pattern command made = ap (option_map (λ split. split.1)) made.split

module _ (registry : Registrations) (args : Arguments) where
  abbrev present : List (List ℕ)
  present = present_arguments args

  abbrev by_parts : List ℕ → MultiSlotArgPattern → ReplyForm → MultiKey
  by_parts name pattern form = record { name = name; registered = registered_as registry name; shared = slice_get present (length present - (shape_of pattern).shared); tuples = tuples_by (shape_of pattern) present; form = form }

  of_length : (command : MultiKey) (name : List ℕ) (pattern : MultiSlotArgPattern) (policy : ResponsePolicy) (form : ReplyForm)
      → command_name args ≡ Some name → split_of registry name ≡ Some (pattern, policy) → form_by_policy policy ≡ Some form
      → (complete : Bool) → is_whole (shape_of pattern) (length present) ≡ complete → cond complete (Some (by_parts name pattern form)) None ≡ Some command → (pattern : MultiSlotArgPattern) × IsMade registry args pattern command
  of_length command name pattern policy form named split formed true complete is = grind (arith, whole_is, shared_is, tuples_are_placed)
  of_length command name pattern policy form named split formed false complete is = absurd (cc is)

  of_form : (command : MultiKey) (name : List ℕ) (pattern : MultiSlotArgPattern) (policy : ResponsePolicy) → command_name args ≡ Some name → split_of registry name ≡ Some (pattern, policy)
      → (form : Option ReplyForm) → form_by_policy policy ≡ form → option_and_then (command_with registry name present pattern) form ≡ Some command → (pattern : MultiSlotArgPattern) × IsMade registry args pattern command
  of_form command name pattern policy named split None formed is = absurd (cc is)
  of_form command name pattern policy named split (Some form) formed is = of_length command name pattern policy form named split formed (is_whole (shape_of pattern) (length present)) refl is

  abbrev by_split : List ℕ → Registered → Option MultiKey
  by_split name split = option_and_then (command_with registry name present split.0) (form_by_policy split.1)

  of_split : (command : MultiKey) (name : List ℕ) → command_name args ≡ Some name
      → (found : Option Registered) → split_of registry name ≡ found → option_and_then (by_split name) found ≡ Some command → (pattern : MultiSlotArgPattern) × IsMade registry args pattern command
  of_split command name named None split is = absurd (cc is)
  of_split command name named (Some (pattern, policy)) split is = of_form command name pattern policy named split (form_by_policy policy) refl is

  of_name : (command : MultiKey) (name : Option (List ℕ)) → command_name args ≡ name
      → option_and_then (λ n. option_and_then (by_split n) (split_of registry n)) name ≡ Some command → (pattern : MultiSlotArgPattern) × IsMade registry args pattern command
  of_name command None named is = absurd (cc is)
  of_name command (Some name) named is = of_split command name named (split_of registry name) refl is

  -- a command is made of its name and its arguments
  pub is_made : (command : MultiKey) → multi_key registry args ≡ Some command → (pattern : MultiSlotArgPattern) × IsMade registry args pattern command
  is_made command is = of_name command (command_name args) refl is

  -- and what is made so is the command
  pub made_is : (pattern : MultiSlotArgPattern) (command : MultiKey) → IsMade registry args pattern command → multi_key registry args ≡ Some command
  made_is pattern command made = grind (arith, whole_is, shared_is, tuples_are_placed)

-- the part of a slot that a key of the command has
module _ (registry : Registrations) (args : Arguments) (pattern : MultiSlotArgPattern) (command : MultiKey) (made : IsMade registry args pattern command)
    (slot : ℕ) (there : list_any (λ t. nat_eq (key_slot t.key) slot) command.tuples ≡ true) where
  abbrev part : Arguments
  part = part_of_slot pattern args slot

  abbrev texts : List (List ℕ)
  texts = arguments_in_slot pattern (present_arguments args) slot

  part_is : part_by_name registry args slot ≡ part
  part_is = ap (λ n. part_by_pattern (pattern_by_name registry n) args slot) made.name ∙ ap (λ w. part_by_pattern w args slot) (pattern_made registry args pattern command made)

  placed : list_any (λ t. nat_eq (slot_of t) slot) (tuples_in pattern (present_arguments args)) ≡ true
  placed = sym (list_any-map (λ t. nat_eq (key_slot t.key) slot) unplaced (tuples_in pattern (present_arguments args))) ∙ ap (list_any (λ t. nat_eq (key_slot t.key) slot)) (sym made.whole.tuples) ∙ there

  some : 0 < length (present_arguments args)
  some = fits_some pattern (length (present_arguments args)) (complete_fits pattern (length (present_arguments args)) made.whole.complete)

  run_is : present_arguments part ≡ texts
  run_is = present_arguments-part args texts some

  tuples_are : tuples_of_slot slot command.tuples ≡ tuples_of pattern texts
  tuples_are =
      ap (tuples_of_slot slot) made.whole.tuples ∙ filter-map (λ t. nat_eq (key_slot t.key) slot) unplaced (tuples_in pattern (present_arguments args))
      ∙ sym (same_contents (λ c. record { key = c.0; extras = c.1 }) (tuples_in pattern texts) (tuples_in_slot slot (tuples_in pattern (present_arguments args))) (tuples_again pattern (present_arguments args) slot placed))

  part_made : IsMade registry part pattern (part_of command slot)
  part_made = record {
    name = (words_again args some (map Some texts)).0 ∙ made.name;
    registered = made.registered;
    policy = made.policy;
    split = made.split;
    form = made.form;
    whole = record {
      complete = rw run_is (complete_again pattern (present_arguments args) slot placed made.whole.complete);
      shared = made.whole.shared ∙ ap (λ ws. slice_get ws 0) (sym (ap (shared_in pattern) run_is ∙ shared_again pattern (present_arguments args) slot placed));
      tuples = tuples_are ∙ ap (tuples_of pattern) (sym run_is);
    };
  }

  means_part : multi_key registry (part_by_name registry args slot) ≡ Some (part_of command slot)
  means_part = ap (multi_key registry) part_is ∙ made_is registry part pattern (part_of command slot) part_made

-- the part of a slot that a key has means the command with that slot's tuples alone
pub part_means : (registry : Registrations) (args : Arguments) (command : MultiKey) (slot : ℕ) → multi_key registry args ≡ Some command → list_any (λ t. nat_eq (key_slot t.key) slot) command.tuples ≡ true → multi_key registry (part_by_name registry args slot) ≡ Some (part_of command slot)
part_means registry args command slot is there =
    let made = is_made registry args command is in
    means_part registry args made.0 command made.1 slot there

-- The routes of the parts of a command: each slot of a key has one, and there are no others.
pub record AreRoutesOf (command : MultiKey) (routes : List (SlotRoute × List ℕ)) : Type 0 where
  pub slots : slots_of routes ≡ first_appearances (map (λ t. key_slot t.key) command.tuples)
  pub at_most_once : (slot : ℕ) → count_by (nat_eq slot) (slots_of routes) ≤ 1
  pub once : All (λ t. count_by (nat_eq (key_slot t.key)) (slots_of routes) ≡ 1) command.tuples
  pub of_keys : All (λ r. list_any (λ t. nat_eq (key_slot t.key) r.0.slot) command.tuples ≡ true) routes
  pub some : 0 < length routes

-- each of some things has a number that stands among theirs
pub listed : {X : Type 0} (number : X → ℕ) (xs : List X) → All (λ x. list_any (nat_eq (number x)) (map number xs) ≡ true) xs
listed number xs k d inside = grind (arith, common_steps, fun_ext, list_any-map, all_there, nat_tests)

-- The slots of a command: each is that of a key, none stands twice, and that of each key stands once.
module _ (command : MultiKey) where
  abbrev slot_of_key : KeyTuple → ℕ
  slot_of_key t = key_slot t.key

  pub slots_have_keys : All (λ slot. list_any (λ t. nat_eq (key_slot t.key) slot) command.tuples ≡ true) (slots_in command)
  slots_have_keys =
      let There : ℕ → Type 0 = λ slot. list_any (λ t. nat_eq (key_slot t.key) slot) command.tuples ≡ true in
      All-first_appearances There (map slot_of_key command.tuples) (All-map There slot_of_key command.tuples (all_there slot_of_key command.tuples))

  counted : (slot : ℕ) → count_by (nat_eq slot) (slots_in command) ≡ cond (list_any (nat_eq slot) (map slot_of_key command.tuples)) 1 0
  counted slot = count_firsts slot (map slot_of_key command.tuples)

  pub slots_once : (slot : ℕ) → count_by (nat_eq slot) (slots_in command) ≤ 1
  slots_once slot = rw (counted slot) (by_test (list_any (nat_eq slot) (map slot_of_key command.tuples)) (λ found. rw found (omega arith)) (λ none. rw none (omega arith)))

  pub keys_once : All (λ t. count_by (nat_eq (key_slot t.key)) (slots_in command) ≡ 1) command.tuples
  keys_once k d inside = counted (key_slot (get_or command.tuples k d).key) ∙ ap (λ b. cond b 1 0) (listed slot_of_key command.tuples k d inside)

-- the slots of a command's tuples, and the routes of its parts
module _ (pattern : MultiSlotArgPattern) (present : List (List ℕ)) (command : MultiKey) (whole : HasTuples pattern present command) where
  abbrev numbers : List ℕ
  numbers = map (λ t. key_slot t.key) command.tuples

  pub same_slots : map slot_of (tuples_in pattern present) ≡ numbers
  same_slots = sym (ap (map (λ t. key_slot t.key)) whole.tuples ∙ map-map (λ t. key_slot t.key) unplaced (tuples_in pattern present))

  module _ (reads : Bool) where
    abbrev routes : List (SlotRoute × List ℕ)
    routes = routes_of reads pattern present

    slots_are : slots_of routes ≡ first_appearances numbers
    slots_are =
        let firsts = first_appearances (map slot_of (tuples_in pattern present)) in
        map-map (λ r. r.0.slot) (route_of_slot reads pattern present) firsts ∙ map-id firsts ∙ ap first_appearances same_slots

    keys_have : All (λ slot. list_any (λ t. nat_eq (key_slot t.key) slot) command.tuples ≡ true) (first_appearances (map slot_of (tuples_in pattern present)))
    keys_have =
        subst (λ ns. All (λ slot. list_any (λ t. nat_eq (key_slot t.key) slot) command.tuples ≡ true) (first_appearances ns)) (sym same_slots) (slots_have_keys command)

    pub are_routes_of : AreRoutesOf command routes
    are_routes_of = record {
      slots = slots_are;
      at_most_once = λ slot. subst (λ slots. count_by (nat_eq slot) slots ≤ 1) (sym slots_are) (slots_once command slot);
      once = subst (λ slots. All (λ (t : KeyTuple). count_by (nat_eq (key_slot t.key)) slots ≡ 1) command.tuples) (sym slots_are) (keys_once command);
      of_keys = All-map (λ r. list_any (λ t. nat_eq (key_slot t.key) r.0.slot) command.tuples ≡ true) (route_of_slot reads pattern present) _ keys_have;
      some = some_route reads pattern present (complete_fits pattern (length present) whole.complete);
    }

-- the routes of a command's parts
pub routes_made : (names : Names) (args : Arguments) (pattern : MultiSlotArgPattern) (command : MultiKey) → IsMade names.registered args pattern command
    → multi_slot_routes names args ≡ Some (routes_of (names.only_reads command.name) pattern (present_arguments args))
routes_made names args pattern command made = grind (arith, common_steps)

-- a policy that joins the replies to parts has a form of the reply
pub form_of_joining : (policy : ResponsePolicy) → joins_parts policy ≡ true → (form : ReplyForm) × (form_by_policy policy ≡ Some form)
form_of_joining policy h1 = grind (arith)

-- a command that has routes, and whose policy joins the replies to its parts
module _ (names : Names) (args : Arguments) (routes : List (SlotRoute × List ℕ)) (policy : ResponsePolicy) (policy_is : policy_by_name names.registered (command_name args) ≡ Some policy) (joins : joins_parts policy ≡ true) where
  abbrev Found : Type 0
  Found = (command : MultiKey) × (multi_key names.registered args ≡ Some command)

  with_length : (name : List ℕ) (pattern : MultiSlotArgPattern) → command_name args ≡ Some name → split_of names.registered name ≡ Some (pattern, policy) → (complete : Bool) → is_complete pattern (length (present_arguments args)) ≡ complete
      → cond complete (Some (routes_of (names.only_reads name) pattern (present_arguments args))) None ≡ Some routes → Found
  with_length name pattern named split true complete is =
      let form = form_of_joining policy joins in
      let command : MultiKey = record { name = name; registered = registered_as names.registered name; shared = slice_get (shared_in pattern (present_arguments args)) 0; tuples = tuples_of pattern (present_arguments args); form = form.0 } in
      (command, made_is names.registered args pattern command (record { name = named; registered = refl; policy = policy; split = split; form = form.1; whole = record { complete = complete; shared = refl; tuples = refl } }))
  with_length name pattern named split false complete is = absurd (cc is)

  with_split : (name : List ℕ) → command_name args ≡ Some name → (found : Option Registered) → split_of names.registered name ≡ found → routes_by (names.only_reads name) args (option_map (λ split. split.0) found) ≡ Some routes → Found
  with_split name named None split is = absurd (cc is)
  with_split name named (Some (pattern, joined)) split is = grind (arith, same_some, with_length)

  with_name : (name : Option (List ℕ)) → command_name args ≡ name → routes_by_name names args name ≡ Some routes → Found
  with_name None named is = absurd (cc is)
  with_name (Some name) named is = with_split name named (split_of names.registered name) refl is

  -- is one over many keys
  routed_is_command : multi_slot_routes names args ≡ Some routes → Found
  routed_is_command is = with_name (command_name args) refl is

-- a multi-key command and its routes
pub routes_of_command : (names : Names) (args : Arguments) (command : MultiKey) (routes : List (SlotRoute × List ℕ))
    → multi_key names.registered args ≡ Some command → multi_slot_routes names args ≡ Some routes → AreRoutesOf command routes
routes_of_command names args command routes is routed =
    let made = is_made names.registered args command is in
    let same : routes_of (names.only_reads command.name) made.0 (present_arguments args) ≡ routes = cc (routes_made names args made.0 command made.1, routed) in
    subst (AreRoutesOf command) same (are_routes_of made.0 (present_arguments args) command made.1.whole (names.only_reads command.name))

pub command_of_routes : (names : Names) (args : Arguments) (routes : List (SlotRoute × List ℕ)) → HasJoiningPolicy names.registered args → multi_slot_routes names args ≡ Some routes
    → (command : MultiKey) × (multi_key names.registered args ≡ Some command) × AreRoutesOf command routes
command_of_routes names args routes (policy, policy_is, joins) routed =
    let found = routed_is_command names args routes policy policy_is joins routed in
    (found.0, found.1, routes_of_command names args found.0 routes found.1 routed)

-- without routes there is no command
pub no_command : (names : Names) (args : Arguments) → multi_slot_routes names args ≡ None → multi_key names.registered args ≡ None
no_command names args none = grind (arith, is_made, routes_made)
