-- A plan that was made of a multi-key command has a part for each slot of its keys, and a node for each.
use Rattle.std.proofs.Common.{◌≡◌, ℕ, true, List, [], ◌∷◌, Some, All, sym, ap, ◌∙◌, map, arith}
use Rattle.std.specs.List.{AllZip, list_any, zip}
use Rattle.std.specs.Prelude.{IfSome, nat_eq}
use Rattle.std.proofs.lemmas.List.Elements.{All-head, All-tail, All-map, All-weaker}
use Rattle.std.proofs.lemmas.Grind.{common_steps}
use Rattle.cluster_slots.specs.Address.{Address}
use Rattle.cluster_slots.specs.KeySlot.{key_slot}
use Rattle.cluster_slots.specs.SlotRoute.{SlotRoute}
use Rattle.cluster_map.specs.ReplyNode.{IsCovered}
use Rattle.redis_routing.specs.Command.{Arguments, command_name}
use Rattle.redis_routing.specs.Names.{Names}
use Rattle.redis_routing.specs.PresentArguments.{present_arguments}
use Rattle.redis_routing.specs.Registry.{Registrations}
use Rattle.redis_routing.specs.Complete.{multi_slot_routes, part_by_name, pattern_by_name}
use Rattle.redis_routing.specs.Split.{Split, IsSplit, HasJoiningPolicy, split_part, policy_by_name, slots_of}
use Rattle.redis_cluster.specs.MultiKey.{MultiKey, form_by_policy, multi_key, part_by_slot, part_of}
use Rattle.redis_cluster.specs.PlacedTuples.{tuples_of}
use Rattle.redis_cluster.proofs.CommandParts.{part_by_command, routes_by_command}
use Rattle.redis_cluster.proofs.SplitParts.{command_of_routes, is_made, part_means, pattern_made, policy_made}
use Rattle.redis_cluster.specs.Driven.{Request}
use Rattle.redis_cluster.specs.Plan.{Plan, IsRoutedPlan}
use Rattle.redis_cluster.specs.Ready.{IsPlanOf, IsTarget, IsReady}
use Rattle.redis_cluster.proofs.Constructors.{same_some, same_head, same_tail}

-- each part means its slot
each_part : (registry : Registrations) (command : MultiKey) (part_at : ℕ → Arguments) (slots : List ℕ) (parts : List (List (List ℕ))) → map (map Some) parts ≡ map part_at slots
    → All (λ slot. multi_key registry (part_at slot) ≡ Some (part_of command slot)) slots → AllZip (λ slot part. multi_key registry (map Some part) ≡ Some (part_of command slot)) slots parts
each_part registry command part_at [] [] same each = tt
each_part registry command part_at [] (p ∷ parts) same each = absurd (cc same)
each_part registry command part_at (s ∷ slots) [] same each = absurd (cc same)
each_part registry command part_at (s ∷ slots) (p ∷ parts) same each = (
  ap (multi_key registry) (same_head same) ∙ All-head (λ slot. multi_key registry (part_at slot) ≡ Some (part_of command slot)) s slots each,
  each_part registry command part_at slots parts (same_tail same) (All-tail (λ slot. multi_key registry (part_at slot) ≡ Some (part_of command slot)) s slots each),
)

-- a part of the plan is that of its slot by the command's name
pub part_is : (registry : Registrations) (args : Arguments) (split : Split) (slot : ℕ) → split.arguments ≡ args → Some split.pattern ≡ pattern_by_name registry (command_name args) → split_part split slot ≡ part_by_name registry args slot
part_is registry args split slot arguments pattern = grind (arith, common_steps)

-- the policy of a split command joins the replies to its parts
pub joining : (names : Names) (args : Arguments) (split : Split) → Some split.policy ≡ policy_by_name names.registered (command_name args) → IsSplit split → HasJoiningPolicy names.registered args
joining names args split policy held = (split.policy, sym policy, held.policy)

-- and so it is told of its routes
pub joining_routes : (names : Names) (args : Arguments) (split : Split) → Some split.routes ≡ multi_slot_routes names args → Some split.policy ≡ policy_by_name names.registered (command_name args) → IsSplit split
    → IfSome (multi_slot_routes names args) (λ routes. HasJoiningPolicy names.registered args)
joining_routes names args split routes policy held = rw (← routes) (joining names args split policy held)

module _ (names : Names) (args : Arguments) (plan : Plan) (arguments : plan.split.arguments ≡ args) (routes : Some plan.split.routes ≡ multi_slot_routes names args)
    (pattern : Some plan.split.pattern ≡ pattern_by_name names.registered (command_name args)) (policy : Some plan.split.policy ≡ policy_by_name names.registered (command_name args)) (whole : IsRoutedPlan plan) where
  abbrev registry : Registrations
  registry = names.registered

  -- the command that the plan is of
  pub planned : (command : MultiKey) × (multi_key names.registered args ≡ Some command) × IsPlanOf names.registered command plan
  planned =
      let found = command_of_routes names args plan.split.routes (joining names args plan.split policy whole.split) (sym routes) in
      let command : MultiKey = found.0 in
      let made = is_made registry args command found.1 in
      let pattern_is : plan.split.pattern ≡ made.0 = same_some plan.split.pattern made.0 (pattern ∙ ap (pattern_by_name registry) made.1.name ∙ pattern_made registry args made.0 command made.1) in
      let policy_is : plan.split.policy ≡ made.1.policy = same_some plan.split.policy made.1.policy (policy ∙ ap (policy_by_name registry) made.1.name ∙ policy_made registry args made.0 command made.1) in
      let Meant : ℕ → Type 0 = λ slot. multi_key registry (split_part plan.split slot) ≡ Some (part_of command slot) in
      let Has : ℕ → Type 0 = λ slot. list_any (λ t. nat_eq (key_slot t.key) slot) command.tuples ≡ true in
      let meant : All Meant (slots_of plan.split.routes) =
      All-map Meant (λ r. r.0.slot) plan.split.routes
      (All-weaker (λ (r : SlotRoute × List ℕ). Has r.0.slot) (λ r. Meant r.0.slot) (λ r has. ap (multi_key registry) (part_is registry args plan.split r.0.slot arguments pattern) ∙ part_means registry args command r.0.slot found.1 has) plan.split.routes found.2.of_keys) in (
        command,
        found.1,
        record {
          command_is = ap (multi_key registry) arguments ∙ found.1;
          form = ap form_by_policy policy_is ∙ made.1.form;
          tuples = made.1.whole.tuples ∙ ap (λ p. tuples_of p (present_arguments args)) (sym pattern_is)
              ∙ ap (λ a. tuples_of plan.split.pattern (present_arguments a)) (sym arguments);
          at_most_once = found.2.at_most_once;
          once = found.2.once;
          nodes = whole.nodes;
          parts = each_part registry command (split_part plan.split) (slots_of plan.split.routes) plan.parts whole.parts meant;
        },
      )

targets_by : (IsNode : SlotRoute → Address → Type 0) (asked : Request) (part_at : ℕ → Arguments) (routes : List (SlotRoute × List ℕ)) (nodes : List Address) (parts : List (List (List ℕ)))
    → ((slot : ℕ) → part_at slot ≡ part_by_slot asked.names.registered asked.arguments slot) → AllZip (λ r a. IsNode r.0 a) routes nodes → map (map Some) parts ≡ map part_at (slots_of routes)
    → AllZip (IsTarget IsNode asked) (map (λ r. r.0) routes) (zip nodes parts)
targets_by IsNode asked part_at [] [] parts same each parts_are = tt
targets_by IsNode asked part_at [] (n ∷ nodes) parts same each parts_are = absurd each
targets_by IsNode asked part_at (r ∷ routes) [] parts same each parts_are = absurd each
targets_by IsNode asked part_at (r ∷ routes) (n ∷ nodes) [] same each parts_are = absurd (cc parts_are)
targets_by IsNode asked part_at (r ∷ routes) (n ∷ nodes) (p ∷ parts) same each parts_are =
    ((each.0, same_head parts_are ∙ same r.0.slot), targets_by IsNode asked part_at routes nodes parts same each.1 (same_tail parts_are))

pub ready : (IsNode : SlotRoute → Address → Type 0) (r : Request) (plan : Plan) → plan.split.arguments ≡ r.arguments → Some plan.split.routes ≡ multi_slot_routes r.names r.arguments
    → Some plan.split.pattern ≡ pattern_by_name r.names.registered (command_name r.arguments) → Some plan.split.policy ≡ policy_by_name r.names.registered (command_name r.arguments) → IsRoutedPlan plan
    → AllZip (λ t a. IsNode t.0 a) plan.split.routes plan.nodes → All (λ t. IsCovered r.map t.0.slot) plan.split.routes → (command : MultiKey) × IsReady IsNode r plan command
ready IsNode r plan arguments routes pattern policy whole nodes covered =
    let registry = r.names.registered in
    let found = planned r.names r.arguments plan arguments routes pattern policy whole in (
      found.0,
      record {
        plan_is = found.2;
        is_covered = record {
          command_is = found.1;
          routes_are = routes_by_command r.names r.arguments found.0 plan.split.routes found.1 (sym routes);
          covered = All-map (λ (route : SlotRoute). IsCovered r.map route.slot) (λ t. t.0) plan.split.routes covered;
        };
        targets_are = targets_by IsNode r (split_part plan.split) plan.split.routes plan.nodes plan.parts (λ slot. part_is registry r.arguments plan.split slot arguments pattern ∙ part_by_command registry r.arguments found.0 slot found.1) nodes whole.parts;
      },
    )

parts_by : (registry : Registrations) (args : Arguments) (part_at : ℕ → Arguments) (routes : List (SlotRoute × List ℕ)) (parts : List (List (List ℕ)))
    → ((slot : ℕ) → part_at slot ≡ part_by_slot registry args slot) → map (map Some) parts ≡ map part_at (slots_of routes)
    → AllZip (λ r part. map Some part ≡ part_by_slot registry args r.0.slot) routes parts
parts_by registry args part_at [] [] same parts_are = tt
parts_by registry args part_at [] (p ∷ parts) same parts_are = absurd (cc parts_are)
parts_by registry args part_at (r ∷ routes) [] same parts_are = absurd (cc parts_are)
parts_by registry args part_at (r ∷ routes) (p ∷ parts) same parts_are =
    (same_head parts_are ∙ same r.0.slot, parts_by registry args part_at routes parts same (same_tail parts_are))

-- the parts of a split command, as they were made, are those of its tuples
pub made_parts : (names : Names) (args : Arguments) (split : Split) (parts : List (List (List ℕ))) → split.arguments ≡ args → Some split.routes ≡ multi_slot_routes names args
    → Some split.pattern ≡ pattern_by_name names.registered (command_name args) → Some split.policy ≡ policy_by_name names.registered (command_name args) → IsSplit split → map (map Some) parts ≡ map (split_part split) (slots_of split.routes)
    → AllZip (λ r part. map Some part ≡ part_by_slot names.registered args r.0.slot) split.routes parts
made_parts names args split parts arguments routes pattern policy held made =
    let registry = names.registered in
    let found = command_of_routes names args split.routes (joining names args split policy held) (sym routes) in
    parts_by registry args (split_part split) split.routes parts (λ slot. part_is registry args split slot arguments pattern ∙ part_by_command registry args found.0 slot found.1) made
