-- A multi-key command, taken apart.
use Rattle.std.proofs.Common.{◌≡◌, ℕ, ◌-◌, List, Bool, true, false, cond, Option, Some, None, map, option_map, length, take, drop, refl, sym, ap, ◌∙◌, subst}
use Rattle.std.specs.Prelude.{IsSome, option_and_then, slice_get}
use Rattle.std.proofs.lemmas.List.{take-map, drop-map, length-map}
use Rattle.std.specs.declared.vec.Vec.{Vec}
use Rattle.std.specs.declared.alloc.Global.{Global}
use Rattle.cluster_slots.specs.ArgPattern.{is_complete, tuple_args_count}
use Rattle.cluster_slots.specs.declared.arg_pattern.MultiSlotArgPattern.{MultiSlotArgPattern}
use Rattle.redis_routing.specs.Command.{command_name}
use Rattle.redis_routing.specs.NameWords.{name_words_of}
use Rattle.redis_routing.specs.PresentArguments.{arguments_before_gap, present_arguments_after, present_arguments}
use Rattle.redis_routing.specs.Registry.{Registrations, Registered}
use Rattle.redis_routing.specs.MultiKeyNames.{registered_as, split_of}
use Rattle.redis_routing.specs.Tuples.{shared_in}
use Rattle.redis_routing.specs.declared.policy.ResponsePolicy.{ResponsePolicy}
use Rattle.redis_cluster.specs.MultiKey.{MultiKey, ReplyForm, multi_key, command_with, form_by_policy, is_whole, shape_of, tuples_by}
use Rattle.redis_cluster.proofs.Shapes.{shared_is, tuples_are_placed, whole_is}
use Rattle.redis_cluster.specs.PlacedTuples.{tuples_of}
use Rattle.memory_nodes.specs.Parts.{words, key_tuples}
use Rattle.redis_routing.proofs.SelfRouting.{arguments_before_gap-map}

run_all : (count : ℕ) (args : List (List ℕ)) → present_arguments_after count (map Some args) ≡ drop count args
run_all count args = ap arguments_before_gap (drop-map Some count args) ∙ arguments_before_gap-map (drop count args)

-- the lists that a run is cut into, which begins after so many words
module _ (count : ℕ) (args run tuples shared : List (Vec ℕ Global)) (cmd : List (List ℕ)) (own : ℕ) (pattern : MultiSlotArgPattern) (are_args : words args ≡ cmd) (is_run : run ≡ drop count args) (is_own : own ≡ tuple_args_count pattern (length run)) where
  words_run : words run ≡ drop count cmd
  words_run = ap words is_run ∙ sym (drop-map (λ arg. arg.items) count args) ∙ ap (drop count) are_args

  same_own : own ≡ tuple_args_count pattern (length (drop count cmd))
  same_own = is_own ∙ ap (tuple_args_count pattern) (sym (length-map run (λ arg. arg.items)) ∙ ap length words_run)

  words_tuples : tuples ≡ take own run → words tuples ≡ take (tuple_args_count pattern (length (drop count cmd))) (drop count cmd)
  words_tuples e = ap words e ∙ sym (take-map (λ arg. arg.items) own run) ∙ ap (take own) words_run ∙ ap (λ n. take n (drop count cmd)) same_own

  words_shared : shared ≡ drop own run → words shared ≡ shared_in pattern (drop count cmd)
  words_shared e = ap words e ∙ sym (drop-map (λ arg. arg.items) own run) ∙ ap (drop own) words_run ∙ ap (λ n. drop n (drop count cmd)) same_own

module _ (known : Registrations) where
  -- the command of a name, its arguments, a pattern, and a form
  abbrev shaped : List ℕ → List (List ℕ) → MultiSlotArgPattern → ReplyForm → MultiKey
  shaped name run pattern form = record { name = name; registered = registered_as known name; shared = slice_get (shared_in pattern run) 0; tuples = tuples_of pattern run; form = form }

  -- where there is a command, it has the form
  with_shape : (name : List ℕ) (run : List (List ℕ)) (pattern : MultiSlotArgPattern) (form : Option ReplyForm) → IsSome (option_and_then (command_with known name run pattern) form) → option_and_then (command_with known name run pattern) form ≡ option_map (shaped name run pattern) form
  with_shape name run pattern None h = refl
  with_shape name run pattern (Some form) h = complete (is_whole (shape_of pattern) (length run)) refl h
    where
      by_shape_of : MultiKey
      by_shape_of = record { name = name; registered = registered_as known name; shared = slice_get run (length run - (shape_of pattern).shared); tuples = tuples_by (shape_of pattern) run; form = form }

      same : is_complete pattern (length run) ≡ true → by_shape_of ≡ shaped name run pattern form
      same whole =
          ap (λ s. record { name = name; registered = registered_as known name; shared = s; tuples = tuples_by (shape_of pattern) run; form = form }) (shared_is pattern run whole)
          ∙ ap (λ ts. record { name = name; registered = registered_as known name; shared = slice_get (shared_in pattern run) 0; tuples = ts; form = form }) (tuples_are_placed pattern run whole)

      complete : (b : Bool) → is_whole (shape_of pattern) (length run) ≡ b → IsSome (cond b (Some by_shape_of) None) → cond b (Some by_shape_of) None ≡ Some (shaped name run pattern form)
      complete true whole s = ap Some (same (sym (whole_is pattern (length run)) ∙ whole))
      complete false whole s = absurd (cc s)

  -- the command by its name, with its tuples and what they share
  abbrev made_of : Option Registered → List ℕ → MultiSlotArgPattern → List (List ℕ) → List (List ℕ) → ReplyForm → MultiKey
  made_of registered name pattern tuples shared form = record { name = name; registered = registered; shared = slice_get shared 0; tuples = key_tuples pattern tuples; form = form }

  by_run : (cmd : List (List ℕ)) (name : List ℕ) (pattern : MultiSlotArgPattern) (policy : ResponsePolicy) → command_name (map Some cmd) ≡ Some name → Some (pattern, policy) ≡ split_of known name → IsSome (multi_key known (map Some cmd)) → multi_key known (map Some cmd) ≡ option_map (shaped name (present_arguments (map Some cmd)) pattern) (form_by_policy policy)
  by_run cmd name pattern policy e split h =
      let run : List (List ℕ) = present_arguments (map Some cmd) in
      let all : multi_key known (map Some cmd) ≡ option_and_then (command_with known name run pattern) (form_by_policy policy) =
      ap (option_and_then (λ n. option_and_then (λ s. option_and_then (command_with known n run s.0) (form_by_policy s.1)) (split_of known n))) e
      ∙ ap (option_and_then (λ s. option_and_then (command_with known name run s.0) (form_by_policy s.1))) (sym split) in
      all ∙ with_shape name run pattern (form_by_policy policy) (subst IsSome all h)

  by_lists : (run tuples shared : List (List ℕ)) (name : List ℕ) (pattern : MultiSlotArgPattern) (form : Option ReplyForm) → tuples ≡ take (tuple_args_count pattern (length run)) run → shared ≡ shared_in pattern run → option_map (shaped name run pattern) form ≡ option_map (made_of (registered_as known name) name pattern tuples shared) form
  by_lists run tuples shared name pattern form t s =
      sym (ap (λ ts. option_map (made_of (registered_as known name) name pattern ts shared) form) t ∙ ap (λ xs. option_map (made_of (registered_as known name) name pattern (take (tuple_args_count pattern (length run)) run) xs) form) s)

  -- the command by the lists that its arguments are cut into
  pub taken_apart : (count : ℕ) (args run tuples shared : List (Vec ℕ Global)) (cmd : List (List ℕ)) (own : ℕ) (name : List ℕ) (registered : Option Registered) (pattern : MultiSlotArgPattern) (policy : ResponsePolicy) → registered ≡ registered_as known name → count ≡ name_words_of (map Some cmd) → words args ≡ cmd → run ≡ drop count args → own ≡ tuple_args_count pattern (length run) → tuples ≡ take own run → shared ≡ drop own run → command_name (map Some cmd) ≡ Some name → Some (pattern, policy) ≡ split_of known name → IsSome (multi_key known (map Some cmd)) → multi_key known (map Some cmd) ≡ option_map (made_of registered name pattern (words tuples) (words shared)) (form_by_policy policy)
  taken_apart count args run tuples shared cmd own name registered pattern policy given n a r o t s e split h =
      let present : present_arguments (map Some cmd) ≡ drop count cmd = ap (λ w. present_arguments_after w (map Some cmd)) (sym n) ∙ run_all count cmd in
      let all = ap (λ xs. option_map (shaped name xs pattern) (form_by_policy policy)) present in
      let lists = by_lists (drop count cmd) (words tuples) (words shared) name pattern (form_by_policy policy) (words_tuples count args run tuples shared cmd own pattern a r o t) (words_shared count args run tuples shared cmd own pattern a r o s) in
      by_run cmd name pattern policy e split h ∙ all ∙ lists ∙ ap (λ known_as. option_map (made_of known_as name pattern (words tuples) (words shared)) (form_by_policy policy)) (sym given)
