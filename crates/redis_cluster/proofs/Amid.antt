-- Parts that are served at moments of their own do what the whole command does to a keyspace that has, at each key, what stood there at the moment of its part.
use Rattle.std.proofs.Common.{◌≡◌, ℕ, List, [], ◌∷◌, ◌++◌, true, Result, Some, Ok, All, refl, sym, ap, ◌∙◌, subst, arith, length, map, get_or}
use Rattle.std.proofs.lemmas.Grind.{common_steps}
use Rattle.std.specs.Prelude.{nat_eq}
use Rattle.std.specs.List.{list_any}
use Rattle.std.proofs.Math.Path.{fun_ext}
use Rattle.std.proofs.lemmas.Bool.{eqb-true}
use Rattle.std.proofs.lemmas.List.{length-map}
use Rattle.std.proofs.lemmas.List.Elements.{All-head, All-tail, All-weaker}
use Rattle.cluster_slots.specs.KeySlot.{key_slot}
use Rattle.resp_core.proofs.Cases.{by_test}
use Rattle.resp_core.specs.Reply.{Reply}
use Rattle.resp_core.specs.declared.error.ErrorKind.{ErrorKind}
use Rattle.redis_routing.specs.Command.{Arguments}
use Rattle.redis_routing.specs.Registry.{Registrations}
use Rattle.redis_routing.specs.Split.{IsSplit}
use Rattle.redis_cluster.specs.Amid.{HeldBySlot, IsAssembled, IsReplyAmid, replies_by, after_parts, IsServedAmid, ActsBySlot, PartsActBySlot}
use Rattle.redis_cluster.specs.Joined.{HaveReplied, IsJoined, IsOutcome}
use Rattle.redis_cluster.specs.MultiKey.{KeyTuple, MultiKey, multi_key, part_by_slot, part_of, slots_in, tuples_of_slot}
use Rattle.redis_cluster.specs.Orders.{NamesOnce, in_order, times}
use Rattle.redis_cluster.specs.Plan.{IsMadeOfParts, Plan}
use Rattle.redis_cluster.specs.Ready.{IsPlanOf}
use Rattle.redis_cluster.specs.SlotItems.{items_of_slot}
use Rattle.redis_cluster.specs.Unsplit.{Act, Step, Keyspace, act_of, after, keyspace_after, put, results, results_of, reply_by, reply_to}
use Rattle.redis_cluster.proofs.CommandParts.{part_by_command}
use Rattle.redis_cluster.proofs.Counts.{same_number, times_here, times_there}
use Rattle.redis_cluster.proofs.Fold.{after_is, cell_after, keeps, skips}
use Rattle.redis_cluster.proofs.Joined.{outcome_is, replies_of_parts}
use Rattle.redis_cluster.proofs.Made.{made_of_command}
use Rattle.redis_cluster.proofs.Parts.{length-results, results-part}
use Rattle.redis_cluster.proofs.SplitParts.{part_means, slots_have_keys}
use Rattle.redis_cluster.proofs.SplitTuples.{ShareOut, command_shares, slots_of_split}

module _ {C : Type 0} (act : Act C) where
  -- the results depend on what stands at the tuples' keys alone
  results_own : (Own : List ℕ → Type 0) (ts : List KeyTuple) (a b : Keyspace C) → All (λ t. Own t.key) ts → ((key : List ℕ) → Own key → a key ≡ b key) → results act ts a ≡ results act ts b
  results_own Own [] a b among same = refl
  results_own Own (t ∷ ts) a b among same = grind (arith, common_steps, All-head, All-tail, results_own Own ts (put t.key (act t (b t.key)).cell a) (put t.key (act t (b t.key)).cell b) (All-tail (λ (u : KeyTuple). Own u.key) t ts among))

  -- the keyspace that has, at each key, what the node of the key's slot held
  abbrev assembled : HeldBySlot C → Keyspace C
  assembled held = λ key. held (key_slot key) key

  -- A part adds to the reply what its tuples add to that of the whole command.
  part_adds : (slot : ℕ) (ts : List KeyTuple) (held : HeldBySlot C) (one : Keyspace C) → All (λ (t : KeyTuple). one t.key ≡ held (key_slot t.key) t.key) ts
      → results act (tuples_of_slot slot ts) (held slot) ≡ items_of_slot slot ts (results act ts one)
  part_adds slot ts held one is =
      results-part act slot ts (assembled held) (held slot) (λ key own. ap (λ s. held s key) (sym (eqb-true (key_slot key) slot own)))
      ∙ ap (items_of_slot slot ts) (sym (results_own (λ key. one key ≡ held (key_slot key) key) ts one (assembled held) is (λ key own. own)))

  -- It leaves at a key of its slot what the whole command leaves there.
  pub part_leaves : (slot : ℕ) (ts : List KeyTuple) (before one : Keyspace C) (key : List ℕ) → key_slot key ≡ slot → one key ≡ before key → after act (tuples_of_slot slot ts) before key ≡ after act ts one key
  part_leaves slot ts before one key own same =
      after_is act (tuples_of_slot slot ts) before key
      ∙ keeps act (λ n. nat_eq n slot) key (ap (λ n. nat_eq n slot) own ∙ same_number slot) ts (before key)
      ∙ ap (cell_after act key ts) (sym same)
      ∙ sym (after_is act ts one key)

  -- And it leaves the keys of other slots as they were.
  part_skips : (slot : ℕ) (ts : List KeyTuple) (before : Keyspace C) (key : List ℕ) → (key_slot key ≡ slot → ⊥) → after act (tuples_of_slot slot ts) before key ≡ before key
  part_skips slot ts before key other =
      after_is act (tuples_of_slot slot ts) before key
      ∙ by_test (nat_eq (key_slot key) slot)
      (λ own. absurd (other (eqb-true (key_slot key) slot own)))
      (λ apart. skips act (λ n. nat_eq n slot) key apart ts (before key))

module _ {C : Type 0} (step : Step C) (command : MultiKey) where
  -- Parts that are served at moments of their own reply what their tuples add to the reply of the unsplit command.
  said_amid : (held : HeldBySlot C) (one : Keyspace C) → IsAssembled command held one → replies_by step command held ≡ replies_of_parts command.form command.tuples (results_of step command one) (slots_in command)
  said_amid held one assembled =
      let own : (λ slot. reply_to step (part_of command slot) (held slot)) ≡ (λ slot. reply_by command.form (items_of_slot slot command.tuples (results_of step command one))) =
      fun_ext (λ slot. ap (reply_by command.form) (part_adds (act_of step command) slot command.tuples held one assembled)) in
      ap (λ (f : ℕ → Reply). map f (slots_in command)) own

  -- So what is made of their replies is the reply of the unsplit command.
  pub outcome_amid : ShareOut (slots_in command) command.tuples → (held : HeldBySlot C) (one : Keyspace C) → IsAssembled command held one → (replies : List Reply) (outcome : Result Reply ErrorKind) → replies ≡ replies_by step command held
      → IsOutcome command.tuples (slots_in command) replies command.form outcome → outcome ≡ Ok (reply_to step command one)
  outcome_amid share held one assembled replies outcome said made = grind (arith, outcome_is, length-results, said_amid)

  -- The parts of other slots leave a key as it was.
  parts_skip : (slots : List ℕ) (first : Keyspace C) (key : List ℕ) → times (key_slot key) slots ≡ 0 → after_parts step command slots first key ≡ first key
  parts_skip [] first key none = refl
  parts_skip (slot ∷ slots) first key none =
      by_test (nat_eq (key_slot key) slot)
      (λ here. absurd (omega (arith, none, times_here (key_slot key) slot slots here)))
      (λ there.
      parts_skip slots (keyspace_after step (part_of command slot) first) key (omega (arith, none, times_there (key_slot key) slot slots there))
      ∙ part_skips (act_of step command) slot command.tuples first key (λ same. cc (same, there, same_number slot)))

-- Each part acts on its slot as the whole command does.
pub acts_by_slot : (C : Type 0) (command : MultiKey) → ActsBySlot C command
acts_by_slot C command = record {
  left = λ step slot held one key own same. part_leaves (act_of step command) slot command.tuples held one key own same;
  apart = λ step slot held key other. part_skips (act_of step command) slot command.tuples held key other;
  undisturbed = λ step first before apart k d within.
      let key : List ℕ = (get_or command.tuples k d).key in
      sym (parts_skip step command (before (key_slot key)) first key (apart (key_slot key)));
}

-- What the parts of a command are.
pub parts_act_by_slot : (C : Type 0) (registered : Registrations) (args : Arguments) → PartsActBySlot C registered args
parts_act_by_slot C registered args =
    record {
      meant = λ command is. All-weaker (λ slot. list_any (λ (t : KeyTuple). nat_eq (key_slot t.key) slot) command.tuples ≡ true) (λ slot. multi_key registered (part_by_slot registered args slot) ≡ Some (part_of command slot))
          (λ slot has. ap (multi_key registered) (sym (part_by_command registered args command slot is)) ∙ part_means registered args command slot is has)
          (slots_in command) (slots_have_keys command);
      acts = λ command is. acts_by_slot C command;
    }

-- What is made of the replies to the parts of a plan is the reply amid what others write.
pub reply_amid : (C : Type 0) (registered : Registrations) (plan : Plan) (command : MultiKey) (value : Reply) (replies : List Reply) → IsPlanOf registered command plan → IsSplit plan.split → IsMadeOfParts plan.split replies (Ok value) → IsReplyAmid C command replies value
reply_amid C registered plan command value replies is split made = grind (arith, common_steps, outcome_amid, command_shares plan.split split command is.tuples, made_of_command plan.split command split is.form is.tuples replies (Ok value) made)

-- Replies that came in an order of a plan's routes are replies to the command's parts.
pub have_replied : (registered : Registrations) (plan : Plan) (command : MultiKey) (order : List ℕ) (old new : List Reply → Type 0) (replies : List Reply)
    → IsPlanOf registered command plan → IsSplit plan.split → NamesOnce (length plan.split.routes) order → length replies ≡ length plan.split.routes
    → ((before : List Reply) → old before → new (before ++ in_order replies order))
    → HaveReplied registered plan.split.arguments order old new command replies
have_replied registered plan command order old new replies is split names each gave =
    let many : length plan.split.routes ≡ length (slots_in command) = sym (length-map plan.split.routes (λ r. r.0.slot)) ∙ ap length (slots_of_split plan.split split command is.tuples) in
    record { command_is = is.command_is; order_is = subst (λ n. NamesOnce n order) many names; each = each ∙ many; gave = gave }

-- What is made of such replies is joined, and served amid what others write.
module _ (registered : Registrations) (plan : Plan) (command : MultiKey) (order : List ℕ) (old new : List Reply → Type 0) (replies : List Reply)
    (is : IsPlanOf registered command plan) (split : IsSplit plan.split) (names : NamesOnce (length plan.split.routes) order) (each : length replies ≡ length plan.split.routes)
    (gave : (before : List Reply) → old before → new (before ++ in_order replies order)) where
  pub joined_by_plan : (outcome : Result Reply ErrorKind) → IsMadeOfParts plan.split replies outcome → IsJoined registered plan.split.arguments order old new outcome
  joined_by_plan outcome made = record {
    command = command;
    replies = replies;
    replied = have_replied registered plan command order old new replies is split names each gave;
    outcome_is = made_of_command plan.split command split is.form is.tuples replies outcome made;
  }

  pub served_amid : (C : Type 0) (value : Reply) → IsMadeOfParts plan.split replies (Ok value) → IsServedAmid C registered plan.split.arguments order old new value
  served_amid C value made = record {
    command = command;
    replies = replies;
    replied = have_replied registered plan command order old new replies is split names each gave;
    reply = reply_amid C registered plan command value replies is split made;
  }
