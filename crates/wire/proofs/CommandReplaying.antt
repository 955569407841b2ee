-- One command more.
use Rattle.std.proofs.Common.{◌≡◌, ◌⊎◌, inl, inr, ℕ, List, [], ◌∷◌, ◌++◌, Bool, cond, Option, None, Some, length, map, refl, sym, ap, ◌∙◌, subst}
use Rattle.std.specs.Prelude.{Result, Ok, Err, IfSome, IfOk, IfErr, OnOk}
use Rattle.resp_core.proofs.Cases.{by_test}
use Rattle.resp_core.specs.ErrorParts.{ErrorParts}
use Rattle.resp_core.specs.Reply.{Reply}
use Rattle.resp_core.specs.View.{view}
use Rattle.resp_core.specs.declared.value.Value.{Value}
use Rattle.cluster_slots.specs.Address.{Address}
use Rattle.redis_routing.specs.Registry.{Registrations}
use Rattle.redis_cluster.specs.MultiKey.{MultiKey, multi_key}
use Rattle.redis_cluster.specs.Unsplit.{Step, Keyspace, keyspace_after, reply_to}
use Rattle.redis_cluster.specs.Sends.{IsIdleIfRefused, IsLeft, ending_of}
use Rattle.redis_cluster.specs.declared.nodes.SendError.{SendError}
use Rattle.redis_cluster.specs.declared.nodes.SendError.TheVariants.{Refused, Redirected, Lost, Memory}
use Rattle.wire.specs.Said.{SendOutcome, said, answer, refusal, redirection, loss, IsUnsaid}
use Rattle.wire.specs.Commands.{SaidCommand, after_effect, after_outcome, after_command, replay_commands, AreCommandsKept, IsAnswerKept, IsCommandKept, IsKept}
use Rattle.wire.proofs.Replaying as sends

module _ {C : Type 0} (registered : Registrations) (step : Step C) (took : ℕ → Bool) (initial : Keyspace C) (old new : List SaidCommand) (node : Address) (args : List (List ℕ)) where
  abbrev before : Keyspace C
  before = replay_commands registered step took old initial

  abbrev now : Keyspace C
  now = replay_commands registered step took new initial

  abbrev KeptBefore : Type 0
  KeptBefore = AreCommandsKept registered step took old initial

  abbrev KeptNow : Type 0
  KeptNow = AreCommandsKept registered step took new initial

  module _ (outcome : SendOutcome Reply) (grew : new ≡ old ++ said node args outcome ∷ []) where
    now_keys : now ≡ after_command registered step (took (length old)) (said node args outcome) before
    now_keys = sends.now_keys (after_command registered step) (IsCommandKept registered step) took initial old new (said node args outcome) grew

    said_kept : KeptNow → KeptBefore
    said_kept = sends.said_kept (after_command registered step) (IsCommandKept registered step) took initial old new (said node args outcome) grew

    said_last : KeptNow → IsKept step (took (length old)) outcome (multi_key registered (map Some args)) before
    said_last = sends.said_last (after_command registered step) (IsCommandKept registered step) took initial old new (said node args outcome) grew

    said_keeps : KeptBefore → IsKept step (took (length old)) outcome (multi_key registered (map Some args)) before → KeptNow
    said_keeps = sends.said_keeps (after_command registered step) (IsCommandKept registered step) took initial old new (said node args outcome) grew

  -- what a value that came back says of the keyspaces, whatever it is
  module _ (reply : Reply) (grew : new ≡ old ++ said node args (answer reply) ∷ []) where
    answer_reply : (found : Option MultiKey) → multi_key registered (map Some args) ≡ found → IfSome found (λ command. KeptNow → reply ≡ reply_to step command before)
    answer_reply None is = tt
    answer_reply (Some command) is = λ kept. subst (λ (m : Option MultiKey). IsAnswerKept step m reply before) is (said_last (answer reply) grew kept)

    answer_keys : (found : Option MultiKey) → multi_key registered (map Some args) ≡ found → IfSome found (λ command. KeptNow → now ≡ keyspace_after step command before)
    answer_keys None is = tt
    answer_keys (Some command) is = λ kept. now_keys (answer reply) grew ∙ ap (λ (m : Option MultiKey). after_effect step m before) is

    pub answered_reply : IfSome (multi_key registered (map Some args)) (λ command. KeptNow → reply ≡ reply_to step command before)
    answered_reply = answer_reply (multi_key registered (map Some args)) refl

    answered_keys : IfSome (multi_key registered (map Some args)) (λ command. KeptNow → now ≡ keyspace_after step command before)
    answered_keys = answer_keys (multi_key registered (map Some args)) refl

    answer_keeps : (found : Option MultiKey) → multi_key registered (map Some args) ≡ found → IfSome found (λ command. KeptBefore → reply ≡ reply_to step command before → KeptNow)
    answer_keeps None is = tt
    answer_keeps (Some command) is = λ kept same.
        said_keeps (answer reply) grew kept (subst (λ (m : Option MultiKey). IsAnswerKept step m reply before) (sym is) same)

    pub answered_keeps : IfSome (multi_key registered (map Some args)) (λ command. KeptBefore → reply ≡ reply_to step command before → KeptNow)
    answered_keeps = answer_keeps (multi_key registered (map Some args)) refl

  -- a refusal leaves the keyspace where it took no effect, and so does a redirect
  module _ (outcome : SendOutcome Reply) (grew : new ≡ old ++ said node args outcome ∷ []) (idle_is : (took : Bool) (found : Option MultiKey) (keyspace : Keyspace C) → IsKept step took outcome found keyspace ≡ (after_outcome step took outcome found keyspace ≡ keyspace)) where
    idle_keys : (found : Option MultiKey) → IfSome found (λ command. KeptNow → now ≡ before)
    idle_keys None = tt
    idle_keys (Some command) = λ kept.
        now_keys outcome grew ∙ subst (λ (T : Type 0). T) (idle_is (took (length old)) (multi_key registered (map Some args)) before) (said_last outcome grew kept)

    refused_keys : IfSome (multi_key registered (map Some args)) (λ command. KeptNow → now ≡ before)
    refused_keys = idle_keys (multi_key registered (map Some args))

    refused_keeps : KeptBefore → now ≡ before → KeptNow
    refused_keeps kept idle = said_keeps outcome grew kept
        (subst (λ (T : Type 0). T) (sym (idle_is (took (length old)) (multi_key registered (map Some args)) before)) (sym (now_keys outcome grew) ∙ idle))

  -- after a lost reply the keyspace is one of two
  module _ (error : ErrorParts) (grew : new ≡ old ++ said node args (loss error) ∷ []) where
    loss_keys : (found : Option MultiKey) → multi_key registered (map Some args) ≡ found
        → IfSome found (λ command. KeptNow → (now ≡ before) ⊎ (now ≡ keyspace_after step command before))
    loss_keys None is = tt
    loss_keys (Some command) is = λ kept.
        let keys = now_keys (loss error) grew in
        by_test (took (length old))
        (λ effect. inr (keys ∙ ap (λ b. cond b (after_effect step (multi_key registered (map Some args)) before) before) effect ∙ ap (λ (m : Option MultiKey). after_effect step m before) is))
        (λ none. inl (keys ∙ ap (λ b. cond b (after_effect step (multi_key registered (map Some args)) before) before) none))

    lost_keeps : KeptBefore → KeptNow
    lost_keeps kept = said_keeps (loss error) grew kept tt

    lost_keys : IfSome (multi_key registered (map Some args)) (λ command. KeptNow → (now ≡ before) ⊎ (now ≡ keyspace_after step command before))
    lost_keys = loss_keys (multi_key registered (map Some args)) refl

  -- what a send without a reply says of the keyspaces, by how it ended
  unsaid_kept : (error : SendError) → IsUnsaid old new node args error → KeptNow → KeptBefore
  unsaid_kept (Refused error) grew = said_kept (refusal error) grew
  unsaid_kept (Redirected redirect) grew = said_kept (redirection redirect) grew
  unsaid_kept (Lost error) grew = said_kept (loss error) grew
  unsaid_kept Memory same = subst (λ (l : List SaidCommand). AreCommandsKept registered step took l initial) same

  pub unsaid_keeps : (error : SendError) → IsUnsaid old new node args error → KeptBefore → IsIdleIfRefused before now error → KeptNow
  unsaid_keeps (Refused error) grew = refused_keeps (refusal error) grew (λ took found keyspace. refl)
  unsaid_keeps (Redirected redirect) grew = refused_keeps (redirection redirect) grew (λ took found keyspace. refl)
  unsaid_keeps (Lost error) grew = λ kept idle. lost_keeps error grew kept
  unsaid_keeps Memory same = λ kept idle. subst (λ (l : List SaidCommand). AreCommandsKept registered step took l initial) (sym same) kept

  unsent_keys : new ≡ old → (found : Option MultiKey) → IfSome found (λ command. KeptNow → now ≡ before)
  unsent_keys same None = tt
  unsent_keys same (Some command) = λ kept. ap (λ (l : List SaidCommand). replay_commands registered step took l initial) same

  pub unsaid_keys : (error : SendError) → IsUnsaid old new node args error
      → IfSome (multi_key registered (map Some args)) (λ command. KeptNow → IsLeft step command before now (ending_of error))
  unsaid_keys (Refused error) grew = refused_keys (refusal error) grew (λ took found keyspace. refl)
  unsaid_keys (Redirected redirect) grew = refused_keys (redirection redirect) grew (λ took found keyspace. refl)
  unsaid_keys (Lost error) grew = lost_keys error grew
  unsaid_keys Memory same = unsent_keys same (multi_key registered (map Some args))

  -- and a send, whatever came back
  pub sent_keys : (r : Result Value SendError) → IfOk r (λ value. new ≡ old ++ said node args (answer (view value)) ∷ [])
      → OnOk r (IfSome (multi_key registered (map Some args)) (λ command. KeptNow → now ≡ keyspace_after step command before))
  sent_keys (Ok value) grew = answered_keys (view value) grew
  sent_keys (Err error) none = tt

  pub sent_kept : (r : Result Value SendError) → IfOk r (λ value. new ≡ old ++ said node args (answer (view value)) ∷ [])
      → IfErr r (λ error. IsUnsaid old new node args error) → KeptNow → KeptBefore
  sent_kept (Ok value) grew none = said_kept (answer (view value)) grew
  sent_kept (Err error) none unsaid = unsaid_kept error unsaid
