-- What others write at other keys does no harm.
use Rattle.std.proofs.Common.{◌≡◌, ℕ, suc, List, [], ◌∷◌, Bool, true, false, cond, Option, None, Some, All, map, true≢false, refl, sym, ap, ◌∙◌}
use Rattle.std.specs.Prelude.{IfSome}
use Rattle.std.specs.Str.{bytes_eq}
use Rattle.std.proofs.lemmas.List.Elements.{All-head, All-tail}
use Rattle.std.proofs.Math.Path.{fun_ext}
use Rattle.std.proofs.lemmas.Slice.Eq.{bytes_eq-Decides}
use Rattle.resp_core.proofs.Cases.{by_test}
use Rattle.resp_core.specs.Reply.{Reply}
use Rattle.redis_routing.specs.Registry.{Registrations}
use Rattle.redis_cluster.specs.MultiKey.{KeyTuple, MultiKey, multi_key}
use Rattle.redis_cluster.specs.Unsplit.{Act, Step, Keyspace, act_of, after, put, reply_by, results}
use Rattle.wire.specs.Said.{SendOutcome, answer, refusal, redirection, loss}
use Rattle.wire.specs.Commands.{SaidCommand, after_effect, after_outcome, after_command, AreCommandsKept, IsKept}
use Rattle.wire.specs.Beside.{IsAmong, AreSameAt, AreKeptBeside}

-- the key of a tuple is among some
abbrev IsOwn : (List ℕ → Bool) → KeyTuple → Type 0
IsOwn own t = own t.key ≡ true

module _ {C : Type 0} (own : List ℕ → Bool) where
  put_same : (key : List ℕ) (one other : Option C) (a b : Keyspace C) → one ≡ other → AreSameAt own a b → AreSameAt own (put key one a) (put key other b)
  put_same key one other a b same all k is =
      by_test (bytes_eq key k)
      (λ t. ap (λ x. cond x one (a k)) t ∙ same ∙ sym (ap (λ x. cond x other (b k)) t))
      (λ f. ap (λ x. cond x one (a k)) f ∙ all k is ∙ sym (ap (λ x. cond x other (b k)) f))

  -- a tuple of an own key leaves any other as it was
  put_other : (key other : List ℕ) (cell : Option C) (a : Keyspace C) → own key ≡ true → own other ≡ false → put key cell a other ≡ a other
  put_other key other cell a is not =
      by_test (bytes_eq key other)
      (λ t. absurd (true≢false (sym is ∙ ap own ((bytes_eq-Decides key other).0 t) ∙ not)))
      (λ f. ap (λ x. cond x cell (a other)) f)

  module _ (act : Act C) where
    after_other : (ts : List KeyTuple) (a : Keyspace C) (other : List ℕ) → All (IsOwn own) ts → own other ≡ false → after act ts a other ≡ a other
    after_other [] a other among not = refl
    after_other (t ∷ ts) a other among not =
        after_other ts (put t.key (act t (a t.key)).cell a) other (All-tail (IsOwn own) t ts among) not
        ∙ put_other t.key other (act t (a t.key)).cell a (All-head (IsOwn own) t ts among) not

    after_same : (ts : List KeyTuple) (a b : Keyspace C) → All (IsOwn own) ts → AreSameAt own a b → AreSameAt own (after act ts a) (after act ts b)
    after_same [] a b among same = same
    after_same (t ∷ ts) a b among same =
        let here = same t.key (All-head (IsOwn own) t ts among) in
        after_same ts (put t.key (act t (a t.key)).cell a) (put t.key (act t (b t.key)).cell b) (All-tail (IsOwn own) t ts among)
        (put_same t.key (act t (a t.key)).cell (act t (b t.key)).cell a b (ap (λ c. (act t c).cell) here) same)

    results_same : (ts : List KeyTuple) (a b : Keyspace C) → All (IsOwn own) ts → AreSameAt own a b → results act ts a ≡ results act ts b
    results_same [] a b among same = refl
    results_same (t ∷ ts) a b among same =
        let here = same t.key (All-head (IsOwn own) t ts among) in
        ap (λ c. (act t c).result ∷ results act ts (put t.key (act t (a t.key)).cell a)) here
        ∙ ap (λ rs. (act t (b t.key)).result ∷ rs)
        (results_same ts (put t.key (act t (a t.key)).cell a) (put t.key (act t (b t.key)).cell b) (All-tail (IsOwn own) t ts among)
        (put_same t.key (act t (a t.key)).cell (act t (b t.key)).cell a b (ap (λ c. (act t c).cell) here) same))

  module _ (step : Step C) where
    effect_same : (found : Option MultiKey) (a b : Keyspace C) → IfSome found (λ command. All (IsOwn own) command.tuples) → AreSameAt own a b → AreSameAt own (after_effect step found a) (after_effect step found b)
    effect_same None a b among same = same
    effect_same (Some command) a b among same = after_same (act_of step command) command.tuples a b among same

    effect_other : (found : Option MultiKey) (a : Keyspace C) (other : List ℕ) → IfSome found (λ command. All (IsOwn own) command.tuples) → own other ≡ false → after_effect step found a other ≡ a other
    effect_other None a other among not = refl
    effect_other (Some command) a other among not = after_other (act_of step command) command.tuples a other among not

    -- what changes nothing in one keyspace changes nothing in the other
    idle_same : (took : Bool) (found : Option MultiKey) (a b : Keyspace C) → IfSome found (λ command. All (IsOwn own) command.tuples) → AreSameAt own a b
        → cond took (after_effect step found a) a ≡ a → cond took (after_effect step found b) b ≡ b
    idle_same false found a b among same idle = refl
    idle_same true found a b among same idle =
        fun_ext (λ key. by_test (own key)
        (λ is. sym (effect_same found a b among same key is) ∙ ap (λ (ks : Keyspace C). ks key) idle ∙ same key is)
        (λ not. effect_other found b key among not))

    outcome_same : (took : Bool) (outcome : SendOutcome Reply) (found : Option MultiKey) (a b : Keyspace C) → IfSome found (λ command. All (IsOwn own) command.tuples) → AreSameAt own a b
        → AreSameAt own (after_outcome step took outcome found a) (after_outcome step took outcome found b)
    outcome_same took (answer reply) found a b among same = effect_same found a b among same
    outcome_same true (refusal error) found a b among same = effect_same found a b among same
    outcome_same false (refusal error) found a b among same = same
    outcome_same true (redirection redirect) found a b among same = effect_same found a b among same
    outcome_same false (redirection redirect) found a b among same = same
    outcome_same true (loss error) found a b among same = effect_same found a b among same
    outcome_same false (loss error) found a b among same = same

    kept_same : (took : Bool) (outcome : SendOutcome Reply) (found : Option MultiKey) (a b : Keyspace C) → IfSome found (λ command. All (IsOwn own) command.tuples) → AreSameAt own a b → IsKept step took outcome found a → IsKept step took outcome found b
    kept_same took (answer reply) None a b among same kept = tt
    kept_same took (answer reply) (Some command) a b among same kept = kept ∙ ap (reply_by command.form) (results_same (act_of step command) command.tuples a b among same)
    kept_same took (refusal error) found a b among same kept = idle_same took found a b among same kept
    kept_same took (redirection redirect) found a b among same kept = idle_same took found a b among same kept
    kept_same took (loss error) found a b among same kept = tt

    pub kept_beside : (registered : Registrations) (took : ℕ → Bool) (ss : List SaidCommand) (a b : Keyspace C) → All (IsAmong registered own) ss → AreSameAt own a b → AreKeptBeside registered own step took ss a → AreCommandsKept registered step took ss b
    kept_beside registered took [] a b among same kept = tt
    kept_beside registered took (s ∷ ss) a b among same kept =
        let one = All-head (IsAmong registered own) s ss among in
        let now : AreSameAt own kept.0 b = λ key is. sym (kept.1 key is) ∙ same key is in (
          kept_same (took 0) s.outcome (multi_key registered (map Some s.sent)) kept.0 b one now kept.2,
          kept_beside registered (λ n. took (suc n)) ss (after_command registered step (took 0) s kept.0) (after_command registered step (took 0) s b) (All-tail (IsAmong registered own) s ss among)
              (outcome_same (took 0) s.outcome (multi_key registered (map Some s.sent)) kept.0 b one now) kept.3,
        )
