-- One send more.
use Rattle.std.proofs.Common.{◌≡◌, ℕ, suc, Result, Ok, Err, IfErr, OnErr, List, [], ◌∷◌, ◌++◌, length, map, arith, refl, sym, ap, ◌∙◌, subst, append_assoc}
use Rattle.std.proofs.lemmas.Grind.{common_steps}
use Rattle.std.proofs.lemmas.List.{append-nil}
use Rattle.cluster_slots.specs.Address.{Address}
use Rattle.redis_cluster.specs.declared.nodes.SendError.{SendError}
use Rattle.redis_cluster.specs.declared.nodes.SendError.TheVariants.{Refused, Redirected, Lost, Memory}
use Rattle.wire.specs.Said.{Said, SendOutcome, said, refusal, redirection, loss, reply_in, replies_in, IsUnsaid}
use Rattle.wire.specs.Replay.{replay, AreKept}

pub not_empty : {X : Type 0} (x : X) (xs : List X) → x ∷ xs ≡ [] → ⊥
not_empty x xs none = omega (arith, ap length none)

module _ {F X K : Type 0} (after : F → X → K → K) where
  replay_more : (took : ℕ → F) (xs : List X) (x : X) (keyspace : K) → replay after took (xs ++ x ∷ []) keyspace ≡ after (took (length xs)) x (replay after took xs keyspace)
  replay_more took [] x keyspace = refl
  replay_more took (y ∷ xs) x keyspace = replay_more (λ n. took (suc n)) xs x (after (took 0) y keyspace)

  module _ (IsBy : F → X → K → Type 0) where
    kept_before : (took : ℕ → F) (xs : List X) (x : X) (keyspace : K) → AreKept after IsBy took (xs ++ x ∷ []) keyspace → AreKept after IsBy took xs keyspace
    kept_before took [] x keyspace kept = tt
    kept_before took (y ∷ xs) x keyspace kept = (kept.0, kept_before (λ n. took (suc n)) xs x (after (took 0) y keyspace) kept.1)

    kept_last : (took : ℕ → F) (xs : List X) (x : X) (keyspace : K) → AreKept after IsBy took (xs ++ x ∷ []) keyspace → IsBy (took (length xs)) x (replay after took xs keyspace)
    kept_last took [] x keyspace kept = kept.0
    kept_last took (y ∷ xs) x keyspace kept = kept_last (λ n. took (suc n)) xs x (after (took 0) y keyspace) kept.1

    -- one send more that keeps to the meaning
    kept_more : (took : ℕ → F) (xs : List X) (x : X) (keyspace : K) → AreKept after IsBy took xs keyspace → IsBy (took (length xs)) x (replay after took xs keyspace) → AreKept after IsBy took (xs ++ x ∷ []) keyspace
    kept_more took [] x keyspace kept last = (last, tt)
    kept_more took (y ∷ xs) x keyspace kept last = (kept.0, kept_more (λ n. took (suc n)) xs x (after (took 0) y keyspace) kept.1 last)

    -- where nothing was sent, nothing broke the meaning
    pub kept_at_first : {Y : Type 0} (f : X → Y) (took : ℕ → F) (xs : List X) (keyspace : K) → map f xs ≡ [] → AreKept after IsBy took xs keyspace
    kept_at_first f took [] keyspace none = tt
    kept_at_first f took (x ∷ xs) keyspace none = absurd (not_empty (f x) (map f xs) none)

    -- what the last send says of the keyspaces, whatever came back
    module _ (took : ℕ → F) (initial : K) (old new : List X) (x : X) (grew : new ≡ old ++ x ∷ []) where
      now_kept : AreKept after IsBy took new initial → AreKept after IsBy took (old ++ x ∷ []) initial
      now_kept kept = subst (λ (l : List X). AreKept after IsBy took l initial) grew kept

      pub now_keys : replay after took new initial ≡ after (took (length old)) x (replay after took old initial)
      now_keys = ap (λ (l : List X). replay after took l initial) grew ∙ replay_more took old x initial

      pub said_kept : AreKept after IsBy took new initial → AreKept after IsBy took old initial
      said_kept kept = kept_before took old x initial (now_kept kept)

      pub said_last : AreKept after IsBy took new initial → IsBy (took (length old)) x (replay after took old initial)
      said_last kept = kept_last took old x initial (now_kept kept)

      pub said_keeps : AreKept after IsBy took old initial → IsBy (took (length old)) x (replay after took old initial) → AreKept after IsBy took new initial
      said_keeps kept last = subst (λ (l : List X). AreKept after IsBy took l initial) (sym grew) (kept_more took old x initial kept last)

module _ {S V : Type 0} where
  -- where nothing was sent, no reply came
  pub gave_at_first : {Y : Type 0} (f : Said S V → Y) (ss : List (Said S V)) → map f ss ≡ [] → [] ≡ replies_in ss
  gave_at_first f [] none = refl
  gave_at_first f (s ∷ ss) none = absurd (not_empty (f s) (map f ss) none)

  pub replies-append : (xs ys : List (Said S V)) → replies_in (xs ++ ys) ≡ replies_in xs ++ replies_in ys
  replies-append [] ys = refl
  replies-append (x ∷ xs) ys = ap (λ rs. reply_in x.outcome ++ rs) (replies-append xs ys) ∙ sym (append_assoc (reply_in x.outcome) (replies_in xs) (replies_in ys))

  module _ (old new : List (Said S V)) (node : Address) (sent : S) (outcome : SendOutcome V) (grew : new ≡ old ++ said node sent outcome ∷ []) where
    -- the replies that came back are those before, and the one that came, if one did
    pub said_gave : (replies : List V) → replies ≡ replies_in old → replies ++ reply_in outcome ≡ replies_in new
    said_gave replies is = grind (arith, common_steps, replies-append, append-nil)

    -- and none more where none came
    said_none : reply_in outcome ≡ [] → (replies : List V) → replies ≡ replies_in old → replies ≡ replies_in new
    said_none none replies is = sym (append-nil replies) ∙ ap (λ rs. replies ++ rs) (sym none) ∙ said_gave replies is

  unsaid_none : (old new : List (Said S V)) (node : Address) (sent : S) (error : SendError) → IsUnsaid old new node sent error
      → (replies : List V) → replies ≡ replies_in old → replies ≡ replies_in new
  unsaid_none old new node sent (Refused error) grew = said_none old new node sent (refusal error) grew refl
  unsaid_none old new node sent (Redirected redirect) grew = said_none old new node sent (redirection redirect) grew refl
  unsaid_none old new node sent (Lost error) grew = said_none old new node sent (loss error) grew refl
  unsaid_none old new node sent Memory same = λ replies is. is ∙ ap replies_in (sym same)

  -- so it is with a send, whatever came back
  pub sent_none : {T : Type 0} (old new : List (Said S V)) (node : Address) (sent : S) (r : Result T SendError) → IfErr r (λ error. IsUnsaid old new node sent error)
      → OnErr r ((replies : List V) → replies ≡ replies_in old → replies ≡ replies_in new)
  sent_none old new node sent (Ok value) none = tt
  sent_none old new node sent (Err error) unsaid = unsaid_none old new node sent error unsaid
