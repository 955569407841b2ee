-- Each entry that a trace grows by was answered, or its send was allowed to end so.
use Rattle.std.proofs.Common.{◌≡◌, ◌⊎◌, inl, inr, ⊎_elim, ◌↔◌, ℕ, zero, suc, ◌+◌, List, [], ◌∷◌, ◌++◌, Option, Some, None, Result, Ok, Err, IfErr, refl, sym, ap, ◌∙◌, arith, subst, length, append_assoc}
use Rattle.std.proofs.lemmas.Grind.{common_steps}
use Rattle.std.specs.Prelude.{slice_get, OnOk, Bool}
use Rattle.std.proofs.lemmas.List.{append-nil, length-append}
use Rattle.cluster_slots.specs.Address.{Address}
use Rattle.redis_cluster.specs.Trace.{Entry, Ending, answered, entry}
use Rattle.redis_cluster.specs.Sends.{IsUnanswered, ending_of}
use Rattle.redis_cluster.specs.declared.nodes.SendError.{SendError}
use Rattle.redis_cluster.specs.Retry.{AreAllowed}
use Rattle.redis_cluster.proofs.Constructors.{none_apart}

-- an element of two lists, one behind the other, is of the first or of the second
pub at_either : {X : Type 0} (xs ys : List X) (k : ℕ) (x : X) → slice_get (xs ++ ys) k ≡ Some x → (slice_get xs k ≡ Some x) ⊎ ((m : ℕ) × (k ≡ length xs + m) × (slice_get ys m ≡ Some x))
at_either [] ys k x at = inr (k, omega arith, at)
at_either (y ∷ xs) ys zero x at = inl at
at_either (y ∷ xs) ys (suc k) x at = elim (at_either xs ys k x at) [ inl w ↦ inl w | inr w ↦ inr (w.0, omega (arith, w.1), w.2) ]

-- one of the first list stands at its place in both
pub at_front : {X : Type 0} (xs ys : List X) (k : ℕ) (x : X) → slice_get xs k ≡ Some x → slice_get (xs ++ ys) k ≡ Some x
at_front [] ys k x at = absurd (none_apart x at)
at_front (y ∷ xs) ys zero x at = at
at_front (y ∷ xs) ys (suc k) x at = at_front xs ys k x at

module _ (may_refuse : ℕ → Ending → Type 0) where
  -- nothing was sent
  pub allowed_none : (old new : List Entry) → new ≡ old → AreAllowed may_refuse old new
  allowed_none old new same = record { entries = []; grew = same ∙ sym (append-nil old); each = λ number e at. absurd (none_apart e at) }

  allowed_one : (old new : List Entry) (e : Entry) → new ≡ old ++ e ∷ [] → (e.ending ≡ answered) ⊎ may_refuse (length old) e.ending → AreAllowed may_refuse old new
  allowed_one old new e grew so = grind (arith, common_steps)

  allowed_unanswered : (old new : List Entry) (mark : Bool) (node : Address) (args : List (List ℕ)) (ending : Option Ending) → IsUnanswered may_refuse old new mark node args ending → AreAllowed may_refuse old new
  allowed_unanswered old new mark node args None h = allowed_none old new h.0
  allowed_unanswered old new mark node args (Some x) h = allowed_one old new (entry node args x) h.1 (inr h.0)

  -- one send
  pub allowed_sent : {T : Type 0} (r : Result T SendError) (old new : List Entry) (mark : Bool) (node : Address) (args : List (List ℕ)) → OnOk r (new ≡ old ++ entry node args answered ∷ [])
      → IfErr r (λ error. IsUnanswered may_refuse old new mark node args (ending_of error)) → AreAllowed may_refuse old new
  allowed_sent (Ok value) old new mark node args grew so = allowed_one old new (entry node args answered) grew (inl refl)
  allowed_sent (Err error) old new mark node args grew so = allowed_unanswered old new mark node args (ending_of error) so

  -- sends behind others, by nodes that may refuse the same
  pub allowed_more : (now_may : ℕ → Ending → Type 0) (old mid new : List Entry) → ((count : ℕ) (ending : Ending) → now_may count ending ↔ may_refuse count ending) → AreAllowed may_refuse old mid → AreAllowed now_may mid new → AreAllowed may_refuse old new
  allowed_more now_may old mid new same first later = record {
    entries = first.entries ++ later.entries;
    grew = later.grew ∙ ap (λ es. es ++ later.entries) first.grew ∙ append_assoc old first.entries later.entries;
    each = λ number e at. elim (at_either first.entries later.entries number e at) [
      | inl w ↦ first.each number e w
      | inr w ↦ ⊎_elim (λ is. inl is) (λ may. inr (subst (λ n. may_refuse n e.ending) (place number w.0 w.1) ((same (length mid + w.0) e.ending).0 may))) (later.each w.0 e w.2)
    ];
  }
    where
      place : (number m : ℕ) → number ≡ length first.entries + m → length mid + m ≡ length old + number
      place number m is = omega (arith, is, ap length first.grew, length-append old first.entries)
