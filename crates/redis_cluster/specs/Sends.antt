-- What sends leave: one that was not answered, and those of some slots' parts.
use Rattle.std.specs.Prelude.{◌≡◌, ◌⊎◌, ℕ, List, [], ◌∷◌, ◌++◌, Bool, true, false, Option, None, Some, length}
use Rattle.cluster_slots.specs.Address.{Address}
use Rattle.redis_cluster.specs.MultiKey.{KeyTuple, MultiKey}
use Rattle.redis_cluster.specs.Orders.{tuples_of_slots}
use Rattle.redis_cluster.specs.Unsplit.{Act, Step, Keyspace, after, keyspace_after}
use Rattle.redis_cluster.specs.Trace.{Entry, Ending, answered, refused, redirected, lost, entry}
use Rattle.redis_cluster.specs.declared.nodes.SendError.{SendError}
use Rattle.redis_cluster.specs.declared.nodes.SendError.TheVariants as sent

-- how the entry of a send ends that was not answered; one that ran out of memory has none
abbrev pub ending_of : SendError → Option Ending
ending_of (sent.Refused error) = Some (refused error)
ending_of (sent.Redirected redirect) = Some (redirected redirect)
ending_of (sent.Lost error) = Some (lost error)
ending_of sent.Memory = None

-- A send that was refused or redirected, or whose reply was lost, was allowed to end so, and the
-- trace has its entry; one that ran out of memory sets the mark and changes nothing else.
abbrev pub IsUnanswered : (may_refuse : ℕ → Ending → Type 0) (old new : List Entry) (mark : Bool)
    → Address → List (List ℕ) → Option Ending → Type 0
IsUnanswered may_refuse old new mark node args (Some ending) =
    may_refuse (length old) ending × (new ≡ old ++ entry node args ending ∷ []) × (mark ≡ false)
IsUnanswered may_refuse old new mark node args None = (new ≡ old) × (mark ≡ true)

-- A send that was refused or redirected, or ran out of memory, did nothing. One whose reply was lost
-- did nothing, or all that the command does.
abbrev pub IsLeft : {C : Type 0} → Step C → MultiKey → (old new : Keyspace C) → Option Ending
    → Type 0
IsLeft step command old new None = new ≡ old
IsLeft step command old new (Some answered) = new ≡ old
IsLeft step command old new (Some (refused error)) = new ≡ old
IsLeft step command old new (Some (redirected redirect)) = new ≡ old
IsLeft step command old new (Some (lost error)) =
    (new ≡ old) ⊎ (new ≡ keyspace_after step command old)

-- a refused or redirected send did nothing; of one that ended otherwise this says nothing
abbrev pub IsIdleIfRefused : {C : Type 0} → (old new : Keyspace C) → SendError → Type 0
IsIdleIfRefused old new (sent.Refused error) = new ≡ old
IsIdleIfRefused old new (sent.Redirected redirect) = new ≡ old
IsIdleIfRefused old new error = Unit {0}

-- The keyspace is that of the tuples of some slots. Where the last reply was lost, it may be that of
-- one slot more.
abbrev pub SlotsTookEffect : {C : Type 0} (act : Act C) (tuples : List KeyTuple)
    (slots more : List ℕ) (old new : Keyspace C) → Option Ending → Type 0
SlotsTookEffect act tuples slots more old new None = new ≡ after act (tuples_of_slots slots tuples) old
SlotsTookEffect act tuples slots more old new (Some answered) =
    new ≡ after act (tuples_of_slots slots tuples) old
SlotsTookEffect act tuples slots more old new (Some (refused error)) =
    new ≡ after act (tuples_of_slots slots tuples) old
SlotsTookEffect act tuples slots more old new (Some (redirected redirect)) =
    new ≡ after act (tuples_of_slots slots tuples) old
SlotsTookEffect act tuples slots more old new (Some (lost error)) =
    (new ≡ after act (tuples_of_slots slots tuples) old)
    ⊎ (new ≡ after act (tuples_of_slots more tuples) old)
