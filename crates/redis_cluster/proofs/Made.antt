-- The outcome of joining the replies to a split's parts: a value, or an error.
use Rattle.std.proofs.Common.{◌≡◌, ◌⊎◌, List, Result, Ok, Err, Some, MatchResult, length, map, inl, inr, ◌∙◌, ⊎_elim, arith, ap}
use Rattle.std.proofs.lemmas.List.{length-map}
use Rattle.std.proofs.lemmas.Result.{MatchResult-weaker}
use Rattle.resp_core.specs.ErrorParts.{ErrorParts, out_of_memory}
use Rattle.resp_core.specs.Reply.{Reply}
use Rattle.resp_core.specs.View.{view}
use Rattle.resp_core.specs.declared.error.ErrorKind.{ErrorKind}
use Rattle.resp_core.specs.declared.value.Value.{Value}
use Rattle.redis_routing.specs.Split.{Split, IsSplit, slots_of}
use Rattle.redis_routing.specs.declared.policy.ResponsePolicy.TheVariants.{CombineArrays}
use Rattle.redis_cluster.specs.MultiKey.{MultiKey, ReplyForm, list, form_by_policy, slots_in}
use Rattle.redis_cluster.specs.Joined.{IsOutcome}
use Rattle.redis_cluster.specs.Plan.{ArePartsAnswered, IsMadeOfParts, tuples_in_split}
use Rattle.redis_cluster.specs.Unsplit.{TupleResult, reply_by}
use Rattle.redis_cluster.proofs.Joined.{IsOutcomeOf, arrays_make_lists, outcome_is_unsplit}
use Rattle.redis_cluster.proofs.SplitParts.{form_of_joining}
use Rattle.redis_cluster.proofs.SplitTuples.{slots_of_split}
use Rattle.redis_cluster.specs.SlotItems.{items_of_slot}

-- a value is made of the replies, or memory ran out for a list, or they are refused
abbrev pub IsMadeOr : Split → List Reply → Result Value ErrorParts → Type 0
IsMadeOr split replies result = MatchResult result
    (λ value. IsMadeOfParts split replies (Ok (view value)))
    (λ error. ((error ≡ out_of_memory) × (split.policy ≡ CombineArrays)) ⊎ IsMadeOfParts split replies (Err error.kind))

-- what is said for each form is said of the split's own
pub made_of_parts : (split : Split) → IsSplit split → (replies : List Value) → length replies ≡ length split.routes → (result : Result Value ErrorParts)
    → ((form : ReplyForm) → form_by_policy split.policy ≡ Some form → MatchResult result
    (λ value. IsOutcomeOf split (map view replies) form (Ok (view value)))
    (λ error. ((error ≡ out_of_memory) × (split.policy ≡ CombineArrays)) ⊎ IsOutcomeOf split (map view replies) form (Err error.kind)))
    → IsMadeOr split (map view replies) result
made_of_parts split held replies many result each =
    let own = form_of_joining split.policy held.policy in
    MatchResult-weaker result (each own.0 own.1)
    (λ value is. record { each = length-map replies view ∙ many; form = own.0; form_is = own.1; outcome_is = is })
    (λ error. ⊎_elim (λ memory. inl memory) (λ refused. inr (record { each = length-map replies view ∙ many; form = own.0; form_is = own.1; outcome_is = refused })))

-- there are as many replies as parts
pub as_many : (split : Split) (form : ReplyForm) (results : List TupleResult) (replies : List Reply) → ArePartsAnswered split form results replies → length replies ≡ length split.routes
as_many split form results replies are = ap length are.replies_are ∙ length-map (slots_of split.routes) (λ slot. reply_by form (items_of_slot slot (tuples_in_split split) results)) ∙ length-map split.routes (λ r. r.0.slot)

-- replies to the parts of one command are not refused
pub unsplit_of_parts : (split : Split) → IsSplit split → (form : ReplyForm) (results : List TupleResult) (replies : List Value) → ArePartsAnswered split form results (map view replies)
    → (result : Result Value ErrorParts) → IsMadeOr split (map view replies) result
    → MatchResult result (λ value. view value ≡ reply_by form results) (λ error. (error ≡ out_of_memory) × (form ≡ list))
unsplit_of_parts split held form results replies are result made =
    MatchResult-weaker result made
    (λ value is. let e : Ok (view value) ≡ Ok (reply_by form results) = outcome_is_unsplit split form results (map view replies) (Ok (view value)) held are is in cc)
    (λ error. ⊎_elim
    (λ memory. (memory.0, arrays_make_lists split form are.form_is memory.1))
    (λ refused. absurd (let e : Err error.kind ≡ Ok (reply_by form results) = outcome_is_unsplit split form results (map view replies) (Err error.kind) held are refused in cc)))

-- What is made of the replies to a split's parts is made by its command.
pub made_of_command : (split : Split) (command : MultiKey) → IsSplit split → form_by_policy split.policy ≡ Some command.form → command.tuples ≡ tuples_in_split split
    → (replies : List Reply) (outcome : Result Reply ErrorKind) → IsMadeOfParts split replies outcome → IsOutcome command.tuples (slots_in command) replies command.form outcome
made_of_command split command held form tuples replies outcome made = grind (arith, slots_of_split)
