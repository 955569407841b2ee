-- What the policies of split commands make of the replies to the parts.
use Rattle.std.proofs.Common.{◌≡◌, ℕ, ◌<◌, List, [], ◌∷◌, Option, None, Some, Result, Ok, Err, map, length, refl, sym, ap, ◌∙◌, subst, arith, Vec, Global}
use Rattle.std.specs.Prelude.{ok_or, option_and_then, option_map, slice_get}
use Rattle.std.specs.List.{AllZip}
use Rattle.std.proofs.lemmas.List.{length-map}
use Rattle.std.proofs.lemmas.Simd.{map-map}
use Rattle.std.proofs.lemmas.Grind.{common_steps}
use Rattle.cluster_slots.specs.SlotRoute.{SlotRoute}
use Rattle.resp_core.specs.Reply.{Reply, array, array_of, int, replies_of}
use Rattle.resp_core.specs.Reply as reply
use Rattle.resp_core.specs.declared.error.ErrorKind.{ErrorKind}
use Rattle.resp_core.specs.declared.error.ErrorKind.TheVariants.{UnexpectedReturnType, OutOfMemory}
use Rattle.resp_core.proofs.Views.{items_in-replies_of}
use Rattle.cluster_slots.specs.Lists.{flatten}
use Rattle.cluster_slots.specs.declared.aggregate_op.AggregateOp.{AggregateOp}
use Rattle.cluster_slots.specs.declared.aggregate_op.AggregateOp.TheVariants.{Min, Sum}
use Rattle.cluster_slots.specs.declared.arg_pattern.MultiSlotArgPattern.{MultiSlotArgPattern}
use Rattle.redis_combiners.specs.Aggregate.{aggregate_of, sum_of}
use Rattle.redis_combiners.specs.ByPlaces.{by_places}
use Rattle.redis_combiners.specs.AllItems.{all_items}
use Rattle.redis_combiners.specs.Misfits.{first_misfit}
use Rattle.redis_combiners.specs.SortedArrays.{array_or_refusal, sorted_arrays}
use Rattle.redis_routing.specs.declared.policy.ResponsePolicy.{ResponsePolicy}
use Rattle.redis_routing.specs.declared.policy.ResponsePolicy.TheVariants.{OneSucceeded, FirstSucceededNonEmptyOrAllEmpty, AllSucceeded, AggregateLogical, Aggregate, CombineArrays, Special, CombineMaps}
use Rattle.redis_routing.specs.Split.{Split, IsSplit, slots_of}
use Rattle.redis_routing.specs.RoutingInfo.{route_lists}
use Rattle.redis_cluster.specs.MultiKey.{KeyTuple, ReplyForm, list, count, okay, form_by_policy, tuples_of_slot}
use Rattle.redis_cluster.specs.SlotItems.{items_of_slot}
use Rattle.redis_cluster.specs.Unsplit.{TupleResult, reply_by}
use Rattle.redis_cluster.specs.Joined.{IsOutcome}
use Rattle.redis_cluster.specs.Plan.{ArePartsAnswered, IsMadeOfParts, tuples_in_split}
use Rattle.redis_cluster.proofs.Constructors.{none_apart}
use Rattle.redis_cluster.proofs.SplitTuples.{IsSplitTo, ShareOut, share_out}
use Rattle.redis_cluster.proofs.JoinedCounts.{counts_joined}
use Rattle.redis_cluster.proofs.JoinedLists.{arrays_sorted, no_misfit, sorted_is}
use Rattle.redis_cluster.proofs.Merged.{merged, merged_once}
use Rattle.redis_cluster.proofs.Placed.{map-items_of_slot}
use Rattle.redis_cluster.proofs.Places.{items_of_slot_is, numbers_of_slot}

-- what replies to the parts of a split make
abbrev pub IsOutcomeOf : Split → List Reply → ReplyForm → Result Reply ErrorKind → Type 0
IsOutcomeOf split replies form outcome = IsOutcome (tuples_in_split split) (slots_of split.routes) replies form outcome

module _ (split : Split) (to : IsSplitTo split) (replies : List Reply) (each : length replies ≡ length split.routes) where
  by_misfit : (kind : Option ErrorKind) → first_misfit replies (map (λ slot. length (tuples_of_slot slot (tuples_in_split split))) (slots_of split.routes)) ≡ kind
      → (outcome : Result Reply ErrorKind) → sorted_arrays split.pattern replies (map (λ r. r.1) split.routes) ≡ outcome → IsOutcomeOf split replies list outcome
  by_misfit (Some kind) first outcome is =
      let refused : sorted_arrays split.pattern replies (map (λ r. r.1) split.routes) ≡ Err kind =
      sorted_is (tuples_in_split split) split.pattern split.routes replies to.placed each
      ∙ ap (λ k. array_or_refusal k (option_and_then (by_places (flatten (map (λ slot. numbers_of_slot slot (tuples_in_split split)) (slots_of split.routes)))) (all_items replies))) first in
      subst (IsOutcomeOf split replies list) (sym refused ∙ is) first
  by_misfit None first outcome is =
      let all = merged (tuples_in_split split) (slots_of split.routes) replies to.named to.apart (each ∙ sym (length-map split.routes (λ r. r.0.slot))) first in
      let whole : sorted_arrays split.pattern replies (map (λ r. r.1) split.routes) ≡ Ok (array (replies_of all.0)) =
      arrays_sorted (tuples_in_split split) all.0 all.1.each split.pattern split.routes replies to.named to.placed each all.1.of_slots in
      subst (IsOutcomeOf split replies list) (sym whole ∙ is) (all.0, all.1, refl)

  -- arrays are put in order by the lists of the routes
  arrays_make : (pattern : MultiSlotArgPattern) (routes : List (SlotRoute × Vec ℕ Global)) (outcome : Result Reply ErrorKind) → pattern ≡ split.pattern → route_lists routes ≡ split.routes
      → sorted_arrays pattern replies (map (λ route. route.1.items) routes) ≡ outcome → IsOutcomeOf split replies list outcome
  arrays_make pattern routes outcome same listed is = grind (arith, map-map, by_misfit)

  -- so it is for each form of the reply that arrays make
  pub arrays_are : (form : ReplyForm) (pattern : MultiSlotArgPattern) (routes : List (SlotRoute × Vec ℕ Global)) (outcome : Result Reply ErrorKind) → form_by_policy split.policy ≡ Some form → split.policy ≡ CombineArrays
      → pattern ≡ split.pattern → route_lists routes ≡ split.routes → sorted_arrays pattern replies (map (λ route. route.1.items) routes) ≡ outcome → IsOutcomeOf split replies form outcome
  arrays_are form pattern routes outcome form_is policy same listed is = grind (arith, arrays_make)

-- numbers make one
pub number_is : (split : Split) (form : ReplyForm) (op : AggregateOp) (replies : List Reply) (found : Option Reply) → form_by_policy split.policy ≡ Some form → split.policy ≡ Aggregate op → aggregate_of op replies ≡ found
    → IsOutcomeOf split replies form (ok_or found UnexpectedReturnType)
number_is split form Min replies found form_is policy is = absurd (let e : form_by_policy split.policy ≡ None = ap form_by_policy policy in cc)
number_is split form Sum replies found form_is policy is = grind (arith, common_steps)

-- by any other policy it is the first reply
pub first_is : (split : Split) (form : ReplyForm) (policy : ResponsePolicy) (replies : List Reply) (first : Reply) → form_by_policy split.policy ≡ Some form → split.policy ≡ policy
    → (policy ≡ CombineArrays → ⊥) → ((op : AggregateOp) → policy ≡ Aggregate op → ⊥) → Some first ≡ slice_get replies 0 → IsOutcomeOf split replies form (Ok first)
first_is split form policy replies first form_is is not_arrays not_numbers at =
    subst (λ f. IsOutcomeOf split replies f (Ok first)) (other policy not_arrays not_numbers (ap form_by_policy (sym is) ∙ form_is)) (okay_is replies at)
  where
    other : (p : ResponsePolicy) → (p ≡ CombineArrays → ⊥) → ((op : AggregateOp) → p ≡ Aggregate op → ⊥) → form_by_policy p ≡ Some form → okay ≡ form
    other OneSucceeded a n e = absurd (cc e)
    other FirstSucceededNonEmptyOrAllEmpty a n e = absurd (cc e)
    other AllSucceeded a n e = cc e
    other (AggregateLogical op) a n e = absurd (cc e)
    other (Aggregate op) a n e = absurd (n op refl)
    other CombineArrays a n e = absurd (a refl)
    other Special a n e = absurd (cc e)
    other CombineMaps a n e = absurd (cc e)

    okay_is : (replies : List Reply) → Some first ≡ slice_get replies 0 → IsOutcomeOf split replies okay (Ok first)
    okay_is [] e = absurd (cc e)
    okay_is (r ∷ replies) e = cc e

-- the replies to the parts of these slots, if all tuples have these results
abbrev pub replies_of_parts : ReplyForm → List KeyTuple → List TupleResult → List ℕ → List Reply
replies_of_parts form ts results slots = map (λ slot. reply_by form (items_of_slot slot ts results)) slots

-- the reply of the unsplit command, by each form
module _ (slots : List ℕ) (ts : List KeyTuple) (share : ShareOut slots ts) (results : List TupleResult) (each : length results ≡ length ts) where
  abbrev values : List Reply
  values = map (λ r. r.value) results

  long : length values ≡ length ts
  long = length-map results (λ r. r.value) ∙ each

  arrays : (slots : List ℕ) → AllZip (λ slot reply. array_of reply ≡ Some (items_of_slot slot ts values)) slots (replies_of_parts list ts results slots)
  arrays [] = tt
  arrays (slot ∷ slots) = grind (arith, items_in-replies_of, map-items_of_slot, items_of_slot_is, long, arrays slots)

  first_okay : (slots : List ℕ) (outcome : Result Reply ErrorKind) → 0 < length slots → slice_get (map Ok (map (λ slot. reply.okay) slots)) 0 ≡ Some outcome → outcome ≡ Ok reply.okay
  first_okay [] outcome some is = absurd (omega arith)
  first_okay (slot ∷ slots) outcome some is = cc is

  by_form : (form : ReplyForm) (outcome : Result Reply ErrorKind) → IsOutcome ts slots (replies_of_parts form ts results slots) form outcome → outcome ≡ Ok (reply_by form results)
  by_form list (Ok value) made =
      ap Ok made.2 ∙ ap (λ vs. Ok (array (replies_of vs))) (merged_once ts slots (replies_of_parts list ts results slots) made.0 values share.named made.1 (record { each = long; of_slots = arrays slots }))
  by_form list (Err kind) refused = absurd (none_apart kind (sym (no_misfit ts values long slots (replies_of_parts list ts results slots) (arrays slots)) ∙ refused))
  by_form count outcome made = sym made ∙ ap (λ o. ok_or o UnexpectedReturnType) (counts_joined slots ts results each share.few share.named)
  by_form okay outcome made = first_okay slots outcome share.some made

  -- What is made of the replies to the parts is the reply to the unsplit command.
  pub outcome_is : (form : ReplyForm) (replies : List Reply) (outcome : Result Reply ErrorKind) → replies ≡ replies_of_parts form ts results slots → IsOutcome ts slots replies form outcome → outcome ≡ Ok (reply_by form results)
  outcome_is form replies outcome are made = by_form form outcome (subst (λ rs. IsOutcome ts slots rs form outcome) are made)

-- So it is of a split.
pub outcome_is_unsplit : (split : Split) (form : ReplyForm) (results : List TupleResult) (replies : List Reply) (outcome : Result Reply ErrorKind) → IsSplit split → ArePartsAnswered split form results replies
    → IsMadeOfParts split replies outcome → outcome ≡ Ok (reply_by form results)
outcome_is_unsplit split form results replies outcome held answered made = grind (arith, outcome_is, share_out)

-- arrays make lists
pub arrays_make_lists : (split : Split) (form : ReplyForm) → form_by_policy split.policy ≡ Some form → split.policy ≡ CombineArrays → form ≡ list
arrays_make_lists split form is policy = let e : form_by_policy split.policy ≡ Some list = ap form_by_policy policy in cc

-- of the ways to join replies only the one to a list runs out of memory
pub memory_makes_lists : (split : Split) (form : ReplyForm) (replies : List Reply) → form_by_policy split.policy ≡ Some form → IsMadeOfParts split replies (Err OutOfMemory) → form ≡ list
memory_makes_lists split form replies is made =
    let same : made.form ≡ form = let e = made.form_is in cc (e, is) in
    of_form form (subst (λ f. IsOutcomeOf split replies f (Err OutOfMemory)) same made.outcome_is)
  where
    no_sum : (found : Option Reply) → ok_or found UnexpectedReturnType ≡ Err OutOfMemory → ⊥
    no_sum None failed = let e : UnexpectedReturnType ≡ OutOfMemory = cc failed in cc e
    no_sum (Some value) failed = cc failed

    no_first : (replies : List Reply) → slice_get (map Ok replies) 0 ≡ Some (Err OutOfMemory) → ⊥
    no_first [] failed = cc failed
    no_first (r ∷ replies) failed = cc failed

    of_form : (form : ReplyForm) → IsOutcomeOf split replies form (Err OutOfMemory) → form ≡ list
    of_form list failed = refl
    of_form count failed = absurd (no_sum (option_map int (sum_of replies)) failed)
    of_form okay failed = absurd (no_first replies failed)
