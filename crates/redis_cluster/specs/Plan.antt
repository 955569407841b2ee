-- The plan of a multi-key command: a part for each of its routes, the node that it goes to,
-- and what its node answered.
use Rattle.std.specs.Prelude.{◌≡◌, ℕ, List, Option, Some, Result, map, length, ◌++◌}
use Rattle.resp_core.specs.ErrorParts.{ErrorParts}
use Rattle.resp_core.specs.Reply.{Reply}
use Rattle.resp_core.specs.View.{view}
use Rattle.resp_core.specs.declared.error.ErrorKind.{ErrorKind}
use Rattle.resp_core.specs.declared.value.Value.{Value}
use Rattle.cluster_slots.specs.Address.{Address}
use Rattle.cluster_slots.specs.SlotRoute.{SlotRoute}
use Rattle.redis_routing.specs.PresentArguments.{present_arguments}
use Rattle.redis_routing.specs.Split.{Split, IsSplit, slots_of, split_part}
use Rattle.redis_combiners.specs.Answers.{values_told}
use Rattle.redis_cluster.specs.Joined.{IsOutcome}
use Rattle.redis_cluster.specs.MultiKey.{KeyTuple, ReplyForm, form_by_policy}
use Rattle.redis_cluster.specs.PlacedTuples.{tuples_of}
use Rattle.redis_cluster.specs.Orders.{in_order}
use Rattle.redis_cluster.specs.SlotItems.{items_of_slot}
use Rattle.redis_cluster.specs.Unsplit.{TupleResult, reply_by}

-- the command with its routes, and for each route its node, its part, and what was answered to it,
-- if the plan has that
pub record Plan : Type 0 where
  pub split : Split
  pub nodes : List Address
  pub parts : List (List (List ℕ))
  pub answers : List (Option (Result Value ErrorParts))

-- each route has a node, its own part, and room for an answer
pub record IsRoutedPlan (plan : Plan) : Type 0 where
  pub split : IsSplit plan.split
  pub nodes : length plan.nodes ≡ length plan.split.routes
  pub parts : map (map Some) plan.parts ≡ map (split_part plan.split) (slots_of plan.split.routes)
  pub answers : length plan.answers ≡ length plan.split.routes

-- the tuples of the command
abbrev pub tuples_in_split : Split → List KeyTuple
tuples_in_split split =
    tuples_of split.pattern (present_arguments split.arguments)

-- These are the replies to the parts, if the tuples of the unsplit command have these results.
pub record ArePartsAnswered (split : Split) (form : ReplyForm) (results : List TupleResult)
    (replies : List Reply) : Type 0 where
  pub form_is : form_by_policy split.policy ≡ Some form
  pub each : length results ≡ length (tuples_in_split split)
  pub replies_are : replies ≡ map
      (λ slot. reply_by form (items_of_slot slot (tuples_in_split split) results))
      (slots_of split.routes)

-- There is one reply to each part. The outcome, a reply or the kind of a refusal, is what they make.
pub record IsMadeOfParts (split : Split) (replies : List Reply)
    (outcome : Result Reply ErrorKind) : Type 0 where
  pub each : length replies ≡ length split.routes
  pub form : ReplyForm
  pub form_is : form_by_policy split.policy ≡ Some form
  pub outcome_is : IsOutcome (tuples_in_split split) (slots_of split.routes) replies form outcome

-- Each part was answered by a value, and these are they.
pub record ArePartReplies (plan : Plan) (form : ReplyForm) (results : List TupleResult)
    : Type 0 where
  pub replies : List Value
  pub all_told : plan.answers ≡ values_told replies
  pub answered : ArePartsAnswered plan.split form results (map view replies)

-- Each part was answered by a value. In the order in which they came, these may be what the nodes
-- gave after what they gave before.
pub record AreGiven (old new : List Reply → Type 0) (routes : List (SlotRoute × List ℕ))
    (answers : List (Option (Result Value ErrorParts))) (order : List ℕ) : Type 0 where
  pub values : List Value
  pub all_told : answers ≡ values_told values
  pub each : length values ≡ length routes
  pub gave : (before : List Reply) → old before → new (before ++ in_order (map view values) order)

-- The nodes gave `count` replies more. In the order in which they came, these may be they.
pub record HaveGiven (old new : List Reply → Type 0) (count : ℕ) : Type 0 where
  pub replies : List Reply
  pub each : length replies ≡ count
  pub gave : (before : List Reply) → old before → new (before ++ replies)
