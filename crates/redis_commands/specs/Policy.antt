-- The one reply that a policy makes of what the targets of a command answered.
use Rattle.std.specs.Prelude.{◌≡◌, List, Option, Some, None, Result, Ok, Err, cond, filter_map, length, map, nat_eq, option_map}
use Rattle.std.specs.List.{zip}
use Rattle.resp_core.specs.Answer.{Answer}
use Rattle.resp_core.specs.ErrorParts.{ErrorParts}
use Rattle.resp_core.specs.Reply.{Reply, nil, bulk, array, pairs, pairs_of, replies_of}
use Rattle.resp_core.specs.declared.error.ErrorKind.TheVariants.{UnexpectedReturnType}
use Rattle.resp_core.specs.View.{view}
use Rattle.resp_core.specs.declared.value.Value.{Value}
use Rattle.cluster_slots.specs.Address.{Address, display_text}
use Rattle.redis_combiners.specs.Aggregate.{aggregate_of}
use Rattle.redis_combiners.specs.AllItems.{all_items}
use Rattle.redis_combiners.specs.Logical.{logical_items}
use Rattle.redis_combiners.specs.Totals.{combined_map}
use Rattle.redis_routing.specs.declared.policy.ResponsePolicy.{ResponsePolicy}
use Rattle.redis_routing.specs.declared.policy.ResponsePolicy.TheVariants.{OneSucceeded, FirstSucceededNonEmptyOrAllEmpty, AllSucceeded, AggregateLogical, Aggregate, CombineArrays, CombineMaps}
use Rattle.redis_combiners.specs.Answers.{non_nil_in, first_in, values_in, first_error, last_error}

-- why there is no reply: an error of a target, as it came, or the values do not fit the policy
pub data Failure : Type 0 where
  of_target : ErrorParts → Failure
  refused : Failure

abbrev pub Combined : Type 0
Combined = Result Reply Failure

abbrev pub IsFailure : Failure → ErrorParts → Type 0
IsFailure (of_target own) error = error ≡ own
IsFailure refused error = error.kind ≡ UnexpectedReturnType

-- what a call returned is this reply, or an error for this failure
abbrev pub Returns : Result Value ErrorParts → Combined → Type 0
Returns (Ok value) combined = combined ≡ Ok (view value)
Returns (Err error) (Ok reply) = ⊥
Returns (Err error) (Err failure) = IsFailure failure error

-- the reply, or else the error, or else another outcome
abbrev pub reply_or : Option Reply → Option ErrorParts → Combined → Combined
reply_or (Some reply) error otherwise = Ok reply
reply_or None (Some error) otherwise = Err (of_target error)
reply_or None None otherwise = otherwise

-- what is made of the values, unless there is an error
abbrev pub unless_error : Option ErrorParts → Combined → Combined
unless_error None made = made
unless_error (Some error) made = Err (of_target error)

abbrev pub or_refused : Option Reply → Combined
or_refused None = Err refused
or_refused (Some reply) = Ok reply

-- each target's address as text, and its value
abbrev pub values_by_address : List Address → List Reply → Reply
values_by_address targets values =
    pairs (pairs_of (map (λ p. (bulk (display_text p.0), p.1)) (zip targets values)))

-- the one reply that a policy makes of the values, one of each target
--
-- `DBSIZE`, values 3 and 4: 7. `KEYS *`, [a] and [b, c]: [a, b, c]. `FLUSHALL`, OK and OK: OK
-- `SCRIPT EXISTS x y`, [1, 1] and [1, 0]: [1, 0]
-- `INFO`, x and y of n1:1 and n2:2: the map of `n1:1` to x and of `n2:2` to y
abbrev pub made_by : Option ResponsePolicy → List Address → List Reply → Combined
made_by (Some (AggregateLogical op)) targets values =
    or_refused (option_map (λ items. array (replies_of items)) (logical_items op values))
made_by (Some (Aggregate op)) targets values = or_refused (aggregate_of op values)
made_by (Some CombineArrays) targets values =
    or_refused (option_map (λ items. array (replies_of items)) (all_items values))
made_by (Some CombineMaps) targets values = or_refused (combined_map values)
made_by (Some AllSucceeded) targets values = or_refused (first_in values)
made_by _ targets values = or_refused (cond (nat_eq (length targets) (length values))
    (Some (values_by_address targets values)) None)

-- the one reply that a policy makes of the answers, one of each target, in their order
--
-- `SCRIPT KILL`, an error and OK: OK. An error and another: the other
-- `RANDOMKEY`, nil and a: a. Nil and nil: nil. Nil and an error: the error
-- Each other policy: the first error, if there is one
abbrev pub reply_by_policy : Option ResponsePolicy → List Address → List Answer → Combined
reply_by_policy (Some OneSucceeded) targets answers =
    reply_or (first_in (values_in answers)) (last_error answers) (Err refused)
reply_by_policy (Some FirstSucceededNonEmptyOrAllEmpty) targets answers =
    reply_or (first_in (filter_map non_nil_in answers)) (last_error answers) (Ok nil)
reply_by_policy policy targets answers =
    unless_error (first_error answers) (made_by policy targets (values_in answers))
