-- How the answers to a command make one reply, by where the command goes.
use Rattle.std.specs.Prelude.{◌≡◌, ◌⊎◌, Bool, true, false, List, [], ◌∷◌, Option, Some, None, Result, Ok, Err, MatchOption, map}
use Rattle.resp_core.specs.Answer.{Answer, answer_of}
use Rattle.resp_core.specs.ErrorParts.{ErrorParts, out_of_memory}
use Rattle.resp_core.specs.Reply.{Reply}
use Rattle.resp_core.specs.View.{view}
use Rattle.resp_core.specs.declared.value.Value.{Value}
use Rattle.cluster_slots.specs.Address.{Address}
use Rattle.redis_routing.specs.Command.{Arguments}
use Rattle.redis_routing.specs.RoutingInfo.{Routing, multi_slot, single_node, multi_node}
use Rattle.redis_routing.specs.Split.{Split, slots_of, split_part}
use Rattle.redis_routing.specs.declared.policy.ResponsePolicy.{ResponsePolicy}
use Rattle.redis_routing.specs.declared.policy.ResponsePolicy.TheVariants.{OneSucceeded, FirstSucceededNonEmptyOrAllEmpty, AllSucceeded, CombineArrays}
use Rattle.redis_cluster.specs.Plan.{IsMadeOfParts}
use Rattle.redis_combiners.specs.Answers.{values_in, first_error}
use Rattle.redis_commands.specs.Policy.{Returns, reply_by_policy}

-- The answer of the only target is the reply; or a policy makes it of the answers to the whole
-- command; or it is joined of those to the parts of a split command.
pub data ReplyRule : Type 0 where
  only_answer : ReplyRule
  by_policy : Option ResponsePolicy → ReplyRule
  of_parts : Split → ReplyRule

-- the rule of a command with these arguments that goes there
--
-- `GET a`: the only answer. `INFO`: by policy, even if the cluster has one primary
-- `MGET a b`: of parts. `MGET a {a}b`: the only answer, since its keys have one slot
abbrev pub rule_of : Arguments → Routing → ReplyRule
rule_of args (single_node to) = only_answer
rule_of args (multi_node (multi_slot routes pattern) (Some policy)) =
    of_parts (record { arguments = args; routes = routes; pattern = pattern; policy = policy })
rule_of args (multi_node to policy) = by_policy policy

-- what each target is sent: the part of its slot, or else the whole command
abbrev pub sent_by : Arguments → ReplyRule → List Address → List Arguments
sent_by args (of_parts split) targets = map (split_part split) (slots_of split.routes)
sent_by args rule targets = map (λ target. args) targets

-- what a call returned is joined of the replies to the parts
abbrev pub IsJoinedOf : Split → List Reply → Result Value ErrorParts → Type 0
IsJoinedOf split replies (Ok value) = IsMadeOfParts split replies (Ok (view value))
IsJoinedOf split replies (Err error) = IsMadeOfParts split replies (Err error.kind)

-- what a call returned is the one reply that the answers make, or the error
abbrev pub IsReplyBy : ReplyRule → List Address → List Answer → Result Value ErrorParts → Type 0
IsReplyBy only_answer targets answers returned = answers ≡ answer_of returned ∷ []
IsReplyBy (by_policy policy) targets answers returned =
    Returns returned (reply_by_policy policy targets answers)
IsReplyBy (of_parts split) targets answers returned =
    MatchOption (first_error answers) (IsJoinedOf split (values_in answers) returned)
    (λ error. returned ≡ Err error)

-- whether the one reply takes memory
abbrev pub takes_memory : ReplyRule → Bool
takes_memory only_answer = false
takes_memory (by_policy (Some OneSucceeded)) = false
takes_memory (by_policy (Some FirstSucceededNonEmptyOrAllEmpty)) = false
takes_memory (by_policy (Some AllSucceeded)) = false
takes_memory (by_policy _) = true
takes_memory (of_parts split) = joins_lists split.policy
  where
    joins_lists : ResponsePolicy → Bool
    joins_lists CombineArrays = true
    joins_lists _ = false

-- what a call returned is that, or memory ran out for the one reply of answers without an error
abbrev pub IsCombined : ReplyRule → List Address → List Answer → Result Value ErrorParts → Type 0
IsCombined rule targets answers returned =
    ((returned ≡ Err out_of_memory) × (takes_memory rule ≡ true) × (first_error answers ≡ None))
    ⊎ IsReplyBy rule targets answers returned
