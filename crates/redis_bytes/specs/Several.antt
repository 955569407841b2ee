-- The one reply to a request that went whole to several nodes, as bytes.
use Rattle.std.specs.Prelude.{◌≡◌, ◌⊎◌, ℕ, List, [], ◌∷◌, Bool, true, false, Option, Some, None, Ok, Err, length}
use Rattle.resp.specs.Forms.{form, line}
use Rattle.resp_core.specs.Answer.{Answer}
use Rattle.resp_core.specs.Reply.{Reply, Pairs, array, pairs, no_pairs, pair, replies_of}
use Rattle.redis_routing.specs.declared.policy.ResponsePolicy.{ResponsePolicy}
use Rattle.redis_routing.specs.declared.policy.ResponsePolicy.TheVariants.{Special}
use Rattle.redis_bytes.specs.Replies.{IsWritable}
use Rattle.redis_commands.specs.Policy.{Combined, of_target, refused, reply_by_policy}
use Rattle.redis_bytes.specs.Answers.{AreUnreadAnswers, StandAsAnswers, text_of}
use Rattle.redis_bytes.specs.declared.answers_fault.AnswersFault.{AnswersFault}
use Rattle.redis_bytes.specs.declared.answers_fault.AnswersFault.TheVariants.{NoForm}

-- keys and values in turn
abbrev pub flat_items : Pairs → List Reply
flat_items no_pairs = []
flat_items (pair key value more) = key ∷ value ∷ flat_items more

-- a map as version 2 of the protocol has it: an array of its keys and values
--
-- `PUBSUB NUMSUB a b`, the map of a to 1 and of b to 2: [a, 1, b, 2]
abbrev pub without_map : Reply → Reply
without_map (pairs items) = array (replies_of (flat_items items))
without_map reply = reply

-- whether a policy makes a reply that names no address
abbrev pub has_no_addresses : Option ResponsePolicy → Bool
has_no_addresses None = false
has_no_addresses (Some Special) = false
has_no_addresses policy = true

-- the bytes are those of the one reply: a value, or an error of a node
abbrev pub IsReplyForm : List ℕ → Combined → Type 0
IsReplyForm bytes (Ok reply) = bytes ≡ form (without_map reply)
IsReplyForm bytes (Err (of_target error)) = bytes ≡ line 45 (text_of error)
IsReplyForm bytes (Err refused) = ⊥

-- there is no one reply in bytes: the values do not fit the policy, or the reply cannot be written
abbrev pub HasNoReplyForm : Combined → Type 0
HasNoReplyForm (Ok reply) = IsWritable (without_map reply) → ⊥
HasNoReplyForm (Err (of_target error)) = ⊥
HasNoReplyForm (Err refused) = Unit {0}

-- The bytes are `count` answers, and what the policy makes of these fulfils `IsSo`.
pub record AreAnswersBy (policy : Option ResponsePolicy) (count : ℕ) (bytes : List ℕ)
    (IsSo : Combined → Type 0) : Type 0 where
  pub plain : has_no_addresses policy ≡ true
  pub answers : List Answer
  pub all : length answers ≡ count
  pub stand : StandAsAnswers bytes [] answers
  pub so : IsSo (reply_by_policy policy [] answers)

-- why bytes are not `count` answers that make one reply
abbrev pub HaveNoReply : Option ResponsePolicy → ℕ → List ℕ → AnswersFault → Type 0
HaveNoReply policy count bytes NoForm = AreAnswersBy policy count bytes HasNoReplyForm
HaveNoReply policy count bytes fault = AreUnreadAnswers count bytes fault

-- why a policy makes no one reply of bytes
abbrev pub IsUnreplied : Option ResponsePolicy → ℕ → List ℕ → AnswersFault → Type 0
IsUnreplied policy count bytes fault = ((has_no_addresses policy ≡ false) × (fault ≡ NoForm))
    ⊎ ((has_no_addresses policy ≡ true) × HaveNoReply policy count bytes fault)
