-- Which bytes the reply to a call has.
use Rattle.std.specs.Prelude.{◌≡◌, ◌≢◌, ◌⊎◌, ◌∷◌, [], ℕ, List, Bool, true, false, not, Option, Some, MatchOption, length, map}
use Rattle.std.specs.List.{concat, find}
use Rattle.redis_routing.specs.Names.{Names}
use Rattle.redis_routing.specs.Split.{Split}
use Rattle.redis_routing.specs.declared.policy.ResponsePolicy.{ResponsePolicy}
use Rattle.redis_bytes.specs.Replies.{AreCombined, IsUncombined}
use Rattle.redis_bytes.specs.Requests.{IsSplitRequest}
use Rattle.redis_bytes.specs.Several.{AreAnswersBy, IsReplyForm, IsUnreplied}
use Rattle.redis_bytes.specs.declared.answers_fault.AnswersFault as answers_fault
use Rattle.redis_bytes.specs.declared.answers_fault.AnswersFault.TheVariants as answers_faults
use Rattle.redis_bytes.specs.declared.fault.BytesFault as fault
use Rattle.redis_bytes.specs.declared.fault.BytesFault.TheVariants as faults
use Rattle.session_core.specs.Part.{Phase, PartState, Asked, Answered, Lost, Refused, Unsent}
use Rattle.session_core.specs.declared.part.Cause.TheVariants as causes
use Rattle.redis_session.specs.SessionStates.{Bytes, answer_of, given_of}
use Rattle.redis_session.specs.SplitReplies.{is_error}
use Rattle.redis_session.specs.Told.{effect_of, error_reply, no_tries_reply, unfit_reply}
use Rattle.redis_session.specs.declared.rules.ReplyRule.{ReplyRule}
use Rattle.redis_session.specs.declared.rules.ReplyRule.TheVariants as rules
use Rattle.redis_session.specs.declared.session.replying.LastReply.{LastReply}
use Rattle.redis_session.specs.declared.told.Effect.{Effect}
use Rattle.redis_session.specs.declared.told.ErrorCause.{ErrorCause}
use Rattle.redis_session.specs.declared.told.ErrorCause.TheVariants as told
use Rattle.redis_session.specs.declared.told.PartFate.{PartFate}
use Rattle.redis_session.specs.declared.told.PartFate.TheVariants as fates

-- ---- calls of which each part was answered

-- The reply to a command of one part: its answer, byte for byte.
abbrev pub IsOnly : List (List ℕ) → List ℕ → Type 0
IsOnly (answer ∷ []) reply = reply ≡ answer
IsOnly answers reply = reply ≡ unfit_reply

-- The reply to a split command, where no answer is an error: what its policy makes of the answers. If these do not
-- fit it, the reply says so.
abbrev pub IsJoined : Names → List ℕ → (answers reply : List ℕ) → Type 0
IsJoined names request answers reply =
    ((split : Split) × IsSplitRequest names request split × AreCombined split answers reply)
    ⊎ ((reply ≡ unfit_reply)
    × ((fault : fault.BytesFault) × (fault ≢ faults.Memory) × IsUncombined names request answers fault))

-- The reply to a split command: the first answer that is an error, if there is one.
abbrev pub IsSplitReply : Names → List ℕ → List (List ℕ) → List ℕ → Type 0
IsSplitReply names request answers reply =
    MatchOption (find is_error answers) (IsJoined names request (concat answers) reply) (λ error. reply ≡ error)

-- The reply to a command that goes to several nodes: what the policy makes of their answers. If these do not fit it,
-- the reply says so.
abbrev pub IsReplyOfNodes : ResponsePolicy → List (List ℕ) → List ℕ → Type 0
IsReplyOfNodes policy answers reply =
    AreAnswersBy (Some policy) (length answers) (concat answers) (IsReplyForm reply)
    ⊎ ((reply ≡ unfit_reply)
    × ((fault : answers_fault.AnswersFault) × (fault ≢ answers_faults.Memory)
    × IsUnreplied (Some policy) (length answers) (concat answers) fault))

-- The reply is made by this rule of the answers to the parts, in the order of the parts.
abbrev pub IsMadeBy : Names → ReplyRule → List (List ℕ) → List ℕ → Type 0
IsMadeBy names rules.One answers reply = IsOnly answers reply
IsMadeBy names (rules.Split request) answers reply = IsSplitReply names request.items answers reply
IsMadeBy names (rules.Several policy nodes) answers reply = IsReplyOfNodes policy answers reply

-- these bytes are given for this call, and are such
abbrev pub GivesBytes : ℕ → (List ℕ → Type 0) → LastReply → Type 0
GivesBytes call IsSuch reply = (bytes : List ℕ) × (given_of reply ≡ Bytes call bytes) × IsSuch bytes

-- ---- calls of which a part was not answered

abbrev pub is_answered : Phase → Bool
is_answered (Answered reply) = true
is_answered other = false

-- what became of a part, when its call ends
abbrev pub fate_of : Phase → PartFate
fate_of (Asked link left) = fates.Unknown
fate_of Lost = fates.Unknown
fate_of (Answered reply) = fates.Answered
fate_of other = fates.NotRun

-- why a part was not answered, when its call ends
abbrev pub cause_of : Phase → ErrorCause
cause_of (Refused error) = told.NoTries
cause_of Lost = told.Lost
cause_of (Unsent causes.Overtaken) = told.Overtaken
cause_of (Unsent causes.NoNode) = told.NoNode
cause_of other = told.Late

-- what the call did
abbrev pub effect_on : List PartState → Effect
effect_on parts = effect_of (map (λ p. fate_of p.phase) parts)

-- The error for a part that was not answered. That of a part with no tries left has the last refusal in its text, or
-- not if memory ran out for that.
abbrev pub IsErrorFor : Phase → Effect → List ℕ → Type 0
IsErrorFor (Refused error) effect reply =
    (reply ≡ no_tries_reply error effect) ⊎ (reply ≡ error_reply told.NoTries effect)
IsErrorFor phase effect reply = reply ≡ error_reply (cause_of phase) effect

-- ---- all calls

abbrev pub first_unanswered : List PartState → Option PartState
first_unanswered parts = find (λ p. not (is_answered p.phase)) parts

abbrev pub answers_in : List PartState → List (List ℕ)
answers_in parts = map (λ p. answer_of p.phase) parts

-- The reply to a call of these parts, by this rule. If a part was not answered, it is the error for the first one.
--
-- `MGET a b`, answered by `*1\r\n$1\r\nx\r\n` and `*1\r\n$-1\r\n`: `*2\r\n$1\r\nx\r\n$-1\r\n`. If the link of the
-- second part ended after a byte of it was written: `-ERR a connection ended; the command may have taken effect\r\n`.
abbrev pub IsReplyTo : Names → ReplyRule → List PartState → List ℕ → Type 0
IsReplyTo names rule parts reply =
    MatchOption (first_unanswered parts) (IsMadeBy names rule (answers_in parts) reply)
    (λ part. IsErrorFor part.phase (effect_on parts) reply)
