-- The outcome of each fault, and what `told` reports of it.
use Rattle.std.specs.Prelude.{◌≢◌, ℕ}
use Rattle.resp.specs.declared.fault.RequestFault.{RequestFault}
use Rattle.resp.specs.declared.fault.RequestFault.TheVariants as request
use Rattle.redis_bytes.specs.declared.answers_fault.AnswersFault.{AnswersFault}
use Rattle.redis_bytes.specs.declared.answers_fault.AnswersFault.TheVariants as answers
use Rattle.redis_bytes.specs.declared.fault.BytesFault.{BytesFault}
use Rattle.redis_bytes.specs.declared.fault.BytesFault.TheVariants as faults
use Rattle.slotroute_c.specs.declared.outcomes.Outcome.{Outcome}
use Rattle.slotroute_c.specs.declared.outcomes.Outcome.TheVariants.{Done, TooSmall, NotText, NoMemory, RequestIncomplete, RequestMalformed, AfterRequest, NotMultiKey, ReplyIsError, AfterReplies, Unfit, NoForm, LineFeedInHost, BadName}
use Rattle.slotroute_c.specs.declared.told.Told.{Told}
use Rattle.slotroute_c.specs.Fields.{with_at, with_reply_number}
use Rattle.slotroute_c.specs.Outcomes.{code, of_reply}

-- the outcome of a request's fault
abbrev pub of_request : RequestFault → Outcome
of_request request.Incomplete = RequestIncomplete
of_request (request.Malformed at) = RequestMalformed

abbrev pub outcome_of : BytesFault → Outcome
outcome_of faults.Memory = NoMemory
outcome_of (faults.Request fault) = of_request fault
outcome_of (faults.AfterRequest end) = AfterRequest
outcome_of faults.NotMultiKey = NotMultiKey
outcome_of (faults.Reply number fault) = of_reply fault
outcome_of (faults.Error number text) = ReplyIsError
outcome_of (faults.AfterReplies end) = AfterReplies
outcome_of (faults.Unfit kind) = Unfit
outcome_of faults.LineFeedInHost = LineFeedInHost
outcome_of (faults.BadName number) = BadName

abbrev pub outcome_of_answers : AnswersFault → Outcome
outcome_of_answers answers.Memory = NoMemory
outcome_of_answers (answers.Reply number fault) = of_reply fault
outcome_of_answers (answers.AfterReplies end) = AfterReplies
outcome_of_answers answers.NoForm = NoForm

-- a code other than those of Done, TooSmall and NotText
abbrev pub IsOther : ℕ → Type 0
IsOther number = (number ≢ code Done) × (number ≢ code TooSmall) × (number ≢ code NotText)

-- the fault of a request is reported by the index of the byte
abbrev pub with_request_fault : RequestFault → Told → Told
with_request_fault request.Incomplete told = told
with_request_fault (request.Malformed at) told = with_at at told

-- a fault is reported by the index of the byte or of the line, or by the number of the reply
abbrev pub with_fault : BytesFault → Told → Told
with_fault (faults.Request fault) told = with_request_fault fault told
with_fault (faults.AfterRequest end) told = with_at end told
with_fault (faults.Reply number fault) told = with_reply_number number told
with_fault (faults.Error number text) told = with_reply_number number told
with_fault (faults.AfterReplies end) told = with_at end told
with_fault (faults.BadName number) told = with_at number told
with_fault _ told = told

-- a fault of several nodes' replies is reported by the number of the reply or the index of the byte
abbrev pub with_answers_fault : AnswersFault → Told → Told
with_answers_fault (answers.Reply number fault) told = with_reply_number number told
with_answers_fault (answers.AfterReplies end) told = with_at end told
with_answers_fault _ told = told
