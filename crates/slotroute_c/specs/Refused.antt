-- The outcomes of refused requests, and the replies that tell clients of them.
use Rattle.std.specs.Prelude.{◌==◌, ◌||◌, ℕ, List, [], if◌then◌else◌}
use Rattle.redis_session.specs.Refusals.{refusal_reply}
use Rattle.redis_session.specs.declared.refusal.CallRefusal.{CallRefusal}
use Rattle.redis_session.specs.declared.refusal.CallRefusal.TheVariants.{Memory, Unread, AfterRequest, NotTaken, Blocking, NoRoute, NoOneReply, Limit}
use Rattle.resp.specs.declared.fault.RequestFault.TheVariants.{Incomplete, Malformed}
use Rattle.slotroute_c.specs.Outcomes.{code}
use Rattle.slotroute_c.specs.declared.outcomes.Outcome.{Outcome}
use Rattle.slotroute_c.specs.declared.outcomes.Outcome.TheVariants as outcome

abbrev pub of_refusal : CallRefusal → Outcome
of_refusal Memory = outcome.NoMemory
of_refusal (Unread Incomplete) = outcome.RequestIncomplete
of_refusal (Unread (Malformed at)) = outcome.RequestMalformed
of_refusal (AfterRequest end) = outcome.AfterRequest
of_refusal NotTaken = outcome.NotTaken
of_refusal Blocking = outcome.Blocking
of_refusal NoRoute = outcome.NotRoutable
of_refusal NoOneReply = outcome.NoForm
of_refusal Limit = outcome.TooMany

-- the reply that tells a client why a request was refused with this code; none for a code that no refusal has
--
-- 21: `-ERR shared links do not take this command`. 2: no bytes.
abbrev pub reply_of_code : ℕ → List ℕ
reply_of_code number =
    if number == code outcome.NoMemory then refusal_reply Memory
    else (if number == code outcome.RequestIncomplete || number == code outcome.RequestMalformed
    then refusal_reply (Unread Incomplete)
    else (if number == code outcome.AfterRequest then refusal_reply (AfterRequest 0)
    else (if number == code outcome.NoForm then refusal_reply NoOneReply
    else (if number == code outcome.NotRoutable then refusal_reply NoRoute
    else (if number == code outcome.NotTaken then refusal_reply NotTaken
    else (if number == code outcome.Blocking then refusal_reply Blocking
    else (if number == code outcome.TooMany then refusal_reply Limit
    else [])))))))
