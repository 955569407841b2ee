-- The codes that calls return, and the text of each. `include/slotroute.h` names the same codes.
use Rattle.std.specs.Prelude.{◌==◌, ◌||◌, ℕ, Bool, false, List, [], ◌∷◌, codes, if◌then◌else◌}
use Rattle.resp.specs.declared.fault.Fault.{Fault}
use Rattle.resp.specs.declared.fault.Fault.TheVariants.{Incomplete, Malformed, TooDeep}
use Rattle.slotroute_c.specs.declared.outcomes.Outcome.{Outcome}
use Rattle.slotroute_c.specs.declared.outcomes.Outcome.TheVariants.{Done, NoMemory, TooSmall, RequestIncomplete, RequestMalformed, AfterRequest, NotMultiKey, ReplyIncomplete, ReplyMalformed, ReplyTooDeep, ReplyIsError, AfterReplies, Unfit, NoForm, NotText, NoRedirect, LineFeedInHost, NotRoutable, BadName, NotThere, NotTaken, Blocking, TooMany}

abbrev pub code : Outcome → ℕ
code Done = 0
code NoMemory = 1
code TooSmall = 2
code RequestIncomplete = 3
code RequestMalformed = 4
code AfterRequest = 5
code NotMultiKey = 6
code ReplyIncomplete = 7
code ReplyMalformed = 8
code ReplyTooDeep = 9
code ReplyIsError = 10
code AfterReplies = 11
code Unfit = 12
code NoForm = 13
code NotText = 14
code NoRedirect = 15
code LineFeedInHost = 16
code NotRoutable = 17
code BadName = 19
code NotThere = 20
code NotTaken = 21
code Blocking = 22
code TooMany = 23

abbrev pub text : Outcome → List ℕ
text Done = codes "done"
text NoMemory = codes "out of memory"
text TooSmall = codes "a buffer is too small"
text RequestIncomplete = codes "the bytes end before the request does"
text RequestMalformed = codes "the bytes begin no request"
text AfterRequest = codes "bytes follow the request"
text NotMultiKey = codes "not a complete command over many keys that is split by slot"
text ReplyIncomplete = codes "the bytes end before the reply does"
text ReplyMalformed = codes "the bytes begin no reply"
text ReplyTooDeep = codes "arrays stand too deep in arrays"
text ReplyIsError = codes "a reply is or holds an error"
text AfterReplies = codes "bytes follow the last reply"
text Unfit = codes "the replies are not what the parts answer with"
text NoForm = codes "the one reply has no form"
text NotText = codes "a text is not UTF-8"
text NoRedirect = codes "the text is no redirect"
text LineFeedInHost = codes "a host has a line feed"
text NotRoutable = codes "a command goes to no node"
text BadName = codes "a line registers no name"
text NotThere = codes "there is none"
text NotTaken = codes "shared links do not take this command"
text Blocking = codes "shared links do not take a command that waits"
text TooMany = codes "too many commands wait"

-- the text of a code
abbrev pub message : ℕ → List ℕ
message number =
    if number == 0 then text Done
    else (if number == 1 then text NoMemory
    else (if number == 2 then text TooSmall
    else (if number == 3 then text RequestIncomplete
    else (if number == 4 then text RequestMalformed
    else (if number == 5 then text AfterRequest
    else (if number == 6 then text NotMultiKey
    else (if number == 7 then text ReplyIncomplete
    else (if number == 8 then text ReplyMalformed
    else (if number == 9 then text ReplyTooDeep
    else (if number == 10 then text ReplyIsError
    else (if number == 11 then text AfterReplies
    else (if number == 12 then text Unfit
    else (if number == 13 then text NoForm
    else (if number == 14 then text NotText
    else (if number == 15 then text NoRedirect
    else (if number == 16 then text LineFeedInHost
    else (if number == 17 then text NotRoutable
    else (if number == 19 then text BadName
    else (if number == 20 then text NotThere
    else (if number == 21 then text NotTaken
    else (if number == 22 then text Blocking
    else (if number == 23 then text TooMany
    else codes "no answer of this library"))))))))))))))))))))))

-- whether a number is the code of one of these outcomes
abbrev pub is_one_of : ℕ → List Outcome → Bool
is_one_of number [] = false
is_one_of number (outcome ∷ outcomes) = number == code outcome || is_one_of number outcomes

-- the outcome of a reply's fault
abbrev pub of_reply : Fault → Outcome
of_reply Incomplete = ReplyIncomplete
of_reply Malformed = ReplyMalformed
of_reply TooDeep = ReplyTooDeep
