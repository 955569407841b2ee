-- Why a request is refused at once.
use Rattle.std.specs.Prelude.{◌≡◌, ◌⊎◌, ℕ, List, ◌++◌, Bool, false, Option, None, Some, map, codes, position, is_some, if◌then◌else◌}
use Rattle.resp.specs.Forms.{IsRequest, crlf}
use Rattle.resp.specs.Requests.{RequestCause}
use Rattle.redis_bytes.specs.Requests.{IsFollowed, Words}
use Rattle.redis_routing.specs.Command.{Arguments, is_word}
use Rattle.redis_routing.specs.Names.{Names}
use Rattle.redis_routing.specs.Routing.{routing}
use Rattle.redis_routing.specs.RoutingInfo.{Routing, multi_node, single_node}
use Rattle.redis_routing.specs.declared.policy.ResponsePolicy.{ResponsePolicy}
use Rattle.redis_routing.specs.declared.policy.ResponsePolicy.TheVariants.{Special}
use Rattle.redis_session.specs.Added.{Added}
use Rattle.redis_session.specs.CommandKinds.{kind_of_command}
use Rattle.redis_session.specs.declared.kind.CommandKind.{CommandKind}
use Rattle.redis_session.specs.declared.kind.CommandKind.TheVariants.{Stream}
use Rattle.redis_session.specs.declared.refusal.CallRefusal.{CallRefusal}
use Rattle.redis_session.specs.declared.refusal.CallRefusal.TheVariants.{Memory, Unread, AfterRequest, NotTaken, Blocking, NoRoute, NoOneReply, Limit}

-- whether a command of this kind waits: a stream is read with the word BLOCK
abbrev pub waits : CommandKind → Arguments → Bool
waits Stream args = is_some (position (is_word (codes "BLOCK")) args)
waits other args = false

-- the policy, if it makes one reply that names no address
abbrev pub one_reply : Option ResponsePolicy → Option ResponsePolicy
one_reply (Some Special) = None
one_reply policy = policy

abbrev pub refusal_of_policy : Option ResponsePolicy → Option CallRefusal
refusal_of_policy None = Some NoOneReply
refusal_of_policy (Some policy) = None

abbrev pub refusal_of_route : Option Routing → Option CallRefusal
refusal_of_route None = Some NoRoute
refusal_of_route (Some (single_node node)) = None
refusal_of_route (Some (multi_node nodes policy)) = refusal_of_policy (one_reply policy)

abbrev pub refusal_of_kind : Option CommandKind → Arguments → Option Routing → Option CallRefusal
refusal_of_kind None args route = Some NotTaken
refusal_of_kind (Some kind) args route = if waits kind args then Some Blocking else refusal_of_route route

-- why a command is refused, if it is
--
-- `SUBSCRIBE a`: not taken. `XREAD BLOCK 0 STREAMS a $`: it waits. `DEL`: no route. `GET a`: it is not refused.
abbrev pub refusal_of : Names → Added → Arguments → Option CallRefusal
refusal_of names added args =
    refusal_of_kind (kind_of_command names.registered added args) args (routing names args)

-- why the bytes are not one request
abbrev pub IsUnreadCall : List ℕ → CallRefusal → Type 0
IsUnreadCall bytes Memory = Unit {0}
IsUnreadCall bytes (Unread fault) = RequestCause bytes fault
IsUnreadCall bytes (AfterRequest end) = IsFollowed bytes end
IsUnreadCall bytes refusal = ⊥

-- The bytes are not one request, or its command is refused.
abbrev pub IsCallRefused : Names → Added → List ℕ → CallRefusal → Type 0
IsCallRefused names added bytes refusal = IsUnreadCall bytes refusal
    ⊎ ((words : Words) × IsRequest words bytes × (Some refusal ≡ refusal_of names added (map Some words)))

-- the reply that tells a client
abbrev pub refusal_reply : CallRefusal → List ℕ
refusal_reply Memory = codes "-ERR out of memory; the command did not take effect" ++ crlf
refusal_reply (Unread fault) = codes "-ERR this request cannot be read" ++ crlf
refusal_reply (AfterRequest end) = codes "-ERR bytes follow the request" ++ crlf
refusal_reply NotTaken = codes "-ERR shared links do not take this command" ++ crlf
refusal_reply Blocking = codes "-ERR shared links do not take a command that waits" ++ crlf
refusal_reply NoRoute = codes "-ERR this request goes to no node: is its key missing?" ++ crlf
refusal_reply NoOneReply =
    codes "-ERR the replies of several nodes to this command make no one reply" ++ crlf
refusal_reply Limit = codes "-ERR too many commands wait; the command did not take effect" ++ crlf
