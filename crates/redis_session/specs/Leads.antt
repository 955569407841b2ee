-- What a session does by itself, between what its shell reports.
use Rattle.std.specs.Prelude.{◌≡◌, ◌≢◌, ◌⊎◌, ◌++◌, ◌∷◌, [], ℕ, zero, suc, max, List, Bool, true, false, Option, None, Some, ◌||◌, ◌==◌, codes, length, not, slice_get}
use Rattle.std.specs.List.{list_all}
use Rattle.session_core.specs.declared.link.Standing.{Standing}
use Rattle.session_core.specs.declared.part.Cause.{Cause}
use Rattle.session_core.specs.declared.part.Cause.TheVariants.{GivenUp, Late, NoNode, Overtaken}
use Rattle.session_core.specs.declared.part.PartOrder.{PartOrder}
use Rattle.session_core.specs.declared.part.PartOrder.TheVariants.{OfSlot}
use Rattle.resp.specs.Forms.{request as request_of}
use Rattle.session_core.specs.declared.link.Ticket.{Ticket}
use Rattle.session_core.specs.declared.link.Ticket.TheVariants.{Login, Map, Part}
use Rattle.session_core.specs.Channel.{Ask, Channel}
use Rattle.session_core.specs.LinkEvents as link
use Rattle.session_core.specs.State.{CallState, Event, Open, On, Forget, Begin, GiveUp, End, Finish, Leave, Trim, Happens, IsLink, MayFinish, State, call_at, part_at}
use Rattle.session_core.specs.Part.{PartState, is_done, is_waiting}
use Rattle.session_machine.specs.declared.took.Took.{Took}
use Rattle.cluster_slots.specs.Address.{Address}
use Rattle.redis_session.specs.Asks.{Asks, KeepsOtherAsks, asked_node}
use Rattle.redis_session.specs.Loads.{HasRoom, Lightens, heavier}
use Rattle.redis_session.specs.Refusals.{IsCallRefused}
use Rattle.redis_session.specs.declared.refusal.CallRefusal.{CallRefusal}
use Rattle.redis_session.specs.declared.refusal.CallRefusal.TheVariants.{Limit}
use Rattle.redis_session.specs.Begins.{IsErrand}
use Rattle.redis_session.specs.CallReplies.{IsReplyTo}
use Rattle.redis_session.specs.Deadlines.{Forgets, deadline_of, is_over}
use Rattle.redis_session.specs.Directory.{Directory, Grows, IsNodeOf, IsPrimary}
use Rattle.redis_session.specs.Learned.{JoinsOf, JoinsTook, Learns, LearnsOf, LearnsTook, Readies, ReadiesOf, ReadiesTook, SendsOf, SendsTook}
use Rattle.redis_session.specs.Peers.{IsReadyTo, Peers, SetsPeer, peer_at}
use Rattle.redis_session.specs.Rules.{KeepOthers, is_several, rule_in, without}
use Rattle.redis_session.specs.SessionStates.{SessionState, is_reply_of, last_reply, names, without_reply}
use Rattle.redis_session.specs.Table.{Table}
use Rattle.redis_session.specs.declared.peers.Peer.{Peer}
use Rattle.redis_session.specs.declared.rules.ReplyRule.{ReplyRule}
use Rattle.redis_session.specs.declared.rules.ReplyRule.TheVariants.{Several}

-- the request for the map
abbrev pub map_request : List ℕ
map_request = request_of (codes "CLUSTER" ∷ codes "SLOTS" ∷ [])

-- The session may end a part of this call for this cause. The part is late, or without a node, only if the time of the
-- call is over. A command to several nodes may also be without a node before that, since one of them left the map. A
-- part that was given up is ended with its whole call, and not by the session itself.
abbrev pub may_end : SessionState → ℕ → Cause → Bool
may_end s call Late = is_over (deadline_of call s.deadlines) s.now
may_end s call NoNode = is_over (deadline_of call s.deadlines) s.now || is_several (rule_in s.rules call)
may_end s call Overtaken = true
may_end s call GivenUp = false

-- The node of this number serves a part without a slot, whose call has this rule: it is the one of several nodes that
-- the part is for, or else a primary of the map.
abbrev pub IsNodeBy : Directory → ReplyRule → (part : ℕ) → ℕ → Type 0
IsNodeBy directory (Several policy nodes) part node = slice_get nodes.items part ≡ Some node
IsNodeBy directory other part node = IsPrimary node directory

-- The node of this number serves a part of this order: it is the node of the part's slot, if that has one.
abbrev pub IsNodeFor : Directory → ReplyRule → (part : ℕ) → PartOrder → ℕ → Type 0
IsNodeFor directory rule part (OfSlot slot) node = IsNodeOf slot node directory
IsNodeFor directory rule part other node = IsNodeBy directory rule part node

-- the node of this number serves the part
abbrev pub Serves : SessionState → (call part node : ℕ) → Type 0
Serves s call part node = (p : PartState) → part_at call part s.machine ≡ Some p
    → IsNodeFor s.directory (rule_in s.rules call) part p.order node

-- The node of this number serves the part that is asked, or the last `ASK` for the part named it, and `ASKING` goes first.
abbrev pub IsServedBy : SessionState → ℕ → List Ask → Type 0
IsServedBy s node ((Part call part, request) ∷ []) = Serves s call part node
IsServedBy s node (first ∷ (Part call part, request) ∷ []) = asked_node call part s.asks ≡ Some node
IsServedBy s node other = Unit {0}

-- Parts may be asked on the link, and its node serves what is asked.
pub record IsReadyFor (s : SessionState) (number : ℕ) (asks : List Ask) : Type 0 where
  pub node : ℕ
  pub ready : IsReadyTo node number s.peers
  pub serves : IsServedBy s node asks

-- The session may ask this on a link by itself: a part, or the map. The ticket of that has how many `MOVED` were learned.
abbrev pub IsOwnAsk : SessionState → ℕ → List Ask → Type 0
IsOwnAsk s number ((Login, request) ∷ []) = ⊥
IsOwnAsk s number ((Map count, request) ∷ []) = (count ≡ s.directory.table.count) × (request ≡ map_request)
    × IsReadyFor s number ((Map count, request) ∷ [])
IsOwnAsk s number asks = IsReadyFor s number asks

-- The session may do this by itself: it asks, ends parts and forgets. It does not forget the call of the last reply.
-- Replies on links are taken as the shell reads them. All else is reported by the shell: that a connection is there or
-- ended, what was written and read, that a caller asks something, takes a reply or waits no more.
abbrev pub IsOwn : SessionState → Event → Type 0
IsOwn s (On number (link.Put asks)) = IsOwnAsk s number asks
IsOwn s (On number (link.Break cause)) = Unit {0}
IsOwn s (On number (link.Lose ticket begun)) = Unit {0}
IsOwn s (Forget number) = Unit {0}
IsOwn s (End call part cause) = may_end s call cause ≡ true
IsOwn s (Leave call) = is_reply_of call s.given ≡ false
IsOwn s Trim = Unit {0}
IsOwn s other = ⊥

-- With a call that leaves, the session keeps one call less, and may forget where `ASK` sent the parts of this call.
abbrev pub Frees : Event → SessionState → SessionState → Type 0
Frees (Leave call) old new = KeepsOtherAsks call old.asks new.asks × Lightens old.load new.load
Frees other old new = (new.asks ≡ old.asks) × (new.load ≡ old.load)

-- This happens to the links and calls of a session, and nothing else of it changes.
pub record Does (event : Event) (old new : SessionState) : Type 0 where
  pub happens : Happens old.machine event new.machine
  pub frees : Frees event old new
  pub others : new ≡ record old { machine = new.machine; asks = new.asks; load = new.load }

-- The session does these things by itself, one after the other.
abbrev pub Acts : SessionState → List Event → SessionState → Type 0
Acts old [] new = new ≡ old
Acts old (event ∷ events) new = (mid : SessionState) × Does event old mid × IsOwn old event × Acts mid events new

-- Steps of its own lead from one state to the other.
pub record Leads (old new : SessionState) : Type 0 where
  pub events : List Event
  pub acts : Acts old events new

-- The session may come to know more nodes. Each of them may join. Nothing else changes.
pub record Knows (MayJoin : Address → Type 0) (old new : SessionState) : Type 0 where
  pub nodes : Grows MayJoin old.directory.nodes new.directory.nodes
  pub others : new ≡ record old { directory = record old.directory { nodes = new.directory.nodes } }

-- The shell says that it is this time. The session notes it, unless the time that it noted before is later. Then the
-- session goes on by itself.
pub record Advances (now : ℕ) (old new : SessionState) : Type 0 where
  pub leads : Leads (record old { now = max old.now now }) new

-- There is a link of this number, and it stands so.
abbrev pub IsLinkThat : SessionState → ℕ → (Standing → Type 0) → Type 0
IsLinkThat s number stands = (c : Channel) × IsLink s.machine number c × stands c.standing

-- the link may be read
abbrev pub IsOpen : SessionState → ℕ → Type 0
IsOpen s number = IsLinkThat s number (λ standing. standing ≡ Standing.Open)

-- the connection of the link did not end
abbrev pub IsConnected : SessionState → ℕ → Type 0
IsConnected s number = IsLinkThat s number (λ standing. standing ≢ Standing.Ended)

-- A reply is taken on this link. The session learns of it, and goes on by itself.
pub record TakesReply (number : ℕ) (old new : SessionState) : Type 0 where
  pub ticket : Ticket
  pub reply : List ℕ
  pub mid : SessionState
  pub taken : Does (On number (link.Take ticket reply)) old mid
  pub wiser : SessionState
  pub learns : Learns (JoinsOf mid number ticket reply) (LearnsOf mid number ticket reply)
      (ReadiesOf number ticket reply) (SendsOf mid number ticket reply) mid wiser
  pub leads : Leads wiser new

-- so many, one after the other
abbrev pub TakesReplies : (count : ℕ) → ℕ → SessionState → SessionState → Type 0
TakesReplies zero number old new = new ≡ old
TakesReplies (suc count) number old new = (mid : SessionState) × TakesReply number old mid × TakesReplies count number mid new

-- The session learns this, and goes on by itself.
pub record LearnsThen (MayJoin : Table → Address → Type 0) (HowTable : Table → Table → Type 0) (HowPeers : Peers → Peers → Type 0)
    (HowAsks : List Address → Asks → Asks → Type 0) (old new : SessionState) : Type 0 where
  pub wiser : SessionState
  pub learns : Learns MayJoin HowTable HowPeers HowAsks old wiser
  pub leads : Leads wiser new

-- What was taken on this link is noted: the session learns of it, and goes on by itself.
abbrev pub Notes : ℕ → Took → SessionState → SessionState → Type 0
Notes number took old new =
    LearnsThen (JoinsTook old number took) (LearnsTook old number took) (ReadiesTook number took) (SendsTook old number took) old new

-- Replies are taken on this link, and then the session goes on by itself.
pub record TakesAll (number : ℕ) (old new : SessionState) : Type 0 where
  pub count : ℕ
  pub mid : SessionState
  pub takes : TakesReplies count number old mid
  pub leads : Leads mid new

-- These bytes were read on an open link.
pub record Hears (number : ℕ) (bytes : List ℕ) (old new : SessionState) : Type 0 where
  pub mid : SessionState
  pub hears : Does (On number (link.Hear bytes)) old mid
  pub takes : TakesAll number mid new

-- Memory ran out after some bytes were read on an open link. If it ran out for these, the link is broken.
abbrev pub HearsNot : ℕ → List ℕ → SessionState → SessionState → Type 0
HearsNot number bytes old new = Hears number bytes old new ⊎ Does (On number link.Miss) old new

-- Parts may be asked on the link now, if this reply to its login is no error. Nothing else changes.
pub record Hails (number : ℕ) (reply : List ℕ) (old new : SessionState) : Type 0 where
  pub peers : Readies number reply old.peers new.peers ⊎ (new.peers ≡ old.peers)
  pub others : new ≡ record old { peers = new.peers }

-- The link has this peer now, or none. Nothing else changes.
pub record SetsPeerOf (number : ℕ) (peer : Option Peer) (old new : SessionState) : Type 0 where
  pub peers : SetsPeer number peer old.peers new.peers
  pub others : new ≡ record old { peers = new.peers }

-- The peer of the link may have changed. Nothing else changes.
pub record ChangesPeer (number : ℕ) (old new : SessionState) : Type 0 where
  pub peers : (other : ℕ) → other ≢ number → peer_at other new.peers ≡ peer_at other old.peers
  pub others : new ≡ record old { peers = new.peers }

-- The connection of a link ended, if there was one. The link has no peer then, and the session goes on by itself.
pub record Ends (number : ℕ) (old new : SessionState) : Type 0 where
  pub mid : SessionState
  pub ends : IsConnected old number → Happens old.machine (On number link.End) mid.machine
  pub none : (IsConnected old number → ⊥) → mid.machine ≡ old.machine
  pub others : mid ≡ record old { machine = mid.machine }
  pub alone : SessionState
  pub leaves : SetsPeerOf number None mid alone
  pub leads : Leads alone new

-- A link was opened. No reply on it may be longer than the settings say.
abbrev pub IsOpened : ℕ → SessionState → SessionState → Type 0
IsOpened number old new = Does (Open number old.settings.most_reply_bytes) old new

-- The link begins with the login, if there is one.
abbrev pub AsksLogin : ℕ → SessionState → SessionState → Type 0
AsksLogin number old new = ((old.settings.login ≡ []) × (new ≡ old))
    ⊎ Does (On number (link.Put ((Login, old.settings.login) ∷ []))) old new

-- The link is one to this node. Parts may be asked on it at once, or it begins with the login, if there is one.
pub record BeginsLink (number node : ℕ) (old new : SessionState) : Type 0 where
  pub joint : SessionState
  pub joins : SetsPeerOf number (Some (record { node = node; is_ready = length old.settings.login == 0 })) old joint
  pub asks : AsksLogin number joint new

-- A link to this node was opened. Then the session goes on by itself.
pub record Opens (number node : ℕ) (old new : SessionState) : Type 0 where
  pub mid : SessionState
  pub opened : IsOpened number old mid
  pub ready : SessionState
  pub begins : BeginsLink number node mid ready
  pub leads : Leads ready new

-- A link was opened and ended again, or nothing changed.
abbrev pub ConnectsNot : SessionState → SessionState → Type 0
ConnectsNot old new =
    ((number : ℕ) × (mid : SessionState) × IsOpened number old mid × Ends number mid new) ⊎ (new ≡ old)

-- A call begins with these parts and this deadline. Each other call has the rule that it had, and the deadline if it is
-- still there. Nothing else changes but how much is kept.
pub record AddsCall (call caller deadline : ℕ) (parts : List PartState) (old new : SessionState) : Type 0 where
  pub happens : Happens old.machine (Begin call caller parts) new.machine
  pub keep_rules : KeepOthers call old.rules new.rules
  pub deadlines : Forgets new.machine (old.deadlines ++ (call, deadline) ∷ []) new.deadlines
  pub others : new ≡ record old { machine = new.machine; rules = new.rules; deadlines = new.deadlines; load = new.load }

-- why a session refuses a request
abbrev pub IsRefused : SessionState → List ℕ → CallRefusal → Type 0
IsRefused s request refusal =
    ((refusal ≡ Limit) × (HasRoom s.settings.most_calls s.settings.most_bytes (length request) s.load → ⊥))
    ⊎ IsCallRefused (names s) s.settings.added request refusal

-- A call of this caller begins, and has this number. It asks what the request asks, and its reply is to be made so. Its
-- parts are not told late before this deadline.
pub record BeginsCall (caller : ℕ) (request : List ℕ) (deadline call : ℕ) (old new : SessionState) : Type 0 where
  pub mid : SessionState
  pub parts : List PartState
  pub room : HasRoom old.settings.most_calls old.settings.most_bytes (length request) old.load
  pub adds : AddsCall call caller deadline parts old mid
  pub load : mid.load ≡ heavier (length request) old.load
  pub errand : IsErrand old.directory old.settings request (rule_in mid.rules call) parts
  pub leads : Leads mid new

-- Each part of a call is done, or its time is over.
abbrev pub IsInTime : ℕ → SessionState → Type 0
IsInTime call s = (state : CallState) → call_at call s.machine ≡ Some state
    → (list_all (λ p. is_done p.phase) state.parts ≡ true) ⊎ (is_over (deadline_of call s.deadlines) s.now ≡ true)

-- No part of a call waits to be asked.
abbrev pub WaitsForNothing : ℕ → State → Type 0
WaitsForNothing call s = (state : CallState) → call_at call s ≡ Some state
    → list_all (λ p. not (is_waiting p.phase)) state.parts ≡ true

-- The reply to this call may go to this caller.
pub record MayGive (caller call : ℕ) (s : SessionState) : Type 0 where
  pub state : CallState
  pub may : MayFinish call state s.machine
  pub caller_is : state.caller ≡ caller
  pub in_time : IsInTime call s

-- The session gives this caller the reply to this call. Its turn has come: the caller is owed no reply to an earlier
-- call. Each part is done, or the time of the call is over. The bytes of the reply are those that the call's own rule makes of the answers to its own parts.
pub record Finishes (caller call : ℕ) (old new : SessionState) : Type 0 where
  pub state : CallState
  pub given : Happens old.machine (Finish call state) new.machine
  pub caller_is : state.caller ≡ caller
  pub in_time : IsInTime call old
  pub reply_is : IsReplyTo (names old) (rule_in old.rules call) state.parts (last_reply new)
  pub others : new ≡ record old { machine = new.machine; rules = without call old.rules; given = new.given }

-- The last reply is forgotten. After steps of its own, the session gives this caller the reply to this call.
pub record GivesReply (caller call : ℕ) (old new : SessionState) : Type 0 where
  pub mid : SessionState
  pub leads : Leads (without_reply old) mid
  pub finishes : Finishes caller call mid new

-- A call that is owed its reply is given up, and its rule is forgotten. Then the session goes on by itself.
pub record GivesUp (call : ℕ) (old new : SessionState) : Type 0 where
  pub state : CallState
  pub there : call_at call old.machine ≡ Some state
  pub wanted : state.is_wanted ≡ true
  pub mid : SessionState
  pub happens : Happens old.machine (GiveUp call) mid.machine
  pub others : mid ≡ record old { machine = mid.machine; rules = without call old.rules }
  pub leads : Leads mid new
