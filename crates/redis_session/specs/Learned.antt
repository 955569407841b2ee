-- What a session learns of the nodes that serve slots, and of whom.
use Rattle.std.specs.Prelude.{◌≡◌, ◌⊎◌, ◌++◌, ℕ, true, false, List, [], Option, None, Some, Result, Ok, Contains, Bool, codes, nat_eq, slice_get}
use Rattle.std.specs.List.{starts_with}
use Rattle.resp.specs.Forms.{crlf}
use Rattle.resp_core.specs.Reply.{Reply}
use Rattle.cluster_slots.specs.Address.{Address}
use Rattle.cluster_map.specs.EachOnce.{all_nodes_in}
use Rattle.cluster_map.specs.ReplyNode.{entries_in}
use Rattle.redis_routing.specs.RedirectText.{IsRedirectText}
use Rattle.redis_routing.specs.declared.info.Redirect.{Redirect}
use Rattle.redis_routing.specs.declared.info.Redirect.TheVariants.{Ask, Moved}
use Rattle.redis_bytes.specs.Replies.{IsReply}
use Rattle.session_core.specs.declared.link.Ticket.{Ticket}
use Rattle.session_core.specs.declared.link.Ticket.TheVariants.{Login, Map, Part}
use Rattle.session_core.specs.declared.part.PartOrder.TheVariants.{OfSlot}
use Rattle.session_core.specs.declared.ordered_part.Seat.{Seat}
use Rattle.session_core.specs.Part.{PartState, Refused, is_refusal, is_waiting}
use Rattle.session_core.specs.State.{State, part_at}
use Rattle.session_machine.specs.declared.took.Took.{Took}
use Rattle.session_machine.specs.declared.took.Took.TheVariants as took
use Rattle.redis_session.specs.Asks.{Asks, SetsAsk, asked_node}
use Rattle.redis_session.specs.Directory.{Grows}
use Rattle.redis_session.specs.Peers.{Peers, SetsPeer, peer_at}
use Rattle.redis_session.specs.SessionStates.{SessionState}
use Rattle.redis_session.specs.SplitReplies.{is_error}
use Rattle.redis_session.specs.declared.peers.Peer.{Peer}
use Rattle.redis_session.specs.Table.{IsUsable, LearnsMap, LearnsMoved, Table}

abbrev pub host_in : Option Address → List ℕ
host_in (Some address) = address.host
host_in None = []

abbrev pub host_of : Option Peer → List Address → List ℕ
host_of (Some peer) nodes = host_in (slice_get nodes peer.node)
host_of None nodes = []

-- the host of the node at the other end of a link
abbrev pub host_at : ℕ → SessionState → List ℕ
host_at link s = host_of (peer_at link s.peers) s.directory.nodes

-- The error sends a part of this slot on: `-MOVED 3300 n3:1`. The host may be left out, as in `-MOVED 3300 :1`. Then it is
-- that of the node that answered.
abbrev pub IsRedirectIn : (answering reply : List ℕ) → ℕ → Redirect → Type 0
IsRedirectIn answering reply slot redirect =
    (text : List ℕ) × (reply ≡ codes "-" ++ (text ++ crlf)) × IsRedirectText answering text slot redirect

-- The part is of this slot, and its node refused to run it by a reply that sends it on.
pub record SendsOn (answering : List ℕ) (it : PartState) (reply : List ℕ) (slot : ℕ) (redirect : Redirect) : Type 0 where
  pub slot_is : it.order ≡ OfSlot slot
  pub refused : is_refusal it reply ≡ true
  pub told : IsRedirectIn answering reply slot redirect

-- the address that a redirect names
abbrev pub address_of : Redirect → Address
address_of (Moved node) = node
address_of (Ask node) = node

-- A part was refused by this reply, which names this node. The session may come to know it.
pub record JoinsRedirect (answering : List ℕ) (call part : ℕ) (reply : List ℕ) (s : State) (table : Table) (node : Address) : Type 0 where
  pub it : PartState
  pub part_is : part_at call part s ≡ Some it
  pub slot : ℕ
  pub redirect : Redirect
  pub sent : SendsOn answering it reply slot redirect
  pub named : address_of redirect ≡ node

-- A part was refused by this reply, which names the node that its slot has for good. The table learns it, for no other
-- slot.
pub record LearnsRedirect (answering : List ℕ) (call part : ℕ) (reply : List ℕ) (s : State) (old new : Table) : Type 0 where
  pub it : PartState
  pub part_is : part_at call part s ≡ Some it
  pub slot : ℕ
  pub node : Address
  pub sent : SendsOn answering it reply slot (Moved node)
  pub learns : LearnsMoved slot node old new

-- A part was refused by this reply, which sends it to a node once. The session notes that, of no other part.
pub record SendsRedirect (answering : List ℕ) (call part : ℕ) (reply : List ℕ) (s : State) (nodes : List Address) (old new : Asks) : Type 0 where
  pub it : PartState
  pub part_is : part_at call part s ≡ Some it
  pub slot : ℕ
  pub address : Address
  pub sent : SendsOn answering it reply slot (Ask address)
  pub node : ℕ
  pub node_is : slice_get nodes node ≡ Some address
  pub sends : SetsAsk call part (Some node) old new

-- a part was refused by this reply, which may send it to a node once
abbrev pub MaySend : (answering : List ℕ) → (call part : ℕ) → List ℕ → State → List Address → Asks → Asks → Type 0
MaySend answering call part reply s nodes old new = SendsRedirect answering call part reply s nodes old new ⊎ (new ≡ old)

abbrev pub says_moved : List ℕ → Bool
says_moved reply = starts_with nat_eq reply (codes "-MOVED ")

-- A reply to this part was taken. It may send the part to a node once, or the session may forget where it was sent. After
-- a `MOVED`, a part that waits again is sent nowhere, so it is asked at the node of its slot.
pub record SendsOrForgets (answering : List ℕ) (call part : ℕ) (reply : List ℕ) (s : State) (nodes : List Address) (old new : Asks) : Type 0 where
  pub asks : SendsRedirect answering call part reply s nodes old new ⊎ SetsAsk call part None old new ⊎ (new ≡ old)
  pub moved : (it : PartState) → part_at call part s ≡ Some it → is_waiting it.phase ≡ true → says_moved reply ≡ true
      → asked_node call part new ≡ None

-- The reply has a usable map, which was asked for after so many `MOVED` were learned. The table learns it. A host
-- that the reply leaves out is that of the node that answered.
pub record LearnsReply (asked : ℕ) (answering reply : List ℕ) (old new : Table) : Type 0 where
  pub said : Reply
  pub said_is : IsReply said reply
  pub usable : IsUsable (entries_in answering said)
  pub learns : LearnsMap asked (entries_in answering said) old new

-- the map has this node
abbrev pub IsInMap : Table → Address → Type 0
IsInMap table node = Contains (all_nodes_in table.map) node

-- The session may come to know this node by the reply for this ticket, which came on this link. The table is the one
-- that it has then.
abbrev pub JoinsOf : SessionState → ℕ → Ticket → List ℕ → Table → Address → Type 0
JoinsOf s link (Map asked) reply table node = IsInMap table node
JoinsOf s link (Part call part) reply table node = JoinsRedirect (host_at link s) call part reply s.machine table node
JoinsOf s link other reply table node = ⊥

-- what a table learns of the reply for this ticket, which came on this link
abbrev pub LearnsOf : SessionState → ℕ → Ticket → List ℕ → Table → Table → Type 0
LearnsOf s link (Map asked) reply old new = LearnsReply asked (host_at link s) reply old new
LearnsOf s link (Part call part) reply old new = LearnsRedirect (host_at link s) call part reply s.machine old new
LearnsOf s link other reply old new = ⊥

-- Parts may be asked on the link now, since the reply to its login is no error.
pub record Readies (link : ℕ) (reply : List ℕ) (old new : Peers) : Type 0 where
  pub peer : Peer
  pub peer_is : peer_at link old ≡ Some peer
  pub accepted : is_error reply ≡ false
  pub sets : SetsPeer link (Some (record peer { is_ready = true })) old new

-- what becomes of the peers with the reply for this ticket on this link
abbrev pub ReadiesOf : ℕ → Ticket → List ℕ → Peers → Peers → Type 0
ReadiesOf link Login reply old new = Readies link reply old new
ReadiesOf link other reply old new = ⊥

-- where a part is sent with the reply for this ticket, which came on this link
abbrev pub SendsOf : SessionState → ℕ → Ticket → List ℕ → List Address → Asks → Asks → Type 0
SendsOf s link (Part call part) reply nodes old new = SendsOrForgets (host_at link s) call part reply s.machine nodes old new
SendsOf s link other reply nodes old new = new ≡ old

-- The session may come to know nodes that may join by the new table. The table learns this and the peers change so, or
-- they stay. Parts are sent so. Nothing else changes.
pub record Learns (MayJoin : Table → Address → Type 0) (HowTable : Table → Table → Type 0) (HowPeers : Peers → Peers → Type 0)
    (HowAsks : List Address → Asks → Asks → Type 0) (old new : SessionState) : Type 0 where
  pub nodes : Grows (MayJoin new.directory.table) old.directory.nodes new.directory.nodes
  pub table : HowTable old.directory.table new.directory.table ⊎ (new.directory.table ≡ old.directory.table)
  pub peers : HowPeers old.peers new.peers ⊎ (new.peers ≡ old.peers)
  pub asks : HowAsks new.directory.nodes old.asks new.asks
  pub others : new ≡ record old { directory = new.directory; peers = new.peers; asks = new.asks }

-- ---- as functions take it

abbrev pub NoPeers : Peers → Peers → Type 0
NoPeers old new = ⊥

abbrev pub NoAsks : List Address → Asks → Asks → Type 0
NoAsks nodes old new = new ≡ old

-- the session may come to know nodes of the map, and the table learns this or stays
abbrev pub Sets : (Table → Table → Type 0) → SessionState → SessionState → Type 0
Sets How old new = Learns IsInMap How NoPeers NoAsks old new

-- a part was refused by this reply, which the session learns
abbrev pub IsSentOn : (link call part : ℕ) → List ℕ → SessionState → SessionState → Type 0
IsSentOn link call part reply old new = Learns (JoinsRedirect (host_at link old) call part reply old.machine)
    (LearnsRedirect (host_at link old) call part reply old.machine) NoPeers
    (MaySend (host_at link old) call part reply old.machine) old new

-- After a `MOVED`, this part is sent nowhere. Else the session may forget where it was sent. Nothing else changes.
pub record ForgetsAsk (call part : ℕ) (reply : List ℕ) (old new : SessionState) : Type 0 where
  pub asks : SetsAsk call part None old.asks new.asks ⊎ (new.asks ≡ old.asks)
  pub moved : says_moved reply ≡ true → asked_node call part new.asks ≡ None
  pub others : new ≡ record old { asks = new.asks }

-- the node to which a part is sent on
abbrev pub JoinsTold : {E : Type 0} → Result (Option (ℕ × Redirect)) E → Table → Address → Type 0
JoinsTold told table node =
    (slot : ℕ) × (redirect : Redirect) × (told ≡ Ok (Some (slot, redirect))) × (address_of redirect ≡ node)

-- where a part is sent on, as the table learns it
abbrev pub LearnsTold : {E : Type 0} → Result (Option (ℕ × Redirect)) E → Table → Table → Type 0
LearnsTold told old new =
    (slot : ℕ) × (node : Address) × (told ≡ Ok (Some (slot, Moved node))) × LearnsMoved slot node old new

-- where a part is sent once, if the session notes it
abbrev pub SendsTold : {E : Type 0} → Seat → Result (Option (ℕ × Redirect)) E → List Address → Asks → Asks → Type 0
SendsTold seat told nodes old new = ((slot : ℕ) × (address : Address) × (told ≡ Ok (Some (slot, Ask address)))
    × (node : ℕ) × (slice_get nodes node ≡ Some address) × SetsAsk seat.call seat.part (Some node) old new) ⊎ (new ≡ old)

-- the part was refused by a reply that it keeps, which names this node
abbrev pub JoinsKept : (answering : List ℕ) → Seat → State → Table → Address → Type 0
JoinsKept answering seat s table node = (reply : List ℕ) × (p : PartState) × (part_at seat.call seat.part s ≡ Some p)
    × (p.phase ≡ Refused reply) × JoinsRedirect answering seat.call seat.part reply s table node

-- the part was refused by a reply that it keeps, which the table learns
abbrev pub LearnsKept : (answering : List ℕ) → Seat → State → Table → Table → Type 0
LearnsKept answering seat s old new = (reply : List ℕ) × (p : PartState) × (part_at seat.call seat.part s ≡ Some p)
    × (p.phase ≡ Refused reply) × LearnsRedirect answering seat.call seat.part reply s old new

-- the part was refused by a reply that it keeps, which may send it to a node once
abbrev pub SendsKept : (answering : List ℕ) → Seat → State → List Address → Asks → Asks → Type 0
SendsKept answering seat s nodes old new = ((reply : List ℕ) × (p : PartState) × (part_at seat.call seat.part s ≡ Some p)
    × (p.phase ≡ Refused reply) × SendsRedirect answering seat.call seat.part reply s nodes old new) ⊎ (new ≡ old)

-- which nodes the session may come to know by what was taken on this link
abbrev pub JoinsTook : SessionState → ℕ → Took → Table → Address → Type 0
JoinsTook s link (took.Kept seat) table node = JoinsKept (host_at link s) seat s.machine table node
JoinsTook s link (took.Back seat reply) table node =
    JoinsRedirect (host_at link s) seat.call seat.part reply.items s.machine table node
JoinsTook s link (took.Map asked reply) table node = IsInMap table node
JoinsTook s link other table node = ⊥

-- what the table learns of what was taken on this link
abbrev pub LearnsTook : SessionState → ℕ → Took → Table → Table → Type 0
LearnsTook s link (took.Kept seat) old new = LearnsKept (host_at link s) seat s.machine old new
LearnsTook s link (took.Back seat reply) old new =
    LearnsRedirect (host_at link s) seat.call seat.part reply.items s.machine old new
LearnsTook s link (took.Map asked reply) old new = LearnsReply asked (host_at link s) reply.items old new
LearnsTook s link other old new = ⊥

-- what becomes of the peers with what was taken on this link
abbrev pub ReadiesTook : ℕ → Took → Peers → Peers → Type 0
ReadiesTook link (took.Login reply) old new = Readies link reply.items old new
ReadiesTook link other old new = ⊥

-- where parts are sent with what was taken on this link
abbrev pub SendsTook : SessionState → ℕ → Took → List Address → Asks → Asks → Type 0
SendsTook s link (took.Kept seat) nodes old new = SendsKept (host_at link s) seat s.machine nodes old new
SendsTook s link (took.Back seat reply) nodes old new =
    SendsOrForgets (host_at link s) seat.call seat.part reply.items s.machine nodes old new
SendsTook s link other nodes old new = new ≡ old
