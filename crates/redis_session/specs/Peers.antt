-- The nodes at the other ends of links.
use Rattle.std.specs.Prelude.{◌≡◌, ◌≢◌, ℕ, true, List, Option, None, Some, slice_get}
use Rattle.redis_session.specs.declared.peers.Peer.{Peer}

-- by the numbers of the links, with gaps
abbrev pub Peers : Type 0
Peers = List (Option Peer)

abbrev pub peer_in : Option (Option Peer) → Option Peer
peer_in (Some peer) = peer
peer_in None = None

-- the node at the other end of a link, if it is known
abbrev pub peer_at : ℕ → Peers → Option Peer
peer_at link peers = peer_in (slice_get peers link)

-- parts may be asked there now
abbrev pub made_ready : Option Peer → Option Peer
made_ready (Some peer) = Some (record peer { is_ready = true })
made_ready None = None

-- The link is one to this node, and parts may be asked there.
abbrev pub IsReadyTo : ℕ → ℕ → Peers → Type 0
IsReadyTo node link peers = peer_at link peers ≡ Some (record { node = node; is_ready = true })

-- The link has this peer, or none. Each other link has the one that it had.
pub record SetsPeer (link : ℕ) (peer : Option Peer) (old new : Peers) : Type 0 where
  pub is : peer_at link new ≡ peer
  pub others : (other : ℕ) → other ≢ link → peer_at other new ≡ peer_at other old
