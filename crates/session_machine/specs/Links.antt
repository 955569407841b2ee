-- What happens to the links of a session.
use Rattle.std.specs.Prelude.{◌≡◌, ◌≤◌, ◌⊎◌, ℕ, List, [], Option, Some, length, slice_get}
use Rattle.session_core.specs.declared.link.Taken.{Taken}
use Rattle.session_core.specs.declared.link.Ticket.{Ticket}
use Rattle.session_core.specs.declared.link.Taken.TheVariants.{Nothing, Reply, Broken}
use Rattle.session_core.specs.Channel.{Channel}
use Rattle.session_core.specs.Reply.{IsUnfinished, IsForSome}
use Rattle.session_core.specs.LinkEvents as link
use Rattle.session_core.specs.State.{numbered, link_after, links_for, Open, On, Forget}

-- the link of this number
abbrev pub HasLink : List (Option Channel) → ℕ → Channel → Type 0
HasLink links number c = slice_get links number ≡ Some (Some c)

-- This happens on the link of this number.
pub record HappensOn (number : ℕ) (event : link.Event) (old new : List (Option Channel)) : Type 0 where
  pub channel : Channel
  pub there : HasLink old number channel
  pub may : link.May event channel
  pub is : new ≡ numbered (link_after (On number event)) 0 old

-- A link is opened under this number.
pub record Opens (number most : ℕ) (old new : List (Option Channel)) : Type 0 where
  pub within : number ≤ length old
  pub empty : (c : Channel) → HasLink old number c → ⊥
  pub is : new ≡ numbered (link_after (Open number most)) 0 (links_for (Open number most) old)

-- The number of a link is free again.
abbrev pub Forgets : ℕ → List (Option Channel) → List (Option Channel) → Type 0
Forgets number old new = new ≡ numbered (link_after (Forget number)) 0 old

-- No whole reply has come on this link. Nothing came, or what came is for some request, and is the
-- beginning of a message that can still be short enough.
pub record HasNoReply (number : ℕ) (links : List (Option Channel)) : Type 0 where
  pub channel : Channel
  pub there : HasLink links number channel
  pub came : (channel.heard ≡ []) ⊎ (IsForSome channel × IsUnfinished channel.heard × (length channel.heard ≤ channel.most))

-- A whole reply has come on this link, for the first that waits there.
pub record HasReply (number : ℕ) (links : List (Option Channel)) : Type 0 where
  pub channel : Channel
  pub there : HasLink links number channel
  pub ticket : Ticket
  pub reply : List ℕ
  pub answered : link.IsAnswered channel ticket reply

abbrev pub IsTakenOn : ℕ → List (Option Channel) → Taken → List (Option Channel) → Type 0
IsTakenOn number old Nothing new = HasNoReply number old × (new ≡ old)
IsTakenOn number old (Reply ticket reply) new = HappensOn number (link.Take ticket reply.items) old new
IsTakenOn number old (Broken cause) new = HappensOn number (link.Break cause) old new
