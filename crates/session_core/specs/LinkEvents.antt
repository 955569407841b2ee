-- What happens on a link.
use Rattle.std.specs.Prelude.{◌≡◌, ◌≢◌, ◌+◌, ◌<◌, ◌≤◌, ◌++◌, ℕ, Bool, List, [], ◌∷◌, length, drop, replicate, codes, slice_get, Some}
use Rattle.resp.specs.Forms.{request}
use Rattle.session_core.specs.declared.link.Ticket.{Ticket}
use Rattle.session_core.specs.declared.link.Ticket.TheVariants.{Asking, Part}
use Rattle.session_core.specs.declared.link.Wait.{Wait}
use Rattle.session_core.specs.declared.link.Standing.TheVariants.{Open, Broken, Ended}
use Rattle.session_core.specs.declared.link.BreakCause.{BreakCause}
use Rattle.session_core.specs.Channel.{Channel, Ask, written, is_begun, bytes_of, placed}
use Rattle.session_core.specs.Reply.{IsReply, IsCause, IsFor, BeginsWith}

pub data Event : Type 0 where
  -- these requests are put on the link in one step
  Put : (asks : List Ask) → Event
  -- so many bytes more are written
  Write : (count : ℕ) → Event
  -- these bytes come
  Hear : (bytes : List ℕ) → Event
  -- this reply is taken for what has this ticket
  Take : (ticket : Ticket) → (reply : List ℕ) → Event
  -- what came can be taken by nobody
  Break : (cause : BreakCause) → Event
  -- bytes come that are not kept, as memory ran out
  Miss : Event
  -- the connection ends
  End : Event
  -- what has this ticket gets no reply; some byte of it was written, or none
  Lose : (ticket : Ticket) → (begun : Bool) → Event

-- the request `ASKING`
abbrev pub asking : List ℕ
asking = request (codes "ASKING" ∷ [])

abbrev pub IsPart : Ticket → Type 0
IsPart (Part call part) = Unit {0}
IsPart other = ⊥

-- What is put in one step: one request, or `ASKING` with the part that it is for.
abbrev pub IsStep : List Ask → Type 0
IsStep [] = ⊥
IsStep (ask ∷ []) = (ask.0 ≢ Asking) × (0 < length ask.1)
IsStep (ask ∷ next ∷ []) = (ask ≡ (Asking, asking)) × IsPart next.0 × (0 < length next.1)
IsStep (ask ∷ next ∷ third ∷ more) = ⊥

-- A reply for the first that waits has come, all after its request was written to its end.
pub record IsAnswered (c : Channel) (ticket : Ticket) (reply : List ℕ) : Type 0 where
  pub wait : Wait
  pub is_for : IsFor c wait
  pub ticket_is : wait.ticket ≡ ticket
  pub is_open : c.standing ≡ Open
  pub came : BeginsWith c.heard reply
  pub is : IsReply reply
  pub short : length reply ≤ c.most

-- The connection ended, and of the first that waits some byte was written, or none.
pub record IsLost (c : Channel) (ticket : Ticket) (begun : Bool) : Type 0 where
  pub wait : Wait
  pub first : slice_get c.waits 0 ≡ Some wait
  pub ticket_is : wait.ticket ≡ ticket
  pub ended : c.standing ≡ Ended
  pub begun_is : begun ≡ is_begun c wait

-- when this may happen
abbrev pub May : Event → Channel → Type 0
May (Put asks) c = (c.standing ≡ Open) × IsStep asks
May (Write count) c = (c.standing ≢ Ended) × (count ≤ length c.unwritten)
May (Hear bytes) c = c.standing ≡ Open
May (Take ticket reply) c = IsAnswered c ticket reply
May (Break cause) c = (c.standing ≡ Open) × IsCause cause c
May Miss c = c.standing ≡ Open
May End c = c.standing ≢ Ended
May (Lose ticket begun) c = IsLost c ticket begun

-- the link after this
abbrev pub after : Event → Channel → Channel
after (Put asks) c = record c {
  waits = c.waits ++ placed c.given asks;
  given = c.given + length (bytes_of asks);
  unwritten = c.unwritten ++ bytes_of asks;
}
after (Write count) c = record c { unwritten = drop count c.unwritten }
after (Hear bytes) c = record c {
  heard = c.heard ++ bytes;
  written_before = c.written_before ++ replicate (length bytes) (written c);
}
after (Take ticket reply) c = record c {
  waits = drop 1 c.waits;
  heard = drop (length reply) c.heard;
  written_before = drop (length reply) c.written_before;
}
after (Break cause) c = record c { standing = Broken }
after Miss c = record c { standing = Broken }
after End c = record c { standing = Ended }
after (Lose ticket begun) c = record c { waits = drop 1 c.waits }

-- It happens.
pub record Happens (old : Channel) (event : Event) (new : Channel) : Type 0 where
  pub may : May event old
  pub is : new ≡ after event old

-- These happen one after the other, and lead from one state to another.
abbrev pub Run : Channel → List Event → Channel → Type 0
Run old [] new = new ≡ old
Run old (event ∷ events) new = May event old × Run (after event old) events new
