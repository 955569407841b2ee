-- What calls of a session answer.
use Rattle.std.specs.Prelude.{◌≡◌, Some, ℕ, List}
use Rattle.session_core.specs.declared.link.Ticket.TheVariants as ticket
use Rattle.session_core.specs.LinkEvents as link
use Rattle.session_core.specs.State.{State, CallState, Happens, On, part_at}
use Rattle.session_core.specs.Part.{PartState}
use Rattle.session_machine.specs.Part.{Keeps}
use Rattle.session_machine.specs.Calls.{KeepsAt, ReturnsAt}
use Rattle.session_machine.specs.declared.took.Took.{Took}
use Rattle.session_machine.specs.declared.took.Took.TheVariants.{Nothing, Kept, Back, Login, Map, Asking, Broken}
use Rattle.session_machine.specs.Links.{HasNoReply}

-- this part keeps this reply now
abbrev pub IsKeptIn : (call part : ℕ) → List ℕ → State → Type 0
IsKeptIn call part reply s = (p : PartState) × (part_at call part s ≡ Some p) × Keeps reply p.phase

abbrev pub IsTook : ℕ → State → Took → State → Type 0
IsTook number old Nothing new = HasNoReply number old.links × (new ≡ old)
IsTook number old (Kept seat) new = (reply : List ℕ)
    × Happens old (On number (link.Take (ticket.Part seat.call seat.part) reply)) new
    × IsKeptIn seat.call seat.part reply new
IsTook number old (Back seat reply) new =
    Happens old (On number (link.Take (ticket.Part seat.call seat.part) reply.items)) new
    × (IsKeptIn seat.call seat.part reply.items new → ⊥)
IsTook number old (Login reply) new = Happens old (On number (link.Take ticket.Login reply.items)) new
IsTook number old (Map count reply) new = Happens old (On number (link.Take (ticket.Map count) reply.items)) new
IsTook number old (Asking reply) new = Happens old (On number (link.Take ticket.Asking reply.items)) new
IsTook number old (Broken cause) new = Happens old (On number (link.Break cause)) new

-- The part keeps the reply, or hands it out.
abbrev pub IsTold : (call part : ℕ) → List ℕ → (first : ℕ) → (old new : List CallState) → Took → Type 0
IsTold call part reply first old new (Kept seat) =
    (seat ≡ record { call = call; part = part }) × KeepsAt call part reply first new
IsTold call part reply first old new (Back seat back) =
    (seat ≡ record { call = call; part = part }) × (back.items ≡ reply)
    × ReturnsAt call part reply first old
IsTold call part reply first old new other = ⊥
