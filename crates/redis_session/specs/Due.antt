-- Which replies are there, and which callers may have one.
use Rattle.std.specs.Prelude.{◌≡◌, ◌≤◌, ◌⊎◌, ℕ, true, Option, None, Some, Contains}
use Rattle.std.specs.List.{list_all}
use Rattle.session_core.specs.declared.link.Ticket.TheVariants.{Part}
use Rattle.session_core.specs.LinkEvents as link
use Rattle.session_core.specs.Part.{is_done}
use Rattle.session_core.specs.State.{CallState, State, Event, On, Begin, GiveUp, End, Finish, IsTurn, call_at}
use Rattle.session_machine.specs.declared.took.Took.{Took}
use Rattle.session_machine.specs.declared.took.Took.TheVariants.{Kept, Back}
use Rattle.redis_session.specs.declared.due.Due.{Due}

-- The reply to this call is there. It is the next one of this caller, and each part of the call is done.
pub record IsDone (caller call : ℕ) (s : State) : Type 0 where
  pub state : CallState
  pub call_is : call_at call s ≡ Some state
  pub caller_is : state.caller ≡ caller
  pub wanted : state.is_wanted ≡ true
  pub turn : IsTurn s caller call
  pub done : list_all (λ p. is_done p.phase) state.parts ≡ true

-- This reply would be found: its caller is in the queue, or the calls from some call on are looked at.
abbrev pub IsNoted : (caller call : ℕ) → Due → Type 0
IsNoted caller call due = Contains due.callers.items caller ⊎ (due.from ≤ call)

-- each reply that is there is found
pub record AreNoted (due : Due) (s : State) : Type 0 where
  pub noted : (caller call : ℕ) → IsDone caller call s → IsNoted caller call due
  pub first : due.first ≤ s.first

-- The call of this number is one of this caller.
abbrev pub IsCallOf : State → (caller call : ℕ) → Type 0
IsCallOf s caller call = (state : CallState) × (call_at call s ≡ Some state) × (state.caller ≡ caller)

-- each reply that is there is found, but maybe those of the caller of this call
pub record AreNotedBut (call : ℕ) (due : Due) (s : State) : Type 0 where
  pub noted : (caller n : ℕ) → IsDone caller n s → IsNoted caller n due ⊎ IsCallOf s caller call
  pub first : due.first ≤ s.first

-- The call that an event is about, if a reply of its caller may be there after the event that was not before.
abbrev pub touched : Event → Option ℕ
touched (On number (link.Take (Part call part) reply)) = Some call
touched (On number (link.Lose (Part call part) begun)) = Some call
touched (Begin call caller parts) = Some call
touched (GiveUp call) = Some call
touched (End call part cause) = Some call
touched (Finish call state) = Some call
touched other = None

-- the call that a reply was taken for
abbrev pub taken_call : Took → Option ℕ
taken_call (Kept seat) = Some seat.call
taken_call (Back seat reply) = Some seat.call
taken_call other = None
