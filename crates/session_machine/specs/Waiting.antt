-- A part that waits to be asked.
use Rattle.std.specs.Prelude.{◌≡◌, ◌<◌, ℕ, true, false, List, Some, slice_get}
use Rattle.session_core.specs.Part.{PartState, is_waiting, is_done}
use Rattle.session_core.specs.State.{State, CallState, Has, IsPassed}
use Rattle.session_machine.specs.Ties.{is_ordered}
use Rattle.session_core.specs.declared.part.PartOrder.TheVariants.{OfSlot}
use Rattle.session_machine.specs.Calls.{call_in}

pub record WaitsThere (first call part : ℕ) (calls : List CallState) (state : CallState) (p : PartState) : Type 0 where
  pub call_is : call_in call first calls ≡ Some state
  pub part_is : slice_get state.parts part ≡ Some p
  pub waits : is_waiting p.phase ≡ true

-- This part of a caller and slot waits, and one of a later call is settled.
pub record IsOvertakenOn (caller slot call part : ℕ) (s : State) : Type 0 where
  pub passed : IsPassed s call part
  pub caller_is : passed.caller ≡ caller
  pub slot_is : passed.it.order ≡ OfSlot slot
  pub waits : is_waiting passed.it.phase ≡ true

-- A part of an earlier call of its caller is not done, and neither call is free of the order.
pub record IsHeldBack (call : ℕ) (s : State) : Type 0 where
  pub caller : ℕ
  pub part : ℕ
  pub it : PartState
  pub has : Has s caller call part it
  pub ordered : is_ordered it.order ≡ true
  pub earlier : ℕ
  pub earlier_part : ℕ
  pub other : PartState
  pub has_earlier : Has s caller earlier earlier_part other
  pub is_earlier : earlier < call
  pub earlier_ordered : is_ordered other.order ≡ true
  pub undone : is_done other.phase ≡ false
