-- How the parts of calls stand in the orders of their callers, and which replies callers are owed.
use Rattle.std.specs.Prelude.{◌≡◌, ◌≢◌, ◌+◌, ◌<◌, ◌≤◌, ◌==◌, ◌&&◌, ℕ, Bool, true, false, if◌then◌else◌, List, length, nat_lt, nat_le, Some, slice_get, [], option_map}
use Rattle.std.specs.List.{list_any}
use Rattle.session_core.specs.declared.ordered_part.OrderedPart.{OrderedPart}
use Rattle.session_core.specs.declared.ordered_part.Status.{Status}
use Rattle.session_core.specs.declared.ordered_part.Status.TheVariants as status
use Rattle.session_core.specs.declared.part.PartOrder.{PartOrder}
use Rattle.session_core.specs.declared.part.PartOrder.TheVariants.{Free}
use Rattle.session_core.specs.Order.{Order, ordered_at, is_done}
use Rattle.session_core.specs.Part.{Phase, PartState, Waits, Asked, Answered, Lost, Refused, Unsent}
use Rattle.session_core.specs.Part.{is_done as part_done}
use Rattle.session_core.specs.State.{State, CallState, Event, Begin, Leave, Trim, Has, Run, start, call_at}

-- the status of a part in the order of its caller
abbrev pub status_of : Phase → Status
status_of (Waits left) = status.Waits
status_of (Asked link left) = status.Asked link
status_of (Answered reply) = status.Settled
status_of Lost = status.Settled
status_of (Refused error) = status.Unsent
status_of (Unsent cause) = status.Unsent

-- it has an order with parts of other calls
abbrev pub is_ordered : PartOrder → Bool
is_ordered Free = false
is_ordered other = true

-- each of these parts is ordered
abbrev pub AreOrdered : List PartState → Type 0
AreOrdered parts = (i : ℕ) (p : PartState) → slice_get parts i ≡ Some p → is_ordered p.order ≡ true

-- none of them is
abbrev pub AreFree : List PartState → Type 0
AreFree parts = (i : ℕ) (p : PartState) → slice_get parts i ≡ Some p → is_ordered p.order ≡ false

-- a part of a call, as the order of its caller has it
abbrev pub ordered_part : (call part : ℕ) → PartState → OrderedPart
ordered_part call part p = record {
  seat = record { call = call; part = part };
  order = p.order;
  status = status_of p.phase;
}

-- the place of the next part that joins
abbrev pub end_of : Order → ℕ
end_of order = order.first + length order.parts

-- The parts of each call stand in the order of its caller, those of call `n` from the place `places n` on.
pub record AreTied (s : State) (places : ℕ → ℕ) (orders : ℕ → Order) : Type 0 where
  -- what was forgotten there is done
  pub forgotten : (caller call part : ℕ) (p : PartState) → Has s caller call part p → is_ordered p.order ≡ true
      → places call + part < (orders caller).first → part_done p.phase ≡ true
  pub stands : (caller call part : ℕ) (p : PartState) → Has s caller call part p → is_ordered p.order ≡ true
      → (orders caller).first ≤ places call + part
      → ordered_at (places call + part) (orders caller) ≡ Some (ordered_part call part p)
  -- nothing else stands there
  pub comes : (caller at : ℕ) (x : OrderedPart) → ordered_at at (orders caller) ≡ Some x
      → (p : PartState) × Has s caller x.seat.call x.seat.part p × (x ≡ ordered_part x.seat.call x.seat.part p)
      × (is_ordered p.order ≡ true) × (at ≡ places x.seat.call + x.seat.part)
  -- the parts of earlier calls stand first
  pub rising : (caller first second i j : ℕ) (p q : PartState) → first < second
      → Has s caller first i p → Has s caller second j q → is_ordered p.order ≡ true → is_ordered q.order ≡ true
      → places first + i < places second + j
  -- each part of a call is ordered, or none is
  pub alike : (caller call i j : ℕ) (p q : PartState) → Has s caller call i p → Has s caller call j q
      → is_ordered p.order ≡ is_ordered q.order

-- Events led to this state.
abbrev pub IsReached : State → Type 0
IsReached s = (events : List Event) × Run start events s

-- The event begins no call and forgets none: it changes phases, links, or whether a call is wanted.
abbrev pub IsSteady : Event → Type 0
IsSteady (Begin call caller parts) = ⊥
IsSteady (Leave call) = ⊥
IsSteady Trim = ⊥
IsSteady other = Unit {0}

-- ---- how statuses change, by their places

-- no status changes
abbrev pub keeps : ℕ → Status → Status
keeps at old = old

-- the part at a place gets this status
abbrev pub gets : (place : ℕ) → Status → ℕ → Status → Status
gets place new at old = if at == place then new else old

-- of so many parts from this place on, those that wait are not asked any more
abbrev pub given_up : (place count : ℕ) → ℕ → Status → Status
given_up place count at status.Waits =
    if nat_le place at && nat_lt at (place + count) then status.Unsent else status.Waits
given_up place count at (status.Asked link) = status.Asked link
given_up place count at status.Settled = status.Settled
given_up place count at status.Unsent = status.Unsent

-- this part, where its status changes so
abbrev pub restated : (Status → Status) → OrderedPart → OrderedPart
restated change x = record x { status = change x.status }

-- how the status of the part at each place changes, in an order whose front may be forgotten
pub record OrderGoes (change : ℕ → Status → Status) (old new : Order) : Type 0 where
  pub end : end_of new ≡ end_of old
  pub first : old.first ≤ new.first
  pub gone : (at : ℕ) (x : OrderedPart) → at < new.first → ordered_at at old ≡ Some x → is_done (change at x.status) ≡ true
  pub kept : (at : ℕ) → new.first ≤ at
      → ordered_at at new ≡ option_map (restated (change at)) (ordered_at at old)

-- ---- which replies a caller is owed, by the numbers of its calls

abbrev pub no_owed : List ℕ
no_owed = []

-- the reply to this call is owed
abbrev pub is_owed : ℕ → List ℕ → Bool
is_owed call owed = list_any (λ number. number == call) owed

-- The reply to this call is owed now, or is not. The others are owed as before.
pub record Owes (old new : List ℕ) (call : ℕ) (now : Bool) : Type 0 where
  pub here : is_owed call new ≡ now
  pub others : (other : ℕ) → other ≢ call → is_owed other new ≡ is_owed other old

-- The reply to this call is owed, and none to an earlier one.
pub record IsFirstOwed (call : ℕ) (owed : List ℕ) : Type 0 where
  pub is : is_owed call owed ≡ true
  pub least : (other : ℕ) → is_owed other owed ≡ true → call ≤ other

-- A caller is owed a reply to each of its calls that is wanted, and to no other.
pub record AreOwed (s : State) (owed : ℕ → List ℕ) : Type 0 where
  pub wanted : (call : ℕ) (state : CallState) → call_at call s ≡ Some state → state.is_wanted ≡ true
      → is_owed call (owed state.caller) ≡ true
  pub comes : (caller call : ℕ) → is_owed call (owed caller) ≡ true
      → (state : CallState) × (call_at call s ≡ Some state) × (state.caller ≡ caller) × (state.is_wanted ≡ true)
