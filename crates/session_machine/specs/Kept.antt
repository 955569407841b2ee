-- What a session keeps besides its state.
use Rattle.std.specs.Prelude.{◌≡◌, ◌+◌, ◌-◌, ◌^◌, ◌<◌, ◌≤◌, ℕ, true, false, List, length, Option, Some, slice_get}
use Rattle.session_core.specs.declared.ordered_part.Status.{Status}
use Rattle.session_core.specs.declared.ordered_part.Status.TheVariants.{Asked}
use Rattle.session_core.specs.declared.part.PartOrder.{PartOrder}
use Rattle.session_core.specs.Order.{Order, IsOnItsWay}
use Rattle.session_core.specs.Part.{PartState}
use Rattle.session_core.specs.State.{State, CallState, Has, call_at}
use Rattle.session_machine.specs.Calls.{call_in}
use Rattle.session_machine.specs.Ties.{AreTied, AreOwed, IsReached, OrderGoes, gets, given_up, is_ordered, status_of, end_of}
use Rattle.session_machine.specs.declared.caller.CallPlaces.{CallPlaces}
use Rattle.session_machine.specs.declared.callers.Callers.{Callers}
use Rattle.session_machine.specs.Callers.{order_of, owed_of, last_of, OnlyOrder}

-- The number of the last call of each caller of which something is kept.
pub record AreLast (s : State) (places : List CallPlaces) (lasts : ℕ → Option ℕ) : Type 0 where
  -- no later call of it has parts
  pub parts : (caller call part : ℕ) (p : PartState) → Has s caller call part p
      → (last : ℕ) × (lasts caller ≡ Some last) × (call ≤ last)
  -- nor is a later one owed its reply
  pub wanted : (call : ℕ) (state : CallState) → call_at call s ≡ Some state → state.is_wanted ≡ true
      → (last : ℕ) × (lasts state.caller ≡ Some last) × (call ≤ last)
  -- that call was not forgotten: so many callers are kept at most
  pub there : (caller last : ℕ) → lasts caller ≡ Some last
      → (at : CallPlaces) × (s.first ≤ last) × (slice_get places (last - s.first) ≡ Some at) × (at.caller ≡ caller)

-- Events led to the state. Each call stands at its place in the order of its caller. So many parts began in
-- all.
pub record IsKept (s : State) (places : List CallPlaces) (callers : Callers) (began : ℕ) : Type 0 where
  pub order_places : ℕ → ℕ
  pub count : length places ≡ length s.calls
  pub at : (i : ℕ) (p : CallPlaces) → slice_get places i ≡ Some p
      → order_places (s.first + i) ≡ p.order
  pub reached : IsReached s
  pub tied : AreTied s order_places (λ caller. order_of caller callers)
  pub owed : AreOwed s (λ caller. owed_of caller callers)
  pub last : AreLast s places (λ caller. last_of caller callers)
  pub some : (caller call part : ℕ) (p : PartState) → Has s caller call part p → 0 < length p.request
  -- no place wraps
  pub short : (caller : ℕ) → end_of (order_of caller callers) ≤ began
  pub fits : s.first + length s.calls < 2 ^ 64

-- This is the place of the part, if the part is ordered.
abbrev pub IsPlace : (first call part : ℕ) → List CallPlaces → PartOrder → ℕ → Type 0
IsPlace first call part places order place = is_ordered order ≡ true → (at : CallPlaces)
    → slice_get places (call - first) ≡ Some at → place ≡ at.order + part

-- The part was on its way, and is not any more.
pub record CanMove (first call part : ℕ) (places : List CallPlaces) (order : Order) (p : PartState) : Type 0 where
  pub low : first ≤ call
  pub within : call - first < length places
  pub fits : is_ordered p.order ≡ true → (at : CallPlaces) → slice_get places (call - first) ≡ Some at → at.order + part < 2 ^ 64
  pub on_way : (place : ℕ) → IsPlace first call part places p.order place → is_ordered p.order ≡ true → IsOnItsWay place order
  pub moved : (link : ℕ) → status_of p.phase ≡ Asked link → ⊥

-- The part of a caller at a place gets this status, if it is ordered. No other changes.
pub record PartGoes (caller place : ℕ) (order : PartOrder) (st : Status) (old new : Callers) : Type 0 where
  pub ordered : is_ordered order ≡ true → OrderGoes (gets place st) (order_of caller old) (order_of caller new)
  pub free : is_ordered order ≡ false → order_of caller new ≡ order_of caller old
  pub only : OnlyOrder caller old new

-- The order of a caller has what became of this part.
pub record Moved (first call part : ℕ) (places : List CallPlaces) (caller : ℕ) (p : PartState) (old new : Callers) : Type 0 where
  pub place : ℕ
  pub is_place : IsPlace first call part places p.order place
  pub goes : PartGoes caller place p.order (status_of p.phase) old new

-- The parts of a call that wait, at so many places of a caller, are not asked any more, if they are ordered.
pub record CallGoes (caller place count : ℕ) (order : PartOrder) (old new : Callers) : Type 0 where
  pub ordered : is_ordered order ≡ true → OrderGoes (given_up place count) (order_of caller old) (order_of caller new)
  pub free : is_ordered order ≡ false → order_of caller new ≡ order_of caller old
  pub only : OnlyOrder caller old new

-- What the order of its caller has to know of a part that was on its way, which is the one of this number now.
abbrev pub CanFollow : (first call part : ℕ) → List CallState → List CallPlaces → Callers → Type 0
CanFollow first call part calls places callers = (state : CallState) (p : PartState) → call_in call first calls ≡ Some state
    → slice_get state.parts part ≡ Some p → CanMove first call part places (order_of state.caller callers) p

-- The order of its caller has what became of the part.
abbrev pub Follows : (first call part : ℕ) → List CallState → List CallPlaces → (old new : Callers) → Type 0
Follows first call part calls places old new = (state : CallState) (p : PartState) → call_in call first calls ≡ Some state
    → slice_get state.parts part ≡ Some p → Moved first call part places state.caller p old new
