-- How the parts of a caller, the lanes of its slots and its bars belong together.
use Rattle.std.specs.Prelude.{◌≡◌, ◌+◌, ◌-◌, ◌^◌, ◌<◌, ◌≤◌, ◌++◌, ◌==◌, ◌⊎◌, ℕ, true, false, if◌then◌else◌, List, [], ◌∷◌, length, take, drop, Option, None, Some, slice_get}
use Rattle.std.specs.Option.{unwrap_or}
use Rattle.std.specs.Ordering.{nat_cmp}
use Rattle.std.specs.Map.{lookup}
use Rattle.std.specs.BTreeMap.{is_at}
use Rattle.session_core.specs.declared.part.PartOrder.{PartOrder}
use Rattle.session_core.specs.declared.part.PartOrder.TheVariants.{OfSlot, Whole, Free}
use Rattle.session_core.specs.declared.ordered_part.OrderedPart.{OrderedPart}
use Rattle.session_core.specs.declared.ordered_part.Seat.{Seat}
use Rattle.session_core.specs.declared.ordered_part.Status.{Status}
use Rattle.session_core.specs.declared.ordered_part.Status.TheVariants.{Waits, Asked, Settled, Unsent}
use Rattle.session_core.specs.Inner.Lane as lane
use Rattle.session_core.specs.Inner.Lane.{In, Ascends, IsLaneOf}
use Rattle.session_core.specs.Part.{have_slot}
use Rattle.session_core.specs.Order.{Order, ordered_at, MayAskAmong, IsWaiting, IsOnItsWay, is_done, is_effective}

-- lanes with their slots
abbrev pub Lanes : Type 0
Lanes = List (ℕ × lane.Lane)

-- the lane of a slot, which has no open parts if it is not there
abbrev pub lane_of : ℕ → Lanes → lane.Lane
lane_of slot lanes = unwrap_or (lookup (is_at (nat_cmp slot)) lanes) lane.no_lane

-- each lane is the same
abbrev pub AreSame : Lanes → Lanes → Type 0
AreSame old new = (slot : ℕ) → lane_of slot new ≡ lane_of slot old

abbrev pub IsEmpty : lane.Lane → Type 0
IsEmpty l = (l.waiting ≡ []) × (l.asked ≡ [])

-- The lane of this slot, if the order has one, took a step, and is gone if it is empty. The others did not.
pub record Stepped (order : PartOrder) (step : lane.Lane → lane.Lane) (old new : Lanes) : Type 0 where
  pub here : (slot : ℕ) → order ≡ OfSlot slot → (lane_of slot new ≡ step (lane_of slot old))
      ⊎ ((lane_of slot new ≡ lane.no_lane) × IsEmpty (step (lane_of slot old)))
  pub others : (slot : ℕ) → (order ≡ OfSlot slot → ⊥) → lane_of slot new ≡ lane_of slot old

-- The parts stand in the order of their calls. Parts of one call have different slots, and none is free.
pub record IsSorted (order : Order) : Type 0 where
  pub calls : (at after : ℕ) (p q : OrderedPart) → at < after → ordered_at at order ≡ Some p
      → ordered_at after order ≡ Some q → p.seat.call ≤ q.seat.call
  pub slots : (at after : ℕ) (p q : OrderedPart) → at < after → ordered_at at order ≡ Some p
      → ordered_at after order ≡ Some q → have_slot p.order q.order ≡ true → p.seat.call < q.seat.call
  pub no_free : (at : ℕ) (p : OrderedPart) → ordered_at at order ≡ Some p → p.order ≡ Free → ⊥
  pub fits : order.first + length order.parts < 2 ^ 64

-- the status of a part of this slot
abbrev pub status_in : ℕ → PartOrder → Status → Option Status
status_in slot (OfSlot other) status = if slot == other then Some status else None
status_in slot Whole status = None
status_in slot Free status = None

abbrev pub seen : ℕ → Option OrderedPart → Option Status
seen slot None = None
seen slot (Some p) = status_in slot p.order p.status

abbrev pub statuses : ℕ → Order → ℕ → Option Status
statuses slot order place = seen slot (ordered_at place order)

-- The part at a place has no slot and is not done: no part of a later call is asked.
abbrev pub IsBar : ℕ → Order → Type 0
IsBar place order = (p : OrderedPart) × (ordered_at place order ≡ Some p) × (p.order ≡ Whole) × (is_done p.status ≡ false)

pub record IsFirstBar (bar : OrderedPart) (order : Order) : Type 0 where
  pub place : ℕ
  pub there : ordered_at place order ≡ Some bar
  pub whole : bar.order ≡ Whole
  pub not_done : is_done bar.status ≡ false
  pub first : (at : ℕ) → IsBar at order → place ≤ at

pub record IsTied (order : Order) (lanes : Lanes) (bars : List ℕ) : Type 0 where
  pub sorted : IsSorted order
  pub lane : (slot : ℕ) → IsLaneOf order.first (statuses slot order) (lane_of slot lanes)
  pub bar_in : (q : ℕ) → In q bars → IsBar q order
  pub bar_there : (q : ℕ) → IsBar q order → In q bars
  pub ascends : Ascends bars

-- the bars after a part joined
abbrev pub entered : PartOrder → ℕ → List ℕ → List ℕ
entered (OfSlot slot) place bars = bars
entered Whole place bars = bars ++ place ∷ []
entered Free place bars = bars

-- and after one got this status
abbrev pub left : ℕ → Status → List ℕ → List ℕ
left place status bars = if is_done status then lane.without place bars else bars

-- when the part at a place may get a status
abbrev pub MayChange : ℕ → Status → Order → Type 0
MayChange place Waits order = IsOnItsWay place order
MayChange place (Asked link) order = MayAskAmong have_slot place link order
MayChange place Settled order = IsOnItsWay place order
MayChange place Unsent order = IsWaiting place order

-- one more part may stand at the end
pub record MayFollow (call : ℕ) (of : PartOrder) (order : Order) : Type 0 where
  pub later : (at : ℕ) (p : OrderedPart) → ordered_at at order ≡ Some p → p.seat.call ≤ call
  pub apart : (at : ℕ) (p : OrderedPart) → ordered_at at order ≡ Some p → have_slot p.order of ≡ true → p.seat.call < call
  pub not_free : of ≡ Free → ⊥

abbrev pub pushed : Seat → PartOrder → Order → Order
pushed seat of order = record {
  first = order.first;
  parts = order.parts ++ record { seat = seat; order = of; status = Waits } ∷ [];
}

abbrev pub IsFirstOver : Order → Type 0
IsFirstOver order = (p : OrderedPart) × (ordered_at order.first order ≡ Some p) × (is_done p.status ≡ true)

abbrev pub IsLastOpen : Order → Type 0
IsLastOpen order = (p : OrderedPart) × (ordered_at (order.first + (length order.parts - 1)) order ≡ Some p) × (p.status ≡ Waits)

abbrev pub without_first : Order → Order
without_first order = record { first = order.first + 1; parts = drop 1 order.parts }

-- without the last part
abbrev pub without_last : Order → Order
without_last order = record { first = order.first; parts = take (length order.parts - 1) order.parts }

-- the first parts, so many
abbrev pub first_parts : ℕ → Order → Order
first_parts count order = record { first = order.first; parts = take count order.parts }

-- A part without a slot took effect only when all of earlier calls were done, and one of a later call only
-- when it was.
abbrev pub IsAlone : Order → Type 0
IsAlone order = (at after : ℕ) (p q : OrderedPart) → ordered_at at order ≡ Some p → ordered_at after order ≡ Some q
    → p.seat.call < q.seat.call → (p.order ≡ Whole) ⊎ (q.order ≡ Whole)
    → is_effective q.status ≡ true → is_done p.status ≡ true

-- the last parts, so many, wait
pub record AreLastOpen (count : ℕ) (order : Order) : Type 0 where
  pub within : count ≤ length order.parts
  pub wait : (i : ℕ) (p : OrderedPart) → length order.parts ≤ i + count → slice_get order.parts i ≡ Some p → p.status ≡ Waits

pub record IsGateKept (order : Order) : Type 0 where
  -- the first part is not done
  pub front : IsFirstOver order → ⊥
  pub alone : IsAlone order
