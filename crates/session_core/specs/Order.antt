-- The parts of one caller in the order of its calls, and which of them may be asked.
use Rattle.std.specs.Prelude.{◌≡◌, ◌+◌, ◌-◌, ◌<◌, ◌++◌, ◌⊎◌, ℕ, Bool, true, false, if◌then◌else◌, List, [], ◌∷◌, Option, None, Some, slice_get}
use Rattle.session_core.specs.declared.part.PartOrder.{PartOrder}
use Rattle.session_core.specs.declared.part.PartOrder.TheVariants.{OfSlot, Free}
use Rattle.session_core.specs.declared.ordered_part.OrderedPart.{OrderedPart}
use Rattle.session_core.specs.declared.ordered_part.Seat.{Seat}
use Rattle.session_core.specs.declared.ordered_part.Askable.{Askable}
use Rattle.session_core.specs.declared.ordered_part.Status.{Status}
use Rattle.session_core.specs.declared.ordered_part.Status.TheVariants.{Waits, Asked, Settled, Unsent}
use Rattle.session_core.specs.Places.{item_at, changed}
use Rattle.session_core.specs.Part.{have_slot, have_order}

-- The place of a part is its number since the caller came.
pub record Order : Type 0 where
  -- how many parts were forgotten: the first part that is left has this place
  pub first : ℕ
  pub parts : List OrderedPart

abbrev pub no_order : Order
no_order = record { first = 0; parts = [] }

-- the part at a place, if it joined and was not forgotten
abbrev pub ordered_at : ℕ → Order → Option OrderedPart
ordered_at place order = item_at place order.first order.parts

-- nothing more happens to it
abbrev pub is_done : Status → Bool
is_done Settled = true
is_done Unsent = true
is_done Waits = false
is_done (Asked link) = false

-- it ran, may have run, or may yet
abbrev pub is_effective : Status → Bool
is_effective Settled = true
is_effective Unsent = false
is_effective Waits = false
is_effective (Asked link) = true

-- An earlier part lets a later one be asked on this link: it is done, or on its way there for the same
-- slot.
abbrev pub LetsBy : ℕ → OrderedPart → OrderedPart → Type 0
LetsBy link earlier later = (is_done earlier.status ≡ true)
    ⊎ ((have_slot earlier.order later.order ≡ true) × (earlier.status ≡ Asked link))

-- When the part at a place may be asked on a link, by its order with the parts that it is related to.
-- It waits. Each such part of an earlier call lets it by. No such part of a later call ran, may have run
-- or may yet.
pub record MayAskAmong (related : PartOrder → PartOrder → Bool) (place link : ℕ) (order : Order) : Type 0 where
  pub it : OrderedPart
  pub there : ordered_at place order ≡ Some it
  pub waits : it.status ≡ Waits
  pub earlier : (at : ℕ) (p : OrderedPart) → ordered_at at order ≡ Some p → p.seat.call < it.seat.call
      → related p.order it.order ≡ true → LetsBy link p it
  pub later : (at : ℕ) (p : OrderedPart) → ordered_at at order ≡ Some p → it.seat.call < p.seat.call
      → related it.order p.order ≡ true → is_effective p.status ≡ false

-- `SET a 1`, `SET a 2`, `FLUSHALL`. The first is on its way on link 1. The second may be asked on link 1
--     and on no other. `FLUSHALL` may be asked when both are done.
-- Both are on their way on link 1, and the first is refused. It waits for the second. If that is refused
--     too, the first may be asked, on any link. If that is settled, the first is overtaken.
abbrev pub MayAsk : ℕ → ℕ → Order → Type 0
MayAsk = MayAskAmong have_order

-- the part at a place is of this slot
abbrev pub IsOf : ℕ → ℕ → Order → Type 0
IsOf slot place order = (p : OrderedPart) × (ordered_at place order ≡ Some p) × (p.order ≡ OfSlot slot)

-- This answer offers the place on the link: on that link alone, or on every link.
abbrev pub OnLink : Option ℕ → ℕ → Type 0
OnLink None link = Unit {0}
OnLink (Some only) link = only ≡ link

abbrev pub Offers : Option Askable → ℕ → ℕ → Type 0
Offers None place link = ⊥
Offers (Some askable) place link = (askable.place ≡ place) × OnLink askable.link link

-- the part that it names waits at its place
abbrev pub NamesWaiting : ℕ → Seat → Order → Type 0
NamesWaiting place seat order = (p : OrderedPart) × (ordered_at place order ≡ Some p) × (p.seat ≡ seat)
    × (p.status ≡ Waits)

-- the part at a place waits
abbrev pub IsWaiting : ℕ → Order → Type 0
IsWaiting place order = (p : OrderedPart) × (ordered_at place order ≡ Some p) × (p.status ≡ Waits)

-- the part at a place is on its way
abbrev pub IsOnItsWay : ℕ → Order → Type 0
IsOnItsWay place order = (p : OrderedPart) × (link : ℕ) × (ordered_at place order ≡ Some p)
    × (p.status ≡ Asked link)

-- The part at a place waits, and one of a later call on the same slot is settled: it is never asked again.
pub record IsOvertaken (place : ℕ) (order : Order) : Type 0 where
  pub it : OrderedPart
  pub there : ordered_at place order ≡ Some it
  pub waits : it.status ≡ Waits
  pub at : ℕ
  pub other : OrderedPart
  pub other_there : ordered_at at order ≡ Some other
  pub is_later : it.seat.call < other.seat.call
  pub same_slot : have_slot it.order other.order ≡ true
  pub settled : other.status ≡ Settled

-- the parts, where the one of this index has another status
abbrev pub marked : ℕ → Status → List OrderedPart → List OrderedPart
marked index status parts = changed (λ part. record part { status = status }) index parts

abbrev pub with_status : ℕ → Status → Order → Order
with_status place status order = record {
  first = order.first;
  parts = marked (place - order.first) status order.parts;
}

-- the parts of a call from this number on, each of which waits
abbrev pub waiting_parts : (call part : ℕ) → List PartOrder → List OrderedPart
waiting_parts call part [] = []
waiting_parts call part (order ∷ orders) =
    record { seat = record { call = call; part = part }; order = order; status = Waits }
    ∷ waiting_parts call (part + 1) orders

-- with the parts of one more call
abbrev pub joined : ℕ → List PartOrder → Order → Order
joined call orders order =
    record { first = order.first; parts = order.parts ++ waiting_parts call 0 orders }

-- without the done parts at the front
abbrev pub trimmed_from : ℕ → List OrderedPart → Order
trimmed_from first [] = record { first = first; parts = [] }
trimmed_from first (part ∷ parts) =
    if is_done part.status then trimmed_from (first + 1) parts else record { first = first; parts = part ∷ parts }

abbrev pub trimmed : Order → Order
trimmed order = trimmed_from order.first order.parts

-- The first part that is left is not done.
abbrev pub IsTrimmed : Order → Type 0
IsTrimmed order = (p : OrderedPart) → ordered_at order.first order ≡ Some p → is_done p.status ≡ false

-- When the parts of a call may join: all that joined are of earlier calls. No two of its parts have the same
-- slot, and none is free of the order.
pub record MayJoin (call : ℕ) (orders : List PartOrder) (order : Order) : Type 0 where
  pub later : (at : ℕ) (p : OrderedPart) → ordered_at at order ≡ Some p → p.seat.call < call
  pub apart : (i j : ℕ) (a b : PartOrder) → i < j → slice_get orders i ≡ Some a → slice_get orders j ≡ Some b
      → have_slot a b ≡ false
  pub ordered : (i : ℕ) (a : PartOrder) → slice_get orders i ≡ Some a → a ≡ Free → ⊥
