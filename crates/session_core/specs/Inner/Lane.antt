-- The open parts of one caller on one slot, by their places among all parts of the caller.
use Rattle.std.specs.Prelude.{◌≡◌, ◌+◌, ◌^◌, ◌<◌, ◌≤◌, ◌++◌, ◌⊎◌, ◌==◌, ltb, max, ℕ, if◌then◌else◌, List, [], ◌∷◌, Option, None, Some}
use Rattle.session_core.specs.declared.ordered_part.Status.{Status}
use Rattle.session_core.specs.declared.ordered_part.Status.TheVariants.{Waits, Asked, Settled, Unsent}

-- ---- places

abbrev pub In : ℕ → List ℕ → Type 0
In q [] = ⊥
In q (x ∷ xs) = (x ≡ q) ⊎ In q xs

abbrev pub Ascends : List ℕ → Type 0
Ascends [] = Unit {0}
Ascends (x ∷ xs) = ((q : ℕ) → In q xs → x < q) × Ascends xs

abbrev pub without : ℕ → List ℕ → List ℕ
without place [] = []
without place (x ∷ xs) = if x == place then without place xs else x ∷ without place xs

-- the lowest place
abbrev pub IsFirst : ℕ → List ℕ → Type 0
IsFirst place places = In place places × ((q : ℕ) → In q places → place ≤ q)

-- with this place before the first higher one
abbrev pub with_place : ℕ → List ℕ → List ℕ
with_place place [] = place ∷ []
with_place place (x ∷ xs) = if ltb x place then x ∷ with_place place xs else place ∷ x ∷ xs

-- ---- lanes

pub record Lane : Type 0 where
  -- the places of the parts that wait
  pub waiting : List ℕ
  -- and of those on their way
  pub asked : List ℕ
  -- the place after the last settled part, or 0
  pub settled_end : ℕ
  -- the link of those on their way
  pub link : ℕ

abbrev pub no_lane : Lane
no_lane = record { waiting = []; asked = []; settled_end = 0; link = 0 }

-- with one more part, which waits
abbrev pub joined : ℕ → Lane → Lane
joined place lane = record lane { waiting = lane.waiting ++ place ∷ [] }

-- where the part at this place has this status now
abbrev pub with_status : ℕ → Status → Lane → Lane
with_status place Waits lane = record lane { waiting = with_place place lane.waiting; asked = without place lane.asked }
with_status place (Asked link) lane =
    record { waiting = without place lane.waiting; asked = lane.asked ++ place ∷ []; settled_end = lane.settled_end; link = link }
with_status place Settled lane =
    record lane { asked = without place lane.asked; settled_end = max lane.settled_end (place + 1) }
with_status place Unsent lane = record lane { waiting = without place lane.waiting }

-- a part at this place may join: it comes after each other part
abbrev pub MayJoin : ℕ → Lane → Type 0
MayJoin place lane = (q : ℕ) → In q lane.waiting ⊎ In q lane.asked → q < place

-- when the part at this place may get this status
abbrev pub MayBecome : ℕ → Status → Lane → Type 0
MayBecome place Waits lane = In place lane.asked × (In place lane.waiting → ⊥)
MayBecome place (Asked link) lane = IsFirst place lane.waiting × ((q : ℕ) → In q lane.asked → q < place)
MayBecome place Settled lane = In place lane.asked × (place + 1 < 2 ^ 64)
MayBecome place Unsent lane = In place lane.waiting

-- How the lists of a lane lie to one another. Those that wait are in two lists, of which one has each that was
-- refused while another was on its way.
pub record AreInOrder (refused later asked : List ℕ) : Type 0 where
  pub waiting_ascends : Ascends (refused ++ later)
  pub asked_ascends : Ascends asked
  pub behind : (p q : ℕ) → In p asked → In q later → p < q

-- The part at this place is the first that waits, and none behind it is on its way or settled.
pub record IsNext (place : ℕ) (lane : Lane) : Type 0 where
  pub waits : In place lane.waiting
  pub first : (q : ℕ) → In q lane.waiting → place ≤ q
  pub past : lane.settled_end ≤ place
  pub behind : (q : ℕ) → In q lane.asked → q < place

-- the only link on which it may be asked
abbrev pub IsLinkOf : Option ℕ → Lane → Type 0
IsLinkOf None lane = (q : ℕ) → In q lane.asked → ⊥
IsLinkOf (Some link) lane = (link ≡ lane.link) × ((q : ℕ) × In q lane.asked)

-- ---- lanes of parts

abbrev pub IsOpen : Option Status → Type 0
IsOpen None = ⊥
IsOpen (Some Waits) = Unit {0}
IsOpen (Some (Asked link)) = Unit {0}
IsOpen (Some Settled) = ⊥
IsOpen (Some Unsent) = ⊥

-- The lane of the parts that have these statuses at their places, of which those from `first` on are left.
pub record IsLaneOf (first : ℕ) (statuses : ℕ → Option Status) (lane : Lane) : Type 0 where
  pub waiting_in : (q : ℕ) → In q lane.waiting → statuses q ≡ Some Waits
  pub waiting_there : (q : ℕ) → statuses q ≡ Some Waits → In q lane.waiting
  pub asked_in : (q : ℕ) → In q lane.asked → statuses q ≡ Some (Asked lane.link)
  pub asked_there : (q link : ℕ) → statuses q ≡ Some (Asked link) → In q lane.asked
  -- what is settled behind an open part, the end counts
  pub settled : (q at : ℕ) → q < at → IsOpen (statuses q) → statuses at ≡ Some Settled → at < lane.settled_end
  pub last : (at : ℕ) → at + 1 ≡ lane.settled_end → first ≤ at → statuses at ≡ Some Settled
