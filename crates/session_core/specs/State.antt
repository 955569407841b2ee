-- The machine of a session: its links, its calls, and what happens to them.
use Rattle.std.specs.Prelude.{◌≡◌, ◌+◌, ◌-◌, ◌<◌, ◌≤◌, ◌++◌, ◌&&◌, ◌||◌, ◌==◌, not, nat_lt, ℕ, Bool, true, false, if◌then◌else◌, List, [], ◌∷◌, length, drop, Option, None, Some, slice_get, Contains}
use Rattle.std.specs.List.{list_any, list_all}
use Rattle.std.specs.Option.{option_map, option_and_then}
use Rattle.session_core.specs.declared.link.Ticket.{Ticket}
use Rattle.session_core.specs.declared.link.Ticket.TheVariants.{Part}
use Rattle.session_core.specs.declared.link.Wait.{Wait}
use Rattle.session_core.specs.declared.link.Standing.TheVariants.{Ended}
use Rattle.session_core.specs.declared.part.Cause.{Cause}
use Rattle.session_core.specs.declared.part.Cause.TheVariants.{Overtaken, GivenUp, Late, NoNode}
use Rattle.session_core.specs.Channel.{Channel, Ask, fresh}
use Rattle.session_core.specs.LinkEvents as link
use Rattle.session_core.specs.Part.{Phase, PartState, is_waiting, is_on, is_done, is_settled, is_effective, have_slot, have_order, is_refusal, phase_asked, phase_told, phase_lost, phase_ended}

pub record CallState : Type 0 where
  pub caller : ℕ
  pub parts : List PartState
  -- somebody waits for its reply
  pub is_wanted : Bool

-- What contracts see of a session. Calls are numbered from 0 on, in the order in which they began.
pub record State : Type 0 where
  -- by their numbers, with gaps where a number is free
  pub links : List (Option Channel)
  -- how many calls were forgotten, which are the first ones
  pub first : ℕ
  -- the others
  pub calls : List CallState

abbrev pub start : State
start = record { links = []; first = 0; calls = [] }

-- Nothing was done for a call: none of its parts ran, may have run or may yet.
abbrev pub nothing_done : CallState → Bool
nothing_done state = list_all (λ p. not (is_effective p.phase)) state.parts

-- how many calls have begun, which is the number of the next
abbrev pub begun : State → ℕ
begun s = s.first + length s.calls

-- the call of this number, if it was not forgotten
abbrev pub call_at : ℕ → State → Option CallState
call_at call s = if nat_lt call s.first then None else slice_get s.calls (call - s.first)

abbrev pub part_at : ℕ → ℕ → State → Option PartState
part_at call part s = option_and_then (λ c. slice_get c.parts part) (call_at call s)

-- who waits on the link of this number
abbrev pub waits_on : Option (Option Channel) → List Wait
waits_on (Some (Some c)) = c.waits
waits_on other = []

abbrev pub waits_at : ℕ → State → List Wait
waits_at number s = waits_on (slice_get s.links number)

-- ---- events

-- `SET a 1` of caller 7 goes to a node that gives its slot away. It is call 0, of one part:
--     Open 0 1000, Begin 0 7 .., On 0 (Put `SET a 1`), On 0 (Write 27), On 0 (Hear `-ASK 15495 n3:1`),
--     On 0 (Take ..). The part waits again. Open 1 1000, On 1 (Put `ASKING` and `SET a 1`), and once both
--     replies were taken, Finish 0, Leave 0, Trim.
pub data Event : Type 0 where
  -- a connection is there, whose replies may have so many bytes
  Open : (number most : ℕ) → Event
  -- this happens on the link of this number
  On : (number : ℕ) → (event : link.Event) → Event
  -- the number of a link is free again
  Forget : (number : ℕ) → Event
  -- a call of this number begins
  Begin : (call caller : ℕ) → (parts : List PartState) → Event
  -- nobody waits for the reply to this call any more: its parts that wait are not asked
  GiveUp : (call : ℕ) → Event
  -- a part that waits is not asked any more
  End : (call part : ℕ) → (cause : Cause) → Event
  -- the reply to this call is made of this state
  Finish : (call : ℕ) → (state : CallState) → Event
  -- the parts of this call are forgotten
  Leave : (call : ℕ) → Event
  -- the place of the first call is forgotten
  Trim : Event

-- each item by its number, where the first has this number
abbrev pub numbered : {X : Type 0} → (ℕ → X → X) → ℕ → List X → List X
numbered change n [] = []
numbered change n (x ∷ xs) = change n x ∷ numbered change (n + 1) xs

abbrev pub is_part : ℕ → ℕ → Ticket → Bool
is_part call part (Part c p) = (c == call) && (p == part)
is_part call part other = false

-- the part is among what is asked
abbrev pub asks : ℕ → ℕ → List Ask → Bool
asks call part requests = list_any (λ ask. is_part call part ask.0) requests

-- how far part number `part` of call number `call` is after this
abbrev pub phase_after : ℕ → ℕ → Event → (wanted : Bool) → PartState → Phase
phase_after call part (On number (link.Put requests)) wanted p =
    if asks call part requests then phase_asked number p.phase else p.phase
phase_after call part (On number (link.Take ticket reply)) wanted p =
    if is_part call part ticket then phase_told wanted (is_refusal p reply) reply p.phase else p.phase
phase_after call part (On number (link.Lose ticket begun)) wanted p =
    if is_part call part ticket then phase_lost wanted begun p.phase else p.phase
phase_after call part (GiveUp c) wanted p = if c == call then phase_ended GivenUp p.phase else p.phase
phase_after call part (End c q cause) wanted p =
    if (c == call) && (q == part) then phase_ended cause p.phase else p.phase
phase_after call part other wanted p = p.phase

-- the place of a call whose parts are forgotten
abbrev pub left_call : CallState
left_call = record { caller = 0; parts = []; is_wanted = false }

-- nobody waits for the reply to this call after this
abbrev pub unwants : ℕ → Event → Bool
unwants call (GiveUp c) = c == call
unwants call (Finish c state) = c == call
unwants call other = false

abbrev pub call_after : Event → ℕ → CallState → CallState
call_after (Leave c) call state = if c == call then left_call else state
call_after event call state = record state {
  parts = numbered (λ part p. record p { phase = phase_after call part event state.is_wanted p }) 0 state.parts;
  is_wanted = state.is_wanted && not (unwants call event);
}

abbrev pub link_after : Event → ℕ → Option Channel → Option Channel
link_after (Open number most) n old = if number == n then Some (fresh most) else old
link_after (On number event) n old = if number == n then option_map (link.after event) old else old
link_after (Forget number) n old = if number == n then None else old
link_after other n old = old

-- one place more, if the number is the next
abbrev pub links_for : Event → List (Option Channel) → List (Option Channel)
links_for (Open number most) links = if number == length links then links ++ None ∷ [] else links
links_for other links = links

abbrev pub after : Event → State → State
after (Begin call caller parts) s =
    record s { calls = s.calls ++ record { caller = caller; parts = parts; is_wanted = true } ∷ [] }
after Trim s = record s { first = s.first + 1; calls = drop 1 s.calls }
after event s = record s {
  links = numbered (link_after event) 0 (links_for event s.links);
  calls = numbered (call_after event) s.first s.calls;
}

-- ---- when they may happen

-- This is a part of that call, which is of this caller.
pub record Has (s : State) (caller call part : ℕ) (p : PartState) : Type 0 where
  pub state : CallState
  pub call_is : call_at call s ≡ Some state
  pub caller_is : state.caller ≡ caller
  pub part_is : slice_get state.parts part ≡ Some p

-- A later part may be asked on this link: this earlier one is done, or goes ahead of it there.
abbrev pub lets_by : ℕ → PartState → PartState → Bool
lets_by number later p = is_done p.phase || (have_slot p.order later.order && is_on number p.phase)

-- When a part may be asked on a link: somebody wants its call, and it waits. Each earlier part with
-- which it has an order is done, or on its way on the same link for the same slot. No later one
-- ran, may have run or may yet.
--
-- `SET a 1`, `SET a 2`, `FLUSHALL` of one caller. The first is on its way on link 1. The second may be
--     asked on link 1 and not on link 2. `FLUSHALL` may be asked on none before both are done.
-- Both are on their way on link 1, and the first gets `-ASK 15495 n3:1`. It waits for the second.
--     That gets `-ASK 15495 n3:1` too: now the first may be asked, on any link. Or it gets `+OK`: the
--     first may never be asked.
pub record MayAsk (s : State) (number call part : ℕ) (request : List ℕ) : Type 0 where
  pub caller : ℕ
  pub it : PartState
  pub has : Has s caller call part it
  pub wanted : has.state.is_wanted ≡ true
  pub waits : is_waiting it.phase ≡ true
  pub request_is : it.request ≡ request
  pub earlier : (n q : ℕ) (p : PartState) → n < call → Has s caller n q p
      → have_order p.order it.order ≡ true → lets_by number it p ≡ true
  pub later : (n q : ℕ) (p : PartState) → call < n → Has s caller n q p
      → have_order it.order p.order ≡ true → is_effective p.phase ≡ false

abbrev pub MayPut : State → ℕ → link.Event → Type 0
MayPut s number (link.Put requests) = (call part : ℕ) (request : List ℕ)
    → Contains requests (Part call part, request) → MayAsk s number call part request
MayPut s number other = Unit {0}

-- the link of this number, in this state
abbrev pub IsLink : State → ℕ → Channel → Type 0
IsLink s number c = slice_get s.links number ≡ Some (Some c)

-- The link is there, and this may happen on it by these rules of links.
pub record MayOn (rules : link.Event → Channel → Type 0) (number : ℕ) (event : link.Event) (s : State) : Type 0 where
  pub channel : Channel
  pub link_is : IsLink s number channel
  pub may : rules event channel
  pub may_put : MayPut s number event

-- A later part of its caller and slot is settled, so this part of that call is not asked any more.
pub record IsPassed (s : State) (call part : ℕ) : Type 0 where
  pub caller : ℕ
  pub it : PartState
  pub has : Has s caller call part it
  pub later : ℕ
  pub later_part : ℕ
  pub other : PartState
  pub has_later : Has s caller later later_part other
  pub is_later : call < later
  pub same_slot : have_slot it.order other.order ≡ true
  pub settled : is_settled other.phase ≡ true

-- Why a part that waits may be ended. Whether its time is over, and whether it has a node, is told
-- from outside. A call is given up as a whole.
abbrev pub MayEnd : State → ℕ → ℕ → Cause → Type 0
MayEnd s call part Overtaken = IsPassed s call part
MayEnd s call part GivenUp = ⊥
MayEnd s call part Late = Unit {0}
MayEnd s call part NoNode = Unit {0}

-- Two parts of a call have two slots, if they have any.
abbrev pub AreApart : List PartState → Type 0
AreApart parts = (i j : ℕ) (p q : PartState) → i < j → slice_get parts i ≡ Some p
    → slice_get parts j ≡ Some q → have_slot p.order q.order ≡ false

-- Nobody waits for the reply to an earlier call of this caller.
abbrev pub IsTurn : State → ℕ → ℕ → Type 0
IsTurn s caller call = (n : ℕ) (state : CallState) → n < call → call_at n s ≡ Some state
    → state.caller ≡ caller → state.is_wanted ≡ false

-- The call is wanted, and it is its turn. No part waits, but some may be on their way.
pub record MayFinish (call : ℕ) (state : CallState) (s : State) : Type 0 where
  pub call_is : call_at call s ≡ Some state
  pub wanted : state.is_wanted ≡ true
  pub none_waits : list_all (λ p. not (is_waiting p.phase)) state.parts ≡ true
  pub turn : IsTurn s state.caller call

-- Nobody wants the call, nor an earlier one of its caller, and its parts are done.
pub record MayLeave (call : ℕ) (s : State) : Type 0 where
  pub state : CallState
  pub call_is : call_at call s ≡ Some state
  pub unwanted : state.is_wanted ≡ false
  pub done : list_all (λ p. is_done p.phase) state.parts ≡ true
  pub turn : IsTurn s state.caller call

-- What may happen by these rules of links.
abbrev pub MayBy : (link.Event → Channel → Type 0) → Event → State → Type 0
-- the number is the next one, or that of a gap
MayBy rules (Open number most) s = (number ≤ length s.links) × ((c : Channel) → IsLink s number c → ⊥)
MayBy rules (On number event) s = MayOn rules number event s
-- the link ended, and nobody waits on it
MayBy rules (Forget number) s = (c : Channel) × IsLink s number c × (c.standing ≡ Ended) × (c.waits ≡ [])
-- the number is the next one, and each part waits, one for each slot
MayBy rules (Begin call caller parts) s = (call ≡ begun s) × (list_all (λ p. is_waiting p.phase) parts ≡ true) × AreApart parts
-- the call has begun
MayBy rules (GiveUp call) s = call < begun s
-- the part waits, and has this cause
MayBy rules (End call part cause) s = (p : PartState) × (part_at call part s ≡ Some p)
    × (is_waiting p.phase ≡ true) × MayEnd s call part cause
MayBy rules (Finish call state) s = MayFinish call state s
MayBy rules (Leave call) s = MayLeave call s
-- the first call left
MayBy rules Trim s = (more : List CallState) × (s.calls ≡ left_call ∷ more)

-- What may happen, by all rules of links.
abbrev pub May : Event → State → Type 0
May = MayBy link.May

pub record Happens (old : State) (event : Event) (new : State) : Type 0 where
  pub may : May event old
  pub is : new ≡ after event old

-- These happen one after the other by these rules of links, and lead from one state to another.
abbrev pub RunBy : (link.Event → Channel → Type 0) → State → List Event → State → Type 0
RunBy rules old [] new = new ≡ old
RunBy rules old (event ∷ events) new = MayBy rules event old × RunBy rules (after event old) events new

-- a run of the machine
abbrev pub Run : State → List Event → State → Type 0
Run = RunBy link.May
