-- Whole runs of a session, and what holds of each.
use Rattle.std.specs.Prelude.{◌≡◌, ◌+◌, ◌<◌, ◌≤◌, ◌++◌, ◌&&◌, ◌==◌, ◌⊎◌, ℕ, Bool, true, false, if◌then◌else◌, List, [], ◌∷◌, Option, None, Some, Contains, slice_get}
use Rattle.std.specs.List.{filter_map, last_or, count_by, fold}
use Rattle.session_core.specs.declared.link.Ticket.TheVariants.{Part}
use Rattle.session_core.specs.declared.link.Ticket.{Ticket}
use Rattle.session_core.specs.declared.link.Wait.{Wait}
use Rattle.session_core.specs.Channel.{Channel, Ask}
use Rattle.session_core.specs.LinkEvents as link
use Rattle.session_core.specs.Part.{PartState, is_on, is_refusal, have_slot}
use Rattle.session_core.specs.State.{Event, Open, On, Begin, is_part, asks, unwants}

-- ---- links as queues

-- Of those who wait, the first has this ticket.
abbrev pub IsFirst : Ticket → List Wait → Type 0
IsFirst ticket waits = (wait : Wait) × (slice_get waits 0 ≡ Some wait) × (wait.ticket ≡ ticket)

-- The rules of a link as a queue, whatever its bytes are. The first that waits is answered or lost. One
-- step puts no part twice.
abbrev pub AsQueue : link.Event → Channel → Type 0
AsQueue (link.Put asks) c = (call part : ℕ) → count_by (λ ask. is_part call part ask.0) asks ≤ 1
AsQueue (link.Take ticket reply) c = IsFirst ticket c.waits
AsQueue (link.Lose ticket begun) c = IsFirst ticket c.waits
AsQueue other c = Unit {0}

-- ---- parts

-- A part of a call: its caller, the numbers of call and part, and what it is when its call begins.
pub record CallPart : Type 0 where
  pub caller : ℕ
  pub call : ℕ
  pub part : ℕ
  pub began : PartState

-- Its call began with it.
pub record Began (events : List Event) (seat : CallPart) : Type 0 where
  pub parts : List PartState
  pub began : Contains events (Begin seat.call seat.caller parts)
  pub part_is : slice_get parts seat.part ≡ Some seat.began

-- What happens to a part.
pub data Step : Type 0 where
  -- it is asked on this link
  Asked : (link : ℕ) → Step
  -- a refusal came: its node did not run it
  Refused : Step
  -- its link ended before a byte of it was written: no node ran it
  Unwritten : Step
  -- another reply came, or its link ended after some byte of it was written
  Settled : Step

abbrev pub step_of : CallPart → Event → Option Step
step_of seat (On number (link.Put requests)) =
    if asks seat.call seat.part requests then Some (Asked number) else None
step_of seat (On number (link.Take ticket reply)) =
    if is_part seat.call seat.part ticket
    then Some (if is_refusal seat.began reply then Refused else Settled)
    else None
step_of seat (On number (link.Lose ticket begun)) =
    if is_part seat.call seat.part ticket then Some (if begun then Settled else Unwritten) else None
step_of seat other = None

-- all that happened to a part
abbrev pub steps : CallPart → List Event → List Step
steps seat events = filter_map (step_of seat) events

abbrev pub is_ask : Step → Bool
is_ask (Asked link) = true
is_ask other = false

abbrev pub is_unwritten : Step → Bool
is_unwritten Unwritten = true
is_unwritten other = false

-- ---- how often a part is asked

-- Whether this may be the next step after that: a part is asked if it was never asked, or did not
-- run the last time, and then comes what became of it.
abbrev pub may_follow : Option Step → Step → Bool
may_follow (Some (Asked link)) step = if is_ask step then false else true
may_follow (Some Settled) step = false
may_follow before step = is_ask step

abbrev pub may_all_follow : Option Step → List Step → Bool
may_all_follow before [] = true
may_all_follow before (step ∷ more) = may_follow before step && may_all_follow (Some step) more

-- A part of which so many refusals are forgiven is asked once more at most, and once more for each
-- time that no byte of it was written. It is asked again only if the last time it did not run.
--
-- Asked, refused, asked, settled: fine if one refusal is forgiven, and not if none is.
-- Asked, settled, asked: this never happens.
pub record AreTries (left : ℕ) (happened : List Step) : Type 0 where
  pub few : count_by is_ask happened ≤ left + 1 + count_by is_unwritten happened
  pub in_turn : may_all_follow None happened ≡ true

-- ---- in which order parts take effect

-- it ran, may have run or may yet, by the last that happened to it
abbrev pub has_effect : Option Step → Bool
has_effect (Some (Asked link)) = true
has_effect (Some Settled) = true
has_effect other = false

abbrev pub takes_effect : CallPart → List Event → Bool
takes_effect seat events = has_effect (last_or None (steps seat events))

abbrev pub times_asked : CallPart → List Event → ℕ
times_asked seat events = count_by is_ask (steps seat events)

-- The first part was asked for the last time before the second was. When that was asked, the first
-- was on its way on the same link for the same slot, or it was settled.
--
-- `SET a 1` and `SET a 2` are asked on link 1, both get `-ASK 15495 n3:1`, and both are asked on link
--     2, in the same order. Fine.
-- `SET a 2` is asked on link 2 while `SET a 1` is on its way on link 1: no run has this, if both
--     take effect.
pub record InOrder (first second : CallPart) (events : List Event) : Type 0 where
  pub before : List Event
  pub mid : List Event
  pub more : List Event
  pub at_first : ℕ
  pub at_second : ℕ
  pub first_put : List Ask
  pub second_put : List Ask
  pub events_are : events ≡ before ++ On at_first (link.Put first_put)
      ∷ (mid ++ On at_second (link.Put second_put) ∷ more)
  pub asks_first : asks first.call first.part first_put ≡ true
  pub asks_second : asks second.call second.part second_put ≡ true
  -- neither is asked again
  pub last_first : times_asked first (mid ++ On at_second (link.Put second_put) ∷ more) ≡ 0
  pub last_second : times_asked second more ≡ 0
  pub ahead : ((steps first mid ≡ []) × (at_first ≡ at_second)
      × (have_slot first.began.order second.began.order ≡ true))
      ⊎ (steps first mid ≡ Settled ∷ [])

-- A later part of its caller and slot was settled.
pub record WasPassed (seat : CallPart) (events : List Event) : Type 0 where
  pub later : CallPart
  pub began : Began events later
  pub caller_is : later.caller ≡ seat.caller
  pub is_later : seat.call < later.call
  pub same_slot : have_slot seat.began.order later.began.order ≡ true
  pub settled : last_or None (steps later events) ≡ Some Settled

-- The call was given up, or has its reply.
pub record HasEnded (call : ℕ) (events : List Event) : Type 0 where
  pub event : Event
  pub among : Contains events event
  pub ends : unwants call event ≡ true

-- ---- where the reply of a part comes from

-- The reply was taken for this part on some link, and is no refusal.
pub record WasTaken (seat : CallPart) (reply : List ℕ) (events : List Event) : Type 0 where
  pub number : ℕ
  pub taken : Contains events (On number (link.Take (Part seat.call seat.part) reply))
  pub ran : is_refusal seat.began reply ≡ false

-- The request was asked for this part on some link.
pub record WasAsked (seat : CallPart) (request : List ℕ) (events : List Event) : Type 0 where
  pub number : ℕ
  pub requests : List Ask
  pub put : Contains events (On number (link.Put requests))
  pub among : Contains requests (Part seat.call seat.part, request)

-- ---- where a part waits

-- it is on its way on this link
abbrev pub is_there : ℕ → Option PartState → Bool
is_there number None = false
is_there number (Some p) = is_on number p.phase

-- ---- what happened on a link

-- what happened on the link of this number since it was opened, with one event more
abbrev pub with_event : ℕ → List link.Event → Event → List link.Event
with_event number since (Open n most) = if n == number then [] else since
with_event number since (On n event) = if n == number then since ++ event ∷ [] else since
with_event number since other = since

-- what happened on the link of this number since it was opened
abbrev pub on_link : ℕ → List Event → List link.Event
on_link number events = fold (with_event number) [] events
