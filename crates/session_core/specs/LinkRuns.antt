-- Whole runs of a link, and what holds of each.
use Rattle.std.specs.Prelude.{◌≡◌, ◌+◌, ◌<◌, ◌≤◌, ◌++◌, ℕ, Bool, true, false, nat_lt, List, [], ◌∷◌, length, take, drop, map, Some, slice_get}
use Rattle.std.specs.List.{All}
use Rattle.session_core.specs.declared.link.Ticket.{Ticket}
use Rattle.session_core.specs.declared.link.Ticket.TheVariants.{Asking}
use Rattle.session_core.specs.declared.link.Wait.{Wait}
use Rattle.session_core.specs.Channel.{Channel, Ask, written, bytes_of, placed}
use Rattle.session_core.specs.Reply.{IsReply}
use Rattle.session_core.specs.LinkEvents.{Event, Put, Write, Hear, Take, Break, Miss, End, Lose, IsPart, asking}

-- what was asked, in order
abbrev pub asked : List Event → List Ask
asked [] = []
asked (Put asks ∷ events) = asks ++ asked events
asked (event ∷ events) = asked events

-- what was taken as replies, in order
abbrev pub taken : List Event → List (Ticket × List ℕ)
taken [] = []
taken (Take ticket reply ∷ events) = (ticket, reply) ∷ taken events
taken (event ∷ events) = taken events

-- what was lost, in order, and whether some byte of it was written
abbrev pub lost : List Event → List (Ticket × Bool)
lost [] = []
lost (Lose ticket begun ∷ events) = (ticket, begun) ∷ lost events
lost (event ∷ events) = lost events

-- how many bytes were written
abbrev pub count_written : List Event → ℕ
count_written [] = 0
count_written (Write count ∷ events) = count + count_written events
count_written (event ∷ events) = count_written events

-- all bytes that came
abbrev pub came : List Event → List ℕ
came [] = []
came (Hear bytes ∷ events) = bytes ++ came events
came (event ∷ events) = came events

-- a ticket, and whether one of its bytes is among the first that were written
abbrev pub loss : ℕ → Wait → Ticket × Bool
loss count wait = (wait.ticket, nat_lt wait.start count)

-- the link is broken or ended after this
abbrev pub closes : Event → Bool
closes (Break cause) = true
closes Miss = true
closes End = true
closes other = false

-- Nothing is asked, heard or taken.
abbrev pub IsSilent : List Event → Type 0
IsSilent events = (asked events ≡ []) × (came events ≡ []) × (taken events ≡ [])

abbrev pub BeginsWithPart : List Ask → Type 0
BeginsWithPart [] = ⊥
BeginsWithPart (ask ∷ more) = IsPart ask.0

-- Each request, reply and byte of a link is accounted for.
--
-- `GET a` of call 7 and `GET b` of call 8 are asked, and written. `+x` and `+y` come: `+x` is taken
--     for call 7, and `+y` for call 8. A third message breaks the link when it is looked at.
-- Half of `+x` comes while nobody waits. `GET a` is asked and written, and the other half comes. No
--     run takes `+x` for `GET a`.
-- `INCR a` is asked, and its first byte is written. The connection ends: `INCR a` is lost, begun.
pub record IsAccounted (events : List Event) (c : Channel) : Type 0 where
  -- Reply number i was taken for request number i.
  pub in_turn : map (λ t. t.0) (taken events)
      ≡ take (length (taken events)) (map (λ ask. ask.0) (asked events))
  -- Before a byte of reply number i came, request number i was written to its end.
  pub was_written : (before more : List Event) (i : ℕ) (wait : Wait) → events ≡ before ++ more
      → i < length (taken events) → slice_get (placed 0 (asked events)) i ≡ Some wait
      → length (bytes_of (take i (taken events))) < length (came before)
      → wait.end ≤ count_written before
  -- What came is the replies, end to end, and what was not taken.
  pub incoming : came events ≡ bytes_of (taken events) ++ c.heard
  pub replies : All (λ t. IsReply t.1 × (length t.1 ≤ c.most)) (taken events)
  -- What is to be written is all requests, end to end, without what was written.
  pub given_is : c.given ≡ length (bytes_of (asked events))
  pub written_is : written c ≡ count_written events
  pub outgoing : c.unwritten ≡ drop (written c) (bytes_of (asked events))
  -- The requests after those that were answered are lost, in order, and the others wait.
  pub losses : lost events ≡ map (loss (written c))
      (take (length (lost events)) (drop (length (taken events)) (placed 0 (asked events))))
  pub waiting : c.waits
      ≡ drop (length (taken events) + length (lost events)) (placed 0 (asked events))
  -- `ASKING` is followed by its part at once.
  pub asking_before_part : (before more : List Ask) (request : List ℕ)
      → asked events ≡ before ++ (Asking, request) ∷ more
      → (request ≡ asking) × BeginsWithPart more
  pub silent_after : (before more : List Event) (event : Event) → events ≡ before ++ event ∷ more
      → closes event ≡ true → IsSilent more
