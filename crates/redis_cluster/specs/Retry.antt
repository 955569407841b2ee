-- Where a part goes that no node has answered yet, and the attempts of a route. Its part is sent to
-- one address after the other, until a node answers, a reply is lost, or no further address may be
-- named.
use Rattle.std.specs.Prelude.{◌≡◌, ℕ, ◌+◌, ◌≤◌, ◌⊎◌, List, [], ◌∷◌, ◌++◌, Bool, true, false, Option, Some, None, length, take, count_by, slice_get, IsSome}
use Rattle.std.specs.List.{All}
use Rattle.cluster_slots.specs.Address.{Address}
use Rattle.cluster_slots.specs.SlotRoute.{SlotRoute}
use Rattle.cluster_map.specs.Fallback.{IsFallback}
use Rattle.cluster_map.specs.SlotNodes.{SlotNodes}
use Rattle.cluster_map.specs.RangeMap as ranges
use Rattle.redis_routing.specs.declared.info.Redirect.{Redirect}
use Rattle.redis_routing.specs.RedirectText.{redirect_address}
use Rattle.redis_cluster.specs.Trace.{Entry, Ending, answered, refused, redirected, lost}

-- the address to send to, if one is named; those to fall back on that no refusal has taken yet, in
-- order; and how many further targets may be named
pub record RetryState : Type 0 where
  pub target : Option Address
  pub fallback : List Address
  pub left : ℕ

-- A retry of a route begins at a node. After it come the addresses that the map has to fall back
-- on.
pub record IsRetryOf (map : List (ranges.RangeEntry SlotNodes)) (retries : ℕ) (at : SlotRoute × Address)
    (retry : RetryState) : Type 0 where
  pub target : retry.target ≡ Some at.1
  pub fallback : IsFallback map at.0 retry.fallback
  pub left : retry.left ≡ retries

-- the next target is this address: one target less may be named after it
pub record NamesTarget (old new : RetryState) (address : Address) : Type 0 where
  pub target : new.target ≡ Some address
  pub counted : old.left ≡ new.left + 1

-- after a redirect the next target is its address, and no place to fall back on is taken
abbrev pub FollowsRedirect : RetryState → RetryState → Redirect → Type 0
FollowsRedirect old new redirect =
    NamesTarget old new (redirect_address redirect) × (new.fallback ≡ old.fallback)

-- after a refusal the next target is the first address to fall back on, which is taken
abbrev pub FallsBack : RetryState → RetryState → Type 0
FallsBack old new =
    (address : Address) × NamesTarget old new address × (old.fallback ≡ address ∷ new.fallback)

-- the same address is the next target once more, and no place to fall back on is taken
abbrev pub AsksAgain : RetryState → RetryState → Type 0
AsksAgain old new =
    (address : Address) × (old.target ≡ Some address) × NamesTarget old new address
    × (new.fallback ≡ old.fallback)

-- no target is named, now and later
abbrev pub HasEnded : RetryState → Type 0
HasEnded retry = (retry.target ≡ None) × (retry.left ≡ 0)

-- what is tried for a route: its part, its places, which are its own node and then those to fall
-- back on, and how many retries it has
pub record Try : Type 0 where
  pub part : List (List ℕ)
  pub places : List Address
  pub retries : ℕ

abbrev pub is_refusal : Ending → Bool
is_refusal (refused error) = true
is_refusal _ = false

-- how many of the attempts were refused
abbrev pub refusals : List Entry → ℕ
refusals attempts = count_by (λ e. is_refusal e.ending) attempts

-- how the last of them ended, or the given ending if there are none
abbrev pub last_or : Option Ending → List Entry → Option Ending
last_or ending [] = ending
last_or ending (e ∷ attempts) = last_or (Some e.ending) attempts

abbrev pub last_ending : List Entry → Option Ending
last_ending attempts = last_or None attempts

-- Where the next attempt goes, after this many refusals. After a redirect it goes to the address of
-- the redirect, else to the place of that number. After an answer or a lost reply there is none.
abbrev pub next_place : List Address → ℕ → Option Ending → Option Address
next_place places count None = slice_get places count
next_place places count (Some answered) = None
next_place places count (Some (refused error)) = slice_get places count
next_place places count (Some (redirected redirect)) = Some (redirect_address redirect)
next_place places count (Some (lost error)) = None

abbrev pub next_address : List Address → List Entry → Option Address
next_address places attempts = next_place places (refusals attempts) (last_ending attempts)

-- The first attempts of a route. Each has its part, and goes where the attempts before it lead.
-- There is at most one more than the route has retries.
pub record AreBegun (try : Try) (attempts : List Entry) : Type 0 where
  pub part : All (λ e. e.args ≡ try.part) attempts
  pub address : (number : ℕ) (e : Entry) → slice_get attempts number ≡ Some e
      → next_address try.places (take number attempts) ≡ Some e.node
  pub most : length attempts ≤ try.retries + 1

-- all of them: the next one has nowhere to go, or no retry is left
pub record AreAttempts (try : Try) (attempts : List Entry) : Type 0 where
  pub begun : AreBegun try attempts
  pub done : (next_address try.places attempts ≡ None) ⊎ (length attempts ≡ try.retries + 1)

-- the first of them, after which one more may come
pub record AreUnfinished (try : Try) (attempts : List Entry) : Type 0 where
  pub begun : AreBegun try attempts
  pub next : IsSome (next_address try.places attempts)
  pub fewer : length attempts ≤ try.retries

-- attempts of which the last ended so, or the first ones if memory ran out before a send
abbrev pub AreEndedSo : Try → Option Ending → List Entry → Type 0
AreEndedSo try None attempts = AreUnfinished try attempts
AreEndedSo try (Some ending) attempts =
    AreAttempts try attempts × (last_ending attempts ≡ Some ending)

-- the trace grew by the attempts of a route, which ended so
pub record AttemptsOf (try : Try) (ending : Option Ending) (old new : List Entry) : Type 0 where
  pub attempts : List Entry
  pub grew : new ≡ old ++ attempts
  pub ended : AreEndedSo try ending attempts

-- the trace grew by what was tried for each, one after the other, and the last attempt of each was
-- answered
abbrev pub SentInTurn : List Try → (old new : List Entry) → Type 0
SentInTurn [] old new = new ≡ old
SentInTurn (try ∷ tries) old new =
    (mid : List Entry) × AttemptsOf try (Some answered) old mid × SentInTurn tries mid new

-- the last send was allowed to end so; if memory ran out before a send, the mark says so
abbrev pub IsCause : (ℕ → Ending → Type 0) → ℕ → Bool → Option Ending → Type 0
IsCause may_refuse entries mark (Some ending) =
    (before : ℕ) → entries ≡ before + 1 → may_refuse before ending
IsCause may_refuse entries mark None = mark ≡ true

-- each entry that the trace grew by was answered, or its send was allowed to end so
pub record AreAllowed (may_refuse : ℕ → Ending → Type 0) (old new : List Entry) : Type 0 where
  pub entries : List Entry
  pub grew : new ≡ old ++ entries
  pub each : (number : ℕ) (e : Entry) → slice_get entries number ≡ Some e
      → (e.ending ≡ answered) ⊎ may_refuse (length old + number) e.ending

abbrev pub is_answered : Ending → Bool
is_answered answered = true
is_answered _ = false

-- Attempts that end with an answer have no other answered entry: no part is sent again that was
-- answered.
abbrev pub HaveOneAnswer : Type 0
HaveOneAnswer =
    (try : Try) (attempts : List Entry) → AreEndedSo try (Some answered) attempts
    → count_by (λ e. is_answered e.ending) attempts ≡ 1
