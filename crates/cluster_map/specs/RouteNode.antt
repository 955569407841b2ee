-- The node of a route.
use Rattle.std.specs.Prelude.{◌≡◌, ◌<◌, ℕ, ◌%◌, List, Option, Some, None, MatchOption, length, slice_get}
use Rattle.cluster_slots.specs.Address.{Address}
use Rattle.cluster_slots.specs.SlotRoute.{SlotRoute}
use Rattle.cluster_slots.specs.declared.slot.SlotAddr.{SlotAddr}
use Rattle.cluster_slots.specs.declared.slot.SlotAddr.TheVariants.{Master, ReplicaOptional, ReplicaRequired}
use Rattle.cluster_map.specs.Candidates.{Candidates, IsCandidate}
use Rattle.cluster_map.specs.SlotNodes.{SlotNodes}
use Rattle.cluster_map.specs.RangeMap.{RangeEntry, IsAnswerAt}

-- without a strategy: the primary, or the replica at `pick` modulo their number, if a replica is
-- required and there is one
abbrev pub IsNodeFor : SlotNodes → SlotAddr → ℕ → Address → Type 0
IsNodeFor nodes Master pick address = address ≡ nodes.primary
IsNodeFor nodes ReplicaOptional pick address = address ≡ nodes.primary
IsNodeFor nodes ReplicaRequired pick address =
    MatchOption (slice_get nodes.replicas (pick % length nodes.replicas)) (address ≡ nodes.primary)
    (λ replica. address ≡ replica)

-- a candidate that the strategy picks, or the primary if there is no replica
abbrev pub IsPick : (Candidates → Address → Type 0) → SlotNodes → Candidates → Address → Type 0
IsPick picks nodes candidates address =
    (length nodes.replicas ≡ 0 → address ≡ nodes.primary)
    × (0 < length nodes.replicas → picks candidates address × IsCandidate candidates address)

-- with a strategy, which is asked for reads only; if a replica is required, the primary is no
-- candidate
abbrev pub IsPicked : (Candidates → Address → Type 0) → SlotNodes → ℕ → SlotAddr → Address → Type 0
IsPicked picks nodes slot Master address = address ≡ nodes.primary
IsPicked picks nodes slot ReplicaOptional address =
    IsPick picks nodes
    (record { slot = slot; primary = Some nodes.primary; replicas = nodes.replicas }) address
IsPicked picks nodes slot ReplicaRequired address =
    IsPick picks nodes (record { slot = slot; primary = None; replicas = nodes.replicas }) address

-- without a strategy, the route's node in the entry that answers for its slot
abbrev pub IsNodeOfRoute : List (RangeEntry SlotNodes) → SlotRoute → ℕ → Address → Type 0
IsNodeOfRoute entries route pick address =
    (nodes : SlotNodes) × IsAnswerAt entries route.slot nodes
    × IsNodeFor nodes route.addr pick address

-- with a strategy, the route's node in the entry that answers for its slot
abbrev pub IsPickedNode : (Candidates → Address → Type 0) → List (RangeEntry SlotNodes) → SlotRoute
    → Address → Type 0
IsPickedNode picks entries route address =
    (nodes : SlotNodes) × IsAnswerAt entries route.slot nodes
    × IsPicked picks nodes route.slot route.addr address

-- the node of a route: by the strategy if one is passed, else by `pick`
abbrev pub IsRouteNode : {S : Type 0} → Option S → (S → Candidates → Address → Type 0)
    → List (RangeEntry SlotNodes) → ℕ → SlotRoute → Address → Type 0
IsRouteNode strategy picks_of entries pick route address =
    MatchOption strategy (IsNodeOfRoute entries route pick address)
    (λ s. IsPickedNode (picks_of s) entries route address)
