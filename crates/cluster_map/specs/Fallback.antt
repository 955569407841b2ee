-- The nodes that a read may go to if the node of its route fails.
use Rattle.std.specs.Prelude.{◌≡◌, ◌⊎◌, List, [], ◌∷◌, ◌++◌}
use Rattle.cluster_slots.specs.Address.{Address}
use Rattle.cluster_slots.specs.SlotRoute.{SlotRoute}
use Rattle.cluster_slots.specs.declared.slot.SlotAddr.{SlotAddr}
use Rattle.cluster_slots.specs.declared.slot.SlotAddr.TheVariants.{Master, ReplicaOptional, ReplicaRequired}
use Rattle.cluster_map.specs.SlotNodes.{SlotNodes}
use Rattle.cluster_map.specs.RangeMap.{RangeEntry, IsAnswerAt, IsUncovered}

-- none for a route to the primary; for reads the replicas, and then the primary unless a replica is
-- required
abbrev pub fallback : SlotNodes → SlotAddr → List Address
fallback nodes Master = []
fallback nodes ReplicaOptional = nodes.replicas ++ nodes.primary ∷ []
fallback nodes ReplicaRequired = nodes.replicas

-- the fallback in the entry for the route's slot, or no address if no entry answers for it
abbrev pub IsFallback : List (RangeEntry SlotNodes) → SlotRoute → List Address → Type 0
IsFallback entries route addresses =
    (IsUncovered entries route.slot × (addresses ≡ []))
    ⊎ ((nodes : SlotNodes) × IsAnswerAt entries route.slot nodes
    × (addresses ≡ fallback nodes route.addr))
