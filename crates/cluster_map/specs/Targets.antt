-- What references point to.
use Rattle.std.specs.Prelude.{List, ◌∷◌, map, Option, Some, None}
use denote.Ref.{Bor}
use Rattle.cluster_slots.specs.Address.{Address}
use Rattle.cluster_map.specs.declared.slot_map.addresses.NodeAddresses.{NodeAddresses}

abbrev pub addresses_behind : List (Bor Address) → List Address
addresses_behind refs = map (λ r. r.now) refs

abbrev pub then_all : Option (Bor Address) → List Address → List Address
then_all None rest = rest
then_all (Some r) rest = r.now ∷ rest

-- what the iterator has still to give
abbrev pub left_in : NodeAddresses → List Address
left_in it = then_all it.primary it.replicas.now
