-- Primaries of ranges.
use Rattle.std.proofs.Common.{◌≡◌, List, [], ◌∷◌, ◌++◌, map, refl, ap}
use Rattle.cluster_slots.specs.Address.{Address}
use Rattle.cluster_map.specs.SlotNodes.{SlotNodes}
use Rattle.cluster_map.specs.RangeMap.{RangeEntry, value_of}

abbrev pub range_primary : SlotNodes → Address
range_primary n = n.primary

pub primaries_last : (ns : List SlotNodes) (n : SlotNodes) → map range_primary (ns ++ n ∷ []) ≡ map range_primary ns ++ n.primary ∷ []
primaries_last [] n = refl
primaries_last (m ∷ ms) n = ap (λ z. m.primary ∷ z) (primaries_last ms n)

pub primaries_in : (es : List (RangeEntry SlotNodes)) → map range_primary (map value_of es) ≡ map (λ (e : RangeEntry SlotNodes). (value_of e).primary) es
primaries_in [] = refl
primaries_in (e ∷ es) = ap (λ z. (value_of e).primary ∷ z) (primaries_in es)
