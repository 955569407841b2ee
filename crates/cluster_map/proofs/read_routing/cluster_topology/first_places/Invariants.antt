use Rattle.std.proofs.Common.{◌≡◌, ◌<◌, ℕ, [], false, nat_eq, map, fold, length, get_or}
use Rattle.std.specs.List.{list_any}
use Rattle.cluster_map.specs.RangeMap.{value_of}
use Rattle.cluster_map.proofs.Filling.{AllBelow}
use Rattle.cluster_map.proofs.Members.{add_by}
use Rattle.cluster_map.proofs.read_routing.cluster_topology.first_places.Given as goal

-- the places that are left make of those listed what all make, and a flag tells which are listed
abbrev pub invariant-loop-place : goal.invariant-loop-place
invariant-loop-place l = record {
  can_next : (goal.iterator-loop-place).can_next l.place-iterator;
  is_finite : (goal.iterator-loop-place).is_finite l.place-iterator;
  left : fold (add_by nat_eq) l.places.items l.place-iterator ≡ fold (add_by nat_eq) [] (map value_of l.ranges);
  many : length l.is_listed.items ≡ l.count;
  flags : (k : ℕ) → k < l.count → get_or l.is_listed.items k false ≡ list_any (nat_eq k) l.places.items;
  below : AllBelow l.count l.place-iterator;
}
