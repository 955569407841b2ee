use Rattle.std.proofs.Common.{◌≡◌, length}
use Rattle.redis_routing.specs.Split.{slots_of}
use Rattle.redis_cluster.specs.Plan.{tuples_in_split}
use Rattle.redis_bytes.proofs.PartNumbers.{HasPlaces}
use Rattle.redis_bytes.proofs.places.places_in.Given as goal

-- the numbers of the first routes stand at their keys
abbrev pub invariant-loop-number : goal.invariant-loop-number
invariant-loop-number g l = record {
  long : length l.found.items ≡ length (tuples_in_split l.split);
  placed : HasPlaces (slots_of l.split.routes) (tuples_in_split l.split) l.number l.found.items;
}
