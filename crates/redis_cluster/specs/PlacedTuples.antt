-- The tuples of a command by the indices of their arguments, as its split has them.
use Rattle.std.specs.Prelude.{ℕ, List, map}
use Rattle.cluster_slots.specs.declared.arg_pattern.MultiSlotArgPattern.{MultiSlotArgPattern}
use Rattle.redis_routing.specs.Tuples.{Tuple, tuples_in}
use Rattle.redis_cluster.specs.MultiKey.{KeyTuple}

-- a tuple without its place
abbrev pub unplaced : Tuple → KeyTuple
unplaced t = record { key = t.key; extras = t.extras }

abbrev pub tuples_of : MultiSlotArgPattern → List (List ℕ) → List KeyTuple
tuples_of pattern present = map unplaced (tuples_in pattern present)
