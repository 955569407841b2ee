-- The nine names of commands over many keys.
use Rattle.std.specs.Prelude.{ℕ, List, [], ◌∷◌, codes}
use Rattle.cluster_slots.specs.declared.aggregate_op.AggregateOp.TheVariants.{Sum}
use Rattle.cluster_slots.specs.declared.arg_pattern.MultiSlotArgPattern.{MultiSlotArgPattern}
use Rattle.cluster_slots.specs.declared.arg_pattern.MultiSlotArgPattern.TheVariants.{KeysOnly, KeyValuePairs, KeysAndLastArg, KeyWithTwoArgTriples}
use Rattle.redis_routing.specs.declared.policy.ResponsePolicy.{ResponsePolicy}
use Rattle.redis_routing.specs.declared.policy.ResponsePolicy.TheVariants.{AllSucceeded, Aggregate, CombineArrays}

-- Each name stands with how its arguments make tuples, and how the replies to its parts make one.
-- `DEL a b` has the tuples `a` and `b`, and adds the counts of its parts up.
-- `MSET a 1 b 2` has the tuples `a 1` and `b 2`, and is done once each part succeeded.
abbrev pub multi_key_names : List (List ℕ × (MultiSlotArgPattern × ResponsePolicy))
multi_key_names =
    (codes "MGET", (KeysOnly, CombineArrays))
    ∷ (codes "DEL", (KeysOnly, Aggregate Sum))
    ∷ (codes "EXISTS", (KeysOnly, Aggregate Sum))
    ∷ (codes "UNLINK", (KeysOnly, Aggregate Sum))
    ∷ (codes "TOUCH", (KeysOnly, Aggregate Sum))
    ∷ (codes "WATCH", (KeysOnly, AllSucceeded))
    ∷ (codes "MSET", (KeyValuePairs, AllSucceeded))
    ∷ (codes "JSON.MGET", (KeysAndLastArg, CombineArrays))
    ∷ (codes "JSON.MSET", (KeyWithTwoArgTriples, AllSucceeded))
    ∷ []
