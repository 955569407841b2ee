-- Of a list with one item for each tuple, the items of one slot.
use Rattle.std.specs.Prelude.{ℕ, List, filter, map, nat_eq}
use Rattle.std.specs.List.{zip}
use Rattle.cluster_slots.specs.KeySlot.{key_slot}
use Rattle.redis_cluster.specs.MultiKey.{KeyTuple}

-- the items at the tuples whose key has the slot, in their order
--
-- `MGET a b {a}c`, one item for each key: the slot of `a` has the first and the third
abbrev pub items_of_slot : {X : Type 0} → ℕ → List KeyTuple → List X → List X
items_of_slot slot tuples items =
    map (λ p. p.1) (filter (λ p. nat_eq (key_slot p.0.key) slot) (zip tuples items))
