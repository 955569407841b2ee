use Rattle.std.proofs.Common.{◌≡◌, ◌+◌, ◌-◌, ℕ, List, slice_get, vec_len}
use Rattle.redis_routing.specs.Inner.NameSpots.{names_in_trees, is_in}
use Rattle.redis_routing.proofs.read_only.reach.Given as goal

abbrev pub invariant-loop-alloc : goal.invariant-loop-alloc
invariant-loop-alloc l = record {
  names : names_in_trees l.trees.items ≡ names_in_trees l.fn.trees.items;
  spots : (q : List ℕ) (at : ℕ) → is_in q (slice_get l.trees.items at) ≡ is_in q (slice_get l.fn.trees.items at);
}

abbrev pub decreases-loop-alloc : goal.decreases-loop-alloc
decreases-loop-alloc l = l.spot + 1 - vec_len l.trees
