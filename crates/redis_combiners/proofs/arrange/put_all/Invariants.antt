use Rattle.std.proofs.Common.{◌≡◌, ◌≤◌, length, map, take, vec_len}
use Rattle.resp_core.specs.View.{view}
use Rattle.redis_combiners.specs.Spots.{spots_of, filled}
use Rattle.redis_combiners.proofs.arrange.put_all.Given as goal

abbrev pub invariant-loop-item : goal.invariant-loop-item
invariant-loop-item l = record {
  few : length l.items.items ≤ length l.places;
  rest : filled (spots_of l.taken (map view l.sorted)) (take (length l.items.items) l.places) (map view l.items.items)
      ≡ filled (spots_of l.fn.taken (map view l.fn.sorted)) l.places (map view l.fn.items.items);
}

abbrev pub decreases-loop-item : goal.decreases-loop-item
decreases-loop-item l = vec_len l.items
