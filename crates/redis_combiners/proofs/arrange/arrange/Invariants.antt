use Rattle.std.proofs.Common.{map, vec_len}
use Rattle.resp_core.specs.View.{view}
use Rattle.redis_combiners.proofs.Left.{Left, whole_of}
use Rattle.redis_combiners.proofs.arrange.arrange.Given as goal

abbrev pub invariant-loop-value : goal.invariant-loop-value
invariant-loop-value l = Left l.taken.items (map view l.sorted.items) (map view l.values.items) l.places l.end (whole_of l.places (map view l.fn.values.items))

abbrev pub decreases-loop-value : goal.decreases-loop-value
decreases-loop-value l = vec_len l.values
