use Rattle.std.proofs.Common.{map}
use Rattle.resp_core.specs.View.{view}
use Rattle.redis_combiners.proofs.JoinedBits.{JoinedSoFar}
use Rattle.redis_combiners.proofs.logical.join.Given as goal

abbrev pub invariant-loop-i : goal.invariant-loop-i
invariant-loop-i l = JoinedSoFar l.op (map view l.row) (map view l.fn.row) (map view l.items) l.i
