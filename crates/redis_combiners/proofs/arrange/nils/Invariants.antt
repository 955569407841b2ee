use Rattle.std.proofs.Common.{◌≡◌, map, replicate}
use Rattle.resp_core.specs.Reply.{nil}
use Rattle.resp_core.specs.View.{view}
use Rattle.redis_combiners.proofs.arrange.nils.Given as goal

abbrev pub invariant-loop-i : goal.invariant-loop-i
invariant-loop-i l = map view l.values.items ≡ replicate l.i nil
