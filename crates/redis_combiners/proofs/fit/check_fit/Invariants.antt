use Rattle.std.proofs.Common.{◌≡◌, drop, map}
use Rattle.resp_core.specs.View.{view}
use Rattle.redis_combiners.specs.Misfits.{first_misfit}
use Rattle.redis_combiners.proofs.fit.check_fit.Given as goal

abbrev pub invariant-loop-k : goal.invariant-loop-k
invariant-loop-k l = first_misfit (map view (drop l.k l.values)) (drop l.k l.counts) ≡ first_misfit (map view l.values) l.counts
