use Rattle.std.proofs.Common.{◌≡◌, ◌-◌, ◌^◌, map, drop, pos}
use Rattle.std.specs.Int.{int_min}
use Rattle.resp_core.specs.View.{view}
use Rattle.redis_combiners.proofs.Running.{fold_on}
use Rattle.redis_combiners.proofs.sums.least.Given as goal

abbrev pub invariant-loop-value : goal.invariant-loop-value
invariant-loop-value l = fold_on int_min l.least (map view (drop l.value-index l.values)) ≡ fold_on int_min (pos (2 ^ 63 - 1)) (map view l.values)
