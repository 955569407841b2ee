use Rattle.std.proofs.Common.{◌≡◌, ◌*◌, ◌^◌, map, drop, pos, ◌+ℤ◌, neg_ℤ, ◌≤ℤ◌}
use Rattle.resp_core.specs.View.{view}
use Rattle.redis_combiners.proofs.Running.{fold_on}
use Rattle.redis_combiners.proofs.sums.sum.Given as goal

abbrev pub invariant-loop-value : goal.invariant-loop-value
invariant-loop-value l = record {
  so_far : fold_on ◌+ℤ◌ l.total (map view (drop l.value-index l.values)) ≡ fold_on ◌+ℤ◌ (pos 0) (map view l.values);
  low : neg_ℤ (pos (2 ^ 63 * l.value-index)) ≤ℤ l.total;
  high : l.total ≤ℤ pos (2 ^ 63 * l.value-index);
}
