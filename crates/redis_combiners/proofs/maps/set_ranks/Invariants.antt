use Rattle.std.proofs.Common.{◌≡◌}
use Rattle.redis_combiners.proofs.maps.set_ranks.Given as goal

abbrev pub invariant-loop-index : goal.invariant-loop-index
invariant-loop-index l = l.totals.items ≡ l.fn.totals.items
