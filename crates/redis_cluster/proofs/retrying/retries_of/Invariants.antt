use Rattle.std.proofs.Common.{map, take}
use Rattle.std.specs.List.{AllZip, zip}
use Rattle.redis_cluster.specs.Retry.{IsRetryOf}
use Rattle.redis_cluster.proofs.retrying.retries_of.Given as goal

-- the retries so far are those of the routes so far
abbrev pub invariant-loop-number : goal.invariant-loop-number
invariant-loop-number g l =
    AllZip (IsRetryOf l.slot_map l.retries) (take l.number (zip (map (λ route. route.0) l.plan.split.routes) l.plan.nodes)) l.made.items
