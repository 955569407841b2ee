use Rattle.std.proofs.Common.{◌≡◌, map, take}
use Rattle.redis_cluster.specs.Ready.{targets}
use Rattle.uses.proofs.batcher.send_parts.Given as goal

-- the parts of the first routes are listed, each with its node
abbrev pub invariant-loop-number : goal.invariant-loop-number
invariant-loop-number g l = map (λ part. (part.0.now, part.1.now)) l.parts.items ≡ take l.number (targets l.plan)
