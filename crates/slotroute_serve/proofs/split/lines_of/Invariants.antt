use Rattle.std.proofs.Common.{take}
use Rattle.redis_cluster.specs.Split.{split_part}
use Rattle.redis_cluster.specs.RoutingInfo.{route_lists}
use Rattle.slotroute_serve.specs.Split.{ArePartLines}
use Rattle.slotroute_serve.proofs.split.lines_of.Given as goal

-- the lines so far are those of the routes so far
abbrev pub invariant-loop-number : goal.invariant-loop-number
invariant-loop-number l = ArePartLines l.slot_map (split_part l.split) (route_lists (take l.number l.routes)) l.lines.items l.status
