use Rattle.std.proofs.Common.{◌≡◌, ◌<◌, ◌^◌, ◌+◌, drop, map}
use Rattle.redis_routing.specs.Command.{argument}
use Rattle.redis_routing.specs.SubCommand.{bytes_in, saturated}
use Rattle.redis_routing.proofs.sub_commands.args_len.Given as goal

-- the bytes so far and those that are left
abbrev pub invariant-loop-index : goal.invariant-loop-index
invariant-loop-index g l =
    (l.len < 2 ^ 64)
    × (saturated (l.len + bytes_in (map (λ place. argument (g.R.Routable.args l.original) (place + l.words)) (drop l.index-index l.indices)))
    ≡ saturated (bytes_in (map (λ place. argument (g.R.Routable.args l.original) (place + l.words)) l.indices)))
