use Rattle.std.proofs.Common.{◌≡◌, ◌<◌, ◌^◌, ◌+◌, ◌-◌, map}
use Rattle.std.specs.List.{range_with_len}
use Rattle.redis_routing.specs.Command.{argument}
use Rattle.redis_routing.specs.SubCommand.{bytes_in, saturated}
use Rattle.redis_routing.proofs.sub_commands.name_len.Given as goal

-- the bytes so far and those that are left
abbrev pub invariant-loop-place : goal.invariant-loop-place
invariant-loop-place g l =
    (l.len < 2 ^ 64)
    × (saturated (l.len + bytes_in (map (λ place. argument (g.R.Routable.args l.original) place) (range_with_len l.place (l.words - l.place))))
    ≡ saturated (bytes_in (map (λ place. argument (g.R.Routable.args l.original) place) (range_with_len 0 l.words))))
