use Rattle.std.proofs.Common.{◌≡◌, ◌-◌, map}
use Rattle.std.specs.List.{range_with_len}
use Rattle.cluster_slots.specs.Lists.{all_some}
use Rattle.redis_routing.specs.Command.{argument}
use Rattle.redis_routing.proofs.SubCommands.{before}
use Rattle.redis_routing.proofs.sub_commands.name_of.Given as goal

-- the words so far and those that are left
abbrev pub invariant-loop-place : goal.invariant-loop-place
invariant-loop-place g l =
    before l.command (all_some (map (λ place. argument (g.R.Routable.args l.original) place) (range_with_len l.place (l.words - l.place))))
    ≡ all_some (map (λ place. argument (g.R.Routable.args l.original) place) (range_with_len 0 l.words))
