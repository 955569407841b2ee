use Rattle.std.proofs.Common.{◌≡◌, ◌+◌, drop, map}
use Rattle.cluster_slots.specs.Lists.{all_some}
use Rattle.redis_routing.specs.Command.{argument}
use Rattle.redis_routing.specs.SubCommand.{sub_command_after}
use Rattle.redis_routing.proofs.SubCommands.{before}
use Rattle.redis_routing.proofs.sub_commands.sub_command.Given as goal

abbrev pub invariant-loop-index : goal.invariant-loop-index
invariant-loop-index g l =
    before l.command (all_some (map (λ place. argument (g.R.Routable.args l.original) (place + l.words)) (drop l.index-index l.indices)))
    ≡ sub_command_after l.words (g.R.Routable.args l.original) l.indices
