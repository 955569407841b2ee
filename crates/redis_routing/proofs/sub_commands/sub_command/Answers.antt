use Rattle.std.proofs.Common.{◌+◌, map, ◌∙◌, sym, arith}
use Rattle.std.specs.List.{range_with_len}
use Rattle.std.proofs.lemmas.Grind.{common_steps}
use Rattle.redis_routing.specs.Command.{argument}
use Rattle.redis_routing.proofs.SubCommands.{before_more, name_before, name_gap}
use Rattle.redis_routing.proofs.sub_commands.sub_command.Goals as goal

pub returns-in_default : goal.returns-in_default
returns-in_default g c =
    let args = g.R.Routable.args c.args.original.now in
    name_gap (map (λ place. argument args place) (range_with_len 0 c.args.words)) (map (λ place. argument args (place + c.args.words)) c.args.indices.now) (sym c.in_default.is ∙ c.in_ok-command.ensures)

pub loop-index-init : goal.loop-index-init
loop-index-init g c =
    let args = g.R.Routable.args c.args.original.now in
    name_before (map (λ place. argument args place) (range_with_len 0 c.args.words)) (map (λ place. argument args (place + c.args.words)) c.args.indices.now) c.in-Some.command (sym c.in-Some.is ∙ c.in_ok-command.ensures)

pub loop-index-preserved : goal.loop-index-preserved
loop-index-preserved g c = grind (arith, common_steps, before_more)

pub returns-in_default-behind_name : goal.returns-in_default-behind_name
returns-in_default-behind_name g c = grind (arith, common_steps)
