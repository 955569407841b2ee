use Rattle.std.proofs.Common.{◌∙◌}
use Rattle.redis_routing.proofs.SubCommands.{name_more}
use Rattle.redis_routing.proofs.sub_commands.name_of.Goals as goal

pub loop-place-preserved : goal.loop-place-preserved
loop-place-preserved g c =
    let args = g.R.Routable.args c.args.original.now in
    rw c.in_ok-write_arg.ensures.added (name_more args c.args.words c.loop-place.place c.loop-place.command c.in-Some.word.now c.loop-place-test.true c.in-Some.ensures.argument ∙ c.loop-place.invariant)
