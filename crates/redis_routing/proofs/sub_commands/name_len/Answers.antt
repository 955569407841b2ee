use Rattle.std.proofs.Common.{◌∙◌, ap, arith}
use Rattle.redis_routing.specs.SubCommand.{text_len}
use Rattle.redis_routing.proofs.SubCommands.{name_bytes_more}
use Rattle.redis_routing.proofs.sub_commands.name_len.Goals as goal

pub loop-place-preserved : goal.loop-place-preserved
loop-place-preserved g c =
    let args = g.R.Routable.args c.args.original.now in
    let more = name_bytes_more args c.args.words c.loop-place.place c.loop-place-test.true in
    let word = c.arg_len.ensures ∙ ap text_len c.arg_idx.ensures.argument in
    grind (arith, more, word)
