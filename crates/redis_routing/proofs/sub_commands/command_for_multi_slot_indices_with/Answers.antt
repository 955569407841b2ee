use Rattle.std.proofs.Common.{◌+◌, map, refl, sym, inl}
use Rattle.redis_routing.specs.Command.{argument}
use Rattle.redis_routing.proofs.SubCommands.{no_last_word}
use Rattle.redis_routing.proofs.sub_commands.command_for_multi_slot_indices_with.Goals as goal

pub returns-then-lacks_last_word-clause-refused : goal.returns-then-lacks_last_word-clause-refused
returns-then-lacks_last_word-clause-refused g c =
    let args = g.R.Routable.args c.args.original.now in
    let last = c.if-lacks_last_word.ensures refl in
    inl (sym (no_last_word args (map (λ place. argument args (place + c.args.words)) c.args.indices.now) c.args.words last.0 last.1), c.missing_argument.ensures)
