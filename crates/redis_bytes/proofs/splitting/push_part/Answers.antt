use Rattle.std.proofs.Common.{◌≡◌, ◌∙◌, ℕ, Some, ap, map, sym}
use Rattle.std.proofs.lemmas.Result.{on_ok_weaker}
use Rattle.redis_routing.specs.Command.{Arguments}
use Rattle.redis_routing.specs.NameWords.{name_words_of}
use Rattle.redis_routing.specs.SubCommand.{sub_command_after}
use Rattle.redis_routing.proofs.Picks.{route_sub_command}
use Rattle.redis_bytes.proofs.splitting.push_part.Goals as goal

pub returns-clause-part : goal.returns-clause-part
returns-clause-part c =
    let split = c.args.split.now in
    let route = c.index-routes-number.result in
    let whole = route_sub_command split c.routes.ensures.split c.routes.result.now c.args.number route c.routes.ensures.routes c.requires.within c.index-routes-number.is in
    let part = whole.0 in
    let asked : sub_command_after c.words.result (map Some c.args.command.now) c.deref.result.now ≡ Some part =
    ap (λ (w : ℕ). sub_command_after w (map Some c.args.command.now) c.deref.result.now) c.words.ensures
    ∙ ap (λ (a : Arguments). sub_command_after (name_words_of split.arguments) a c.deref.result.now) (sym c.requires.command)
    ∙ ap (sub_command_after (name_words_of split.arguments) split.arguments) (c.deref.ensures.value ∙ ap (λ r. r.1.items) (sym c.index-routes-number.is)) ∙ whole.1 in
    on_ok_weaker c.push_args.result (λ written. (part, whole.2, written part asked)) c.push_args.ensures.part
