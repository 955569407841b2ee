use Rattle.std.proofs.Common.{◌≡◌, ◌<◌, Some, None, refl, ap, sym, subst, ◌∙◌, length, map}
use Rattle.redis_routing.specs.NameWords.{name_words_of}
use Rattle.redis_routing.specs.Split.{Split, route_part}
use Rattle.redis_routing.specs.SubCommand.{sub_command_after}
use Rattle.redis_routing.proofs.Picks.{route_sub_command}
use Rattle.redis_routing.proofs.split_command.SplitCommand.part.Goals as goal

pub unreachable-requires : goal.unreachable-requires
unreachable-requires g c =
    let args = g.R.Routable.args c.self.inside.command.now in
    let inside = subst (λ (s : Split). c.args.number < length s.routes) (sym c.self.view_is) c.requires in
    let whole = route_sub_command _ c.self.invariant.0 c.self.inside.routes.items c.args.number c.index.result.now refl inside c.index.ensures in
    let made : sub_command_after (name_words_of args) args c.index.result.now.1.items ≡ None = ap (λ w. sub_command_after w args c.index.result.now.1.items) (sym c.self.invariant.1) ∙ ap (sub_command_after c.self.inside.words args) (sym c.deref.ensures.value) ∙ sym c.in_ok-part.ensures ∙ c.in_default.is in
    cc (whole.1, made)

pub returns : goal.returns
returns g c =
    let args = g.R.Routable.args c.self.inside.command.now in
    let inside = subst (λ (s : Split). c.args.number < length s.routes) (sym c.self.view_is) c.requires in
    let whole = route_sub_command _ c.self.invariant.0 c.self.inside.routes.items c.args.number c.index.result.now refl inside c.index.ensures in
    let made : sub_command_after (name_words_of args) args c.index.result.now.1.items ≡ Some c.in-Some.part = ap (λ w. sub_command_after w args c.index.result.now.1.items) (sym c.self.invariant.1) ∙ ap (sub_command_after c.self.inside.words args) (sym c.deref.ensures.value) ∙ sym c.in_ok-part.ensures ∙ c.in-Some.is in
    let same : c.in-Some.part ≡ whole.0 = cc (whole.1, made) in
    ap (λ words. Some (map Some words)) same ∙ whole.2 ∙ ap (λ (s : Split). route_part s c.args.number) c.self.view_is
