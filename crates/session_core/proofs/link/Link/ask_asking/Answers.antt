use Rattle.std.proofs.Common.{◌∙◌, ap}
use Rattle.session_core.specs.Channel.{Channel}
use Rattle.session_core.proofs.LinkSteps.{asks_both}
use Rattle.session_core.proofs.link.Link.ask_asking.Goals as goal

pub returns-clause-ok : goal.returns-clause-ok
returns-clause-ok c =
    let opened = ap (λ (l : Channel). l.standing) c.self.view_is ∙ c.requires.open in
    rw (← c.self.view_is) (asks_both _ c.args.call c.args.part c.args.request.now c.in-Some.start c.in-Some-checked_add.end c.reserve.new.self.items c.push_back_reserved.new.self.items c.push_back_reserved-2.new.self.items c.push_both.new.self
    opened c.requires.some c.in-Some.ensures.1 c.in-Some-checked_add.ensures.1 c.in_ok-reserve.ensures.items c.push_back_reserved.ensures.items c.push_back_reserved-2.ensures.items c.in_ok-push_both.ensures.ok)
