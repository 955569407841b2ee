use Rattle.std.proofs.Common.{ℕ, refl, subst}
use Rattle.session_core.specs.Order.{MayAsk}
use Rattle.session_machine.specs.Callers.{order_of}
use Rattle.session_machine.proofs.part_places.is_askable.Goals as goal

pub returns-in-Some-clause-yes : goal.returns-in-Some-clause-yes
returns-in-Some-clause-yes c = λ t.
    let m = c.in-Some.ensures.may c.in-Some.askable.place c.args.link (refl, c.is_on.ensures.yes t) in
    subst (λ (n : ℕ). MayAsk n c.args.link (order_of c.args.caller c.args.callers.now)) m.0 m.1

pub returns-in-None-clause-no : goal.returns-in-None-clause-no
returns-in-None-clause-no c = λ _ m. c.in-None.ensures.asks c.args.link m
