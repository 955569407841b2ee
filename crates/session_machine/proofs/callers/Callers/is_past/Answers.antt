use Rattle.std.proofs.Common.{◌<◌, ◌≤◌, subst, ap, arith}
use Rattle.session_core.specs.Order.{Order, IsTrimmed}
use Rattle.session_machine.specs.Callers.{order_of}
use Rattle.session_machine.proofs.CallerMaps.{no_front}
use Rattle.session_machine.proofs.callers.Callers.is_past.Goals as goal

pub returns-in-Some-clause-past : goal.returns-in-Some-clause-past
returns-in-Some-clause-past c = λ yes. subst (λ (o : Order). c.args.place < o.first) c.in-Some.ensures.some (c.is_past.ensures.past yes)

pub returns-in-Some-clause-not : goal.returns-in-Some-clause-not
returns-in-Some-clause-not c = λ no. subst (λ (o : Order). o.first ≤ c.args.place) c.in-Some.ensures.some (c.is_past.ensures.not no)

pub returns-in-Some-clause-front : goal.returns-in-Some-clause-front
returns-in-Some-clause-front c = subst IsTrimmed c.in-Some.ensures.some c.is_past.ensures.front

pub returns-in-None-clause-not : goal.returns-in-None-clause-not
returns-in-None-clause-not c = λ no. let e = ap (λ (o : Order). o.first) c.in-None.ensures.none in omega (arith, e)

pub returns-in-None-clause-front : goal.returns-in-None-clause-front
returns-in-None-clause-front c = no_front (order_of c.args.caller c.args.self.now) c.in-None.ensures.none
