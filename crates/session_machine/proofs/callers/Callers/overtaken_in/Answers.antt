use Rattle.std.proofs.Common.{ℕ, IfNone, subst}
use Rattle.session_core.specs.Order.{Order, IsOf, IsOvertaken}
use Rattle.session_machine.specs.Callers.{order_of}
use Rattle.session_machine.proofs.CallerMaps.{none_there}
use Rattle.session_machine.proofs.callers.Callers.overtaken_in.Goals as goal

pub returns-in-Some-clause-none : goal.returns-in-Some-clause-none
returns-in-Some-clause-none c =
    let P : Order → Type 0 = λ o. IfNone c.overtaken_in.result ((place : ℕ) → IsOvertaken place o → IsOf c.args.slot place o → ⊥) in
    subst P c.in-Some.ensures.some c.overtaken_in.ensures.none

pub returns-in-None-clause-none : goal.returns-in-None-clause-none
returns-in-None-clause-none c = λ place over of. none_there place (order_of c.args.caller c.args.self.now) over.it c.in-None.ensures.none over.there
