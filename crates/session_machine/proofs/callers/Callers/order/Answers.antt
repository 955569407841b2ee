use Rattle.std.proofs.Common.{sym}
use Rattle.session_machine.specs.Caller.{no_calls}
use Rattle.session_machine.proofs.CallerMaps.{order_by, there, missing}
use Rattle.session_machine.proofs.callers.Callers.order.Goals as goal

pub returns-in-Some-clause-some : goal.returns-in-Some-clause-some
returns-in-Some-clause-some c =
    let was = c.in-Some.entry.now in
    sym (order_by c.args.caller c.args.self.now was (there c.args.caller c.args.self.now was c.in-Some.ensures.value))

pub returns-in-None-clause-none : goal.returns-in-None-clause-none
returns-in-None-clause-none c = order_by c.args.caller c.args.self.now no_calls (missing c.args.caller c.args.self.now c.in-None.ensures.value)
