use Rattle.session_machine.specs.Callers.{order_of}
use Rattle.session_machine.proofs.CallerMaps.{none_there}
use Rattle.session_machine.proofs.callers.Callers.askable_in.Goals as goal

pub returns-in-None-clause-asks : goal.returns-in-None-clause-asks
returns-in-None-clause-asks c = λ place link may of. none_there place (order_of c.args.caller c.args.self.now) may.it c.in-None.ensures.none may.there
