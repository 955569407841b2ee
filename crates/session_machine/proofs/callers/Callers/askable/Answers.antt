use Rattle.session_machine.specs.Callers.{order_of}
use Rattle.session_machine.proofs.CallerMaps.{none_there}
use Rattle.session_machine.proofs.callers.Callers.askable.Goals as goal

pub returns-in-None-clause-asks : goal.returns-in-None-clause-asks
returns-in-None-clause-asks c = λ link may. none_there c.args.place (order_of c.args.caller c.args.self.now) may.it c.in-None.ensures.none may.there
