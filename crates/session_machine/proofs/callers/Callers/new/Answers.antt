use Rattle.std.proofs.Common.{ap, Option}
use Rattle.std.specs.Option.{unwrap_or}
use Rattle.session_machine.specs.declared.caller.Caller.{Caller}
use Rattle.session_machine.specs.Caller.{no_calls}
use Rattle.session_machine.proofs.CallerMaps.{order_by, owed_by, unknown}
use Rattle.session_machine.proofs.callers.Callers.new.Goals as goal

pub returns-clause-order : goal.returns-clause-order
returns-clause-order c = λ caller. order_by caller (record { callers = c.new.result; spares = c.new-2.result }) no_calls (ap (λ (o : Option Caller). unwrap_or o no_calls) (c.new.ensures caller))

pub returns-clause-owed : goal.returns-clause-owed
returns-clause-owed c = λ caller. owed_by caller (record { callers = c.new.result; spares = c.new-2.result }) no_calls (ap (λ (o : Option Caller). unwrap_or o no_calls) (c.new.ensures caller))

pub returns-clause-last : goal.returns-clause-last
returns-clause-last c = λ caller. unknown caller (record { callers = c.new.result; spares = c.new-2.result }) (c.new.ensures caller)
