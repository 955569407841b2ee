use Rattle.std.proofs.Common.{ap}
use Rattle.session_machine.specs.Ties.{is_owed}
use Rattle.session_machine.specs.Caller.{no_calls}
use Rattle.session_machine.proofs.CallerMaps.{owed_by, there, missing}
use Rattle.session_machine.proofs.callers.Callers.next_reply.Goals as goal

pub returns-in-Some-clause-some : goal.returns-in-Some-clause-some
returns-in-Some-clause-some c =
    let was = c.in-Some.entry.now in
    rw (owed_by c.args.caller c.args.self.now was (there c.args.caller c.args.self.now was c.in-Some.ensures.value)) c.first.ensures.some

pub returns-in-Some-clause-none : goal.returns-in-Some-clause-none
returns-in-Some-clause-none c =
    let was = c.in-Some.entry.now in
    rw (owed_by c.args.caller c.args.self.now was (there c.args.caller c.args.self.now was c.in-Some.ensures.value)) c.first.ensures.none

pub returns-in-None-clause-none : goal.returns-in-None-clause-none
returns-in-None-clause-none c = λ call. ap (is_owed call) (owed_by c.args.caller c.args.self.now no_calls (missing c.args.caller c.args.self.now c.in-None.ensures.value))
