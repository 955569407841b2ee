use Rattle.std.proofs.Common.{refl, ap}
use Rattle.session_core.proofs.LinkSteps.{for_err}
use Rattle.session_machine.specs.Ties.{is_owed}
use Rattle.session_machine.proofs.OwedSets.{taken_back}
use Rattle.session_machine.proofs.caller.Caller.begin.Goals as goal

pub returns-in_err-push-clause-err : goal.returns-in_err-push-clause-err
returns-in_err-push-clause-err c = for_err c.from_residual.result (record { order = refl; owed = λ call. ap (is_owed call) c.in_err-push.ensures.err; last = refl })

pub returns-in-Err-clause-err : goal.returns-in-Err-clause-err
returns-in-Err-clause-err c = record {
  order = c.in-Err.ensures.err;
  owed = taken_back c.args.number c.args.self.now.owed c.push.new.self c.remove.new.self c.requires.later c.in_ok-push.ensures.ok c.remove.ensures;
  last = refl;
}
