use Rattle.std.proofs.Common.{inl}
use Rattle.redis_session.proofs.Leads.{all_then, hears_by, on_err, on_ok}
use Rattle.redis_session.proofs.session.Session.read.Goals as goal

pub returns-clause-ok : goal.returns-clause-ok
returns-clause-ok c is_open = on_ok c.step.result
    (hears_by c.args.link c.args.bytes.now c.args.self.now c.hear.new.self c.step.new.self c.in_ok-hear.ensures.ok
    (all_then c.args.link c.hear.new.self c.take_all.new.self c.step.new.self c.take_all.ensures c.step.ensures))

pub returns-clause-err : goal.returns-clause-err
returns-clause-err c is_open = on_err c.step.result
    (inl (hears_by c.args.link c.args.bytes.now c.args.self.now c.hear.new.self c.step.new.self c.in_ok-hear.ensures.ok
    (all_then c.args.link c.hear.new.self c.take_all.new.self c.step.new.self c.take_all.ensures c.step.ensures)))
