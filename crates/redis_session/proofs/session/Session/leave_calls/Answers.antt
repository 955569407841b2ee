use Rattle.std.proofs.Common.{◌∙◌, sym}
use Rattle.redis_session.specs.SessionView.{view_of}
use Rattle.redis_session.proofs.Leads.{leads_leave}
use Rattle.redis_session.proofs.session.Session.leave_calls.Goals as goal

pub loop-preserved : goal.loop-preserved
loop-preserved c =
    leads_leave c.args.self.now (view_of c.self-in-loop.inside) c.loop.self c.in-Some.call c.leave.new.self c.forget_call.new.self c.without_call-self-inside.result c.trim.new.self c.loop.invariant c.self-in-loop.view_is
    (c.leave.ensures.left c.if-not-leave.false) (sym c.is_of.ensures ∙ c.if-is_of.false) c.forget_call.ensures c.without_call-self-inside.ensures c.trim.ensures
