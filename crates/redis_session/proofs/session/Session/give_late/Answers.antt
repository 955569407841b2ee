use Rattle.redis_session.specs.SessionView.{view_of}
use Rattle.redis_session.proofs.GivenReplies.{may_give_late}
use Rattle.redis_session.proofs.session.Session.give_late.Goals as goal

pub give-requires : goal.give-requires
give-requires c = may_give_late c.args.caller c.in-Some.call (view_of c.self.inside) c.args.self.now c.self.view_is c.in-Some.ensures.some (c.is_over.ensures c.if-not-is_over.false)
