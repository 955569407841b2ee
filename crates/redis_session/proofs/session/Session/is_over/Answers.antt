use Rattle.std.proofs.Common.{sym, ◌∙◌}
use Rattle.redis_session.specs.SessionView.{view_of}
use Rattle.redis_session.proofs.GivenReplies.{over_done}
use Rattle.redis_session.proofs.session.Session.is_over.Goals as goal

pub returns-then-is_done : goal.returns-then-is_done
returns-then-is_done c = λ truth. over_done c.args.call (view_of c.self.inside) c.args.self.now c.in-Some.state.now c.self.view_is c.in-Some.ensures.some (sym c.is_done.ensures ∙ c.if-is_done.true)
