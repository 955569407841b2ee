use Rattle.redis_session.proofs.DoneReplies.{noted_ok}
use Rattle.session_core.specs.declared.link.Ticket.TheVariants.{Login}
use Rattle.std.proofs.Common.{refl, [], ◌∷◌}
use Rattle.session_core.specs.LinkEvents as link
use Rattle.session_core.specs.State.{On}
use Rattle.redis_session.proofs.due_machine.DueMachine.ask_login.Goals as goal

pub invariant_of-self : goal.invariant_of-self
invariant_of-self c = noted_ok c.self.inside.due c.self.inside.machine c.ask_login.new.self (On c.args.number (link.Put ((Login, c.args.request.now) ∷ []))) c.ask_login.result refl c.self.invariant c.ask_login.ensures.ok c.ask_login.ensures.err
