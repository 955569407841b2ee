use Rattle.redis_session.proofs.DoneReplies.{noted_ok}
use Rattle.session_core.specs.declared.link.Ticket.TheVariants.{Map}
use Rattle.std.proofs.Common.{refl, [], ◌∷◌}
use Rattle.session_core.specs.LinkEvents as link
use Rattle.session_core.specs.State.{On}
use Rattle.redis_session.proofs.due_machine.DueMachine.ask_map.Goals as goal

pub invariant_of-self : goal.invariant_of-self
invariant_of-self c = noted_ok c.self.inside.due c.self.inside.machine c.ask_map.new.self (On c.args.number (link.Put ((Map c.args.count, c.args.request.now) ∷ []))) c.ask_map.result refl c.self.invariant c.ask_map.ensures.ok c.ask_map.ensures.err
