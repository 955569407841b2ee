use Rattle.redis_session.proofs.DoneReplies.{noted_either}
use Rattle.std.proofs.Common.{refl}
use Rattle.session_core.specs.LinkEvents as link
use Rattle.session_core.specs.State.{On}
use Rattle.redis_session.proofs.due_machine.DueMachine.hear.Goals as goal

pub invariant_of-self : goal.invariant_of-self
invariant_of-self c = noted_either c.self.inside.due c.self.inside.machine c.hear.new.self (On c.args.number (link.Hear c.args.bytes.now)) (On c.args.number link.Miss) c.hear.result refl refl c.self.invariant c.hear.ensures.ok c.hear.ensures.err
