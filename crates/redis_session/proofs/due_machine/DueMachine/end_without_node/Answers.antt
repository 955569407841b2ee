use Rattle.redis_session.proofs.DoneReplies.{noted_but}
use Rattle.std.proofs.Common.{refl}
use Rattle.session_core.specs.State.{End}
use Rattle.session_core.specs.declared.part.Cause.TheVariants.{NoNode}
use Rattle.redis_session.proofs.due_machine.DueMachine.end_without_node.Goals as goal

pub note_call-requires : goal.note_call-requires
note_call-requires c = noted_but c.self.inside.due c.self.inside.machine c.end_without_node.new.self (End c.args.call c.args.part NoNode) (c.end_without_node.ensures.ended c.if-not-end_without_node.false) c.self.invariant c.args.call refl
