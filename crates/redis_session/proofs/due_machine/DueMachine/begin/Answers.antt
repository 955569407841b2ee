use Rattle.std.proofs.Common.{◌≢◌, length, refl, arith}
use Rattle.session_core.specs.State.{Begin}
use Rattle.redis_session.proofs.DoneReplies.{noted_begun, noted_but}
use Rattle.redis_session.proofs.due_machine.DueMachine.begin.Goals as goal

pub note_call-requires : goal.note_call-requires
note_call-requires c = noted_but c.self.inside.due c.self.inside.machine c.begin.new.self (Begin c.in_ok-call.call c.args.caller c.args.parts.items) c.in_ok-call.ensures.ok c.self.invariant c.in_ok-call.call refl

pub invariant_of-self-else-count-eq0 : goal.invariant_of-self-else-count-eq0
invariant_of-self-else-count-eq0 c =
    let some : length c.args.parts.items ≢ 0 = omega arith in
    noted_begun c.self.inside.due c.self.inside.machine c.begin.new.self c.in_ok-call.call c.args.caller c.args.parts.items c.self.invariant c.in_ok-call.ensures.ok some
