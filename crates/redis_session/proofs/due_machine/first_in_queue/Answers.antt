use Rattle.redis_session.proofs.DoneReplies.{fewer, noted_dropped}
use Rattle.redis_session.proofs.due_machine.first_in_queue.Goals as goal

pub loop-caller-smaller : goal.loop-caller-smaller
loop-caller-smaller c = fewer c.loop-caller.due.callers.items c.drop_first.new.self.callers.items c.in-Some.caller c.in-Some.ensures.some c.drop_first.ensures.callers

pub loop-caller-preserved : goal.loop-caller-preserved
loop-caller-preserved c = noted_dropped c.loop-caller.due c.drop_first.new.self c.args.machine.now c.in-Some.caller c.loop-caller.invariant c.in-Some.ensures.some c.in_default-done_call.ensures.none c.drop_first.ensures.callers c.drop_first.ensures.from c.drop_first.ensures.first
