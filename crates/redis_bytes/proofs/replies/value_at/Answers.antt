use Rattle.std.proofs.Common.{Ok, refl}
use Rattle.redis_bytes.proofs.Values.{no_answer}
use Rattle.redis_bytes.proofs.replies.value_at.Goals as goal

pub returns-in-Err-Fault-clause-only : goal.returns-in-Err-Fault-clause-only
returns-in-Err-Fault-clause-only c = λ reply form rest is e. absurd (no_answer c.args.bytes.now c.in-Err-Fault.fault (rw c.in-Err-Fault.field-0-is at c.in-Err-Fault.ensures.only) (Ok reply) form rest is e)

pub returns-in-Err-Fault-clause-fault : goal.returns-in-Err-Fault-clause-fault
returns-in-Err-Fault-clause-fault c = (refl, rw c.in-Err-Fault.field-0-is at c.in-Err-Fault.ensures.cause)
