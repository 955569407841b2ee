use Rattle.std.proofs.Common.{arith}
use Rattle.std.proofs.lemmas.Grind.{common_steps}
use Rattle.uses.proofs.batcher.replies_in.Goals as goal

pub returns-in-Err-clause-cause : goal.returns-in-Err-clause-cause
returns-in-Err-clause-cause c =
    record { before = c.loop-answer.replies.items; rest = c.next.new.self.rest.items; answers_are = grind (arith, common_steps); number_is = grind (arith, common_steps) }
