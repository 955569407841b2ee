use Rattle.std.proofs.Common.{arith}
use Rattle.std.proofs.lemmas.Grind.{common_steps}
use Rattle.redis_cluster.proofs.Told.{no_error_before}
use Rattle.redis_cluster.proofs.plan.values_in.Goals as goal

pub returns-in_err-answer-clause-error : goal.returns-in_err-answer-clause-error
returns-in_err-answer-clause-error c = grind (arith, common_steps, no_error_before)
