use Rattle.std.proofs.Common.{arith}
use Rattle.std.proofs.lemmas.Grind.{common_steps}
use Rattle.memory_nodes.proofs.Undoing.{before-push}
use Rattle.memory_nodes.proofs.change.undo_all.Goals as goal

pub loop-change-preserved : goal.loop-change-preserved
loop-change-preserved c = grind (arith, common_steps, before-push)
