use Rattle.std.proofs.Common.{slice_get, arith}
use Rattle.std.proofs.lemmas.Grind.{common_steps}
use Rattle.redis_routing.proofs.NameSpots.{names_in_trees-push, is_in-push}
use Rattle.redis_routing.proofs.read_only.reach.Goals as goal

pub loop-alloc-preserved : goal.loop-alloc-preserved
loop-alloc-preserved c = grind (arith, common_steps, names_in_trees-push, slice_get, is_in-push)
