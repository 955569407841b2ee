use Rattle.std.proofs.Common.{arith}
use Rattle.std.proofs.lemmas.Grind.{common_steps}
use Rattle.std.proofs.lemmas.Result.{IfOk-weaker}
use Rattle.redis_routing.proofs.Grouping.{shared_routes}
use Rattle.redis_routing.proofs.splitting.routes_by_slot.Goals as goal

pub returns : goal.returns
returns g c = grind (arith, common_steps, IfOk-weaker, shared_routes)
