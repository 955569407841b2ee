use Rattle.std.proofs.Common.{arith}
use Rattle.redis_session.proofs.PartLists.{only_route}
use Rattle.redis_session.proofs.plan.split_parts.Goals as goal

pub returns-then-len-eq1 : goal.returns-then-len-eq1
returns-then-len-eq1 c = only_route c.args.split.now.routes c.slot_of_route.result (omega arith) c.slot_of_route.ensures
