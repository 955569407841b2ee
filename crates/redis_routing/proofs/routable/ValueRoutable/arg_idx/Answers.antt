use Rattle.std.proofs.Common.{◌∙◌, arith}
use Rattle.redis_routing.proofs.Arguments.{item_argument}
use Rattle.redis_routing.proofs.routable.ValueRoutable.arg_idx.Goals as goal

pub returns-then-index-items-clause-argument : goal.returns-then-index-items-clause-argument
returns-then-index-items-clause-argument c = c.as_bulk_string.ensures ∙ item_argument c.args.self.now c.in_ok-items.items.now c.args.index c.index-items-index.result c.in_ok-items.ensures.items (omega arith) c.index-items-index.is
