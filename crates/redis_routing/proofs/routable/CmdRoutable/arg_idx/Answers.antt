use Rattle.std.proofs.Common.{◌∙◌}
use Rattle.redis_routing.proofs.Arguments.{argument-map-Some}
use Rattle.redis_routing.proofs.routable.CmdRoutable.arg_idx.Goals as goal

pub returns-clause-argument : goal.returns-clause-argument
returns-clause-argument c = c.arg_idx.ensures.item ∙ argument-map-Some c.args.self.now c.args.index
