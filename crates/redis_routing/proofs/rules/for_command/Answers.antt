use Rattle.std.proofs.Common.{[], option_copied, unwrap_or}
use Rattle.redis_routing.specs.Inner.NameRule.{names_by}
use Rattle.redis_routing.proofs.rules.for_command.Goals as goal

pub returns : goal.returns
returns g c = c.by_rule.ensures (names_by c.args.reads (unwrap_or (option_copied c.args.registry) [])) c.rule_by-rule.ensures
