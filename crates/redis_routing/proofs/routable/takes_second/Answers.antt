use Rattle.std.proofs.Common.{◌∙◌}
use Rattle.redis_routing.proofs.TableRows.{has_name-TWO_WORD_NAMES}
use Rattle.redis_routing.proofs.routable.takes_second.Goals as goal

pub returns : goal.returns
returns c = c.is_placed.ensures ∙ has_name-TWO_WORD_NAMES c.args.first.now
