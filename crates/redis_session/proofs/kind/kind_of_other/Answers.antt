use Rattle.std.proofs.Common.{◌∙◌, ap}
use Rattle.redis_routing.specs.Lookup.{lookup_name}
use Rattle.redis_session.proofs.TableNames.{rows-OTHER_NAMES}
use Rattle.redis_session.proofs.kind.kind_of_other.Goals as goal

pub returns : goal.returns
returns c = c.look_up.ensures ∙ ap (λ rows. lookup_name rows c.args.name.now) rows-OTHER_NAMES
