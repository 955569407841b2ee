use Rattle.std.proofs.Common.{◌∙◌, ap}
use Rattle.redis_cluster.proofs.Refusals.{not_refused-long}
use Rattle.redis_cluster.proofs.TableRows.{has_name-REFUSED_NAMES}
use Rattle.redis_cluster.specs.Refusals.{is_refused}
use Rattle.redis_routing.specs.Upper.{upper}
use Rattle.redis_cluster.proofs.pipeline.refusals.refuses.Goals as goal

pub returns-then-name-gt-LONGEST : goal.returns-then-name-gt-LONGEST
returns-then-name-gt-LONGEST c = not_refused-long c.args.name.now c.if-name-gt-LONGEST.true

pub returns : goal.returns
returns c =
    c.contains.ensures ∙ has_name-REFUSED_NAMES c.make_ascii_uppercase.new.self
    ∙ ap is_refused (c.make_ascii_uppercase.ensures.after ∙ ap upper c.copy_from_slice.ensures.after)
