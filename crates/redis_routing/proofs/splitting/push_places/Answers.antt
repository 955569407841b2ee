use Rattle.std.proofs.Common.{◌-◌, refl}
use Rattle.std.proofs.lemmas.Iterator.{YieldsList-from_range}
use Rattle.std.proofs.lemmas.Iterator.Adapters.{items_from_extend}
use Rattle.std.proofs.lemmas.Result.{on_ok_weaker}
use Rattle.redis_routing.proofs.splitting.push_places.Goals as goal

pub returns : goal.returns
returns c = on_ok_weaker c.extend.result (λ w. w.0) (items_from_extend c.extend.result c.extend.ensures.ran (YieldsList-from_range c.args.start c.args.end (c.args.end - c.args.start) refl refl))
