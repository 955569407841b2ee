use Rattle.std.proofs.Common.{ap, ◌%◌}
use Rattle.redis_routing.specs.Inner.NameSpots.{spot_of}
use Rattle.redis_routing.specs.declared.read_only.TheConstants.{SPOTS}
use Rattle.redis_routing.proofs.read_only.spot_of.Goals as goal

pub returns : goal.returns
unfolding spot_of
returns c = ap (λ hash. hash % SPOTS) c.name_hash.ensures
