-- There is one split of a request.
use Rattle.std.proofs.Common.{◌≡◌, arith}
use Rattle.std.proofs.lemmas.Grind.{common_steps}
use Rattle.redis_routing.specs.Command.{Arguments}
use Rattle.redis_routing.specs.Names.{Names}
use Rattle.redis_routing.specs.Split.{Split}
use Rattle.redis_bytes.specs.Requests.{IsSplitOf}

pub same_split : (names : Names) (args : Arguments) (s t : Split) → IsSplitOf names args s → IsSplitOf names args t → s ≡ t
same_split names args s t a b = grind (arith, common_steps)
