use Rattle.std.proofs.Common.{arith}
use Rattle.redis_session.specs.SharedNames.{kind_of_name}
use Rattle.redis_session.proofs.kind.kind_of_name.Goals as goal

pub returns-then-is_plain : goal.returns-then-is_plain
unfolding kind_of_name
returns-then-is_plain c = grind (arith)

pub returns : goal.returns
unfolding kind_of_name
returns c = grind (arith)
