use Rattle.std.proofs.Common.{arith}
use Rattle.std.proofs.lemmas.Grind.{common_steps}
use Rattle.redis_session.proofs.Begins.{one_more, several_begin}
use Rattle.redis_session.proofs.session.Session.several_parts.Goals as goal

pub loop-preserved : goal.loop-preserved
loop-preserved c = (
  rw c.in_ok-push.ensures.items (one_more c.loop.parts.items c.in_ok-part.field-0 c.loop.invariant.0 c.in_ok-part.ensures),
  grind (arith, common_steps, c.in_ok-push.ensures.items, c.loop.invariant.1),
)

pub returns-clause-begins : goal.returns-clause-begins
returns-clause-begins c = several_begin c.loop.parts.items c.loop.invariant.0 c.requires.some c.requires.order
