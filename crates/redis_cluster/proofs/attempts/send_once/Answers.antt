use Rattle.std.proofs.Common.{Result, Ok, Err, IfErr, OnErr, arith}
use Rattle.std.proofs.lemmas.Grind.{common_steps}
use Rattle.redis_cluster.proofs.Allowed.{allowed_sent}
use Rattle.redis_cluster.proofs.PartSends.{unanswered_then}
use Rattle.redis_cluster.proofs.Trying.{tried_so}
use Rattle.redis_cluster.proofs.attempts.send_once.Goals as goal

all_three : {T E : Type 0} {B : Type 0} (A C P : E → Type 0) (r : Result T E) → ((e : E) → A e → B → C e → P e) → IfErr r A → OnErr r B → IfErr r C → IfErr r P
all_three A C P (Ok x) f a b c = tt
all_three A C P (Err e) f a b c = f e a b c

pub returns-clause-answered : goal.returns-clause-answered
returns-clause-answered g c = grind (arith, common_steps)

pub returns-clause-unanswered : goal.returns-clause-unanswered
returns-clause-unanswered g c = grind (arith, common_steps, all_three, unanswered_then, tried_so)

pub returns-clause-allowed : goal.returns-clause-allowed
returns-clause-allowed g c =
    allowed_sent (g.N.Nodes.may_refuse c.args.nodes.now) c.send.result (g.N.Nodes.state c.args.nodes.now).trace (g.N.Nodes.state c.send.new.self).trace (g.N.Nodes.state c.send.new.self).mark c.args.node.now c.args.part.now c.send.ensures.trace c.send.ensures.unanswered
