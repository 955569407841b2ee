use Rattle.redis_session.proofs.TableNames.{listed_at}
use Rattle.redis_session.proofs.kind.is_at.Goals as goal

pub returns-then-index-names : goal.returns-then-index-names
returns-then-index-names c = listed_at (λ n. n.now) c.args.names.now c.args.name.now c.args.index _ _ c.if-index-names.true c.eq.ensures
