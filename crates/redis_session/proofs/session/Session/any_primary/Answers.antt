use Rattle.std.proofs.Common.{IfSome, subst}
use Rattle.redis_session.specs.Directory.{IsPrimary}
use Rattle.redis_session.specs.SessionStates.{SessionState}
use Rattle.redis_session.proofs.session.Session.any_primary.Goals as goal

pub returns : goal.returns
returns c = subst (λ (s : SessionState). IfSome c.primary.result (λ node. IsPrimary node s.directory)) c.self.view_is c.primary.ensures
