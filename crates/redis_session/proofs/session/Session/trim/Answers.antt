use Rattle.std.proofs.Common.{refl}
use Rattle.session_core.specs.State.{Trim}
use Rattle.redis_session.specs.SessionView.{view_of}
use Rattle.redis_session.proofs.Leads.{leads_by, leads_on}
use Rattle.redis_session.proofs.session.Session.trim.Goals as goal

pub loop-preserved : goal.loop-preserved
loop-preserved c =
    let before = view_of c.loop.self-inside in
    let after = record before { machine = c.trim.new.self } in
    leads_on c.args.self.now before after c.loop.invariant
    (leads_by before after Trim tt (c.trim.ensures.trimmed c.if-not-trim.false) tt refl)
