use Rattle.std.proofs.Common.{◌≡◌, subst, sym}
use Rattle.std.specs.Prelude.{slice_get}
use Rattle.redis_session.specs.Learned.{LearnsReply, Sets, host_at, host_in}
use Rattle.redis_session.specs.SessionStates.{SessionState}
use Rattle.redis_session.specs.SessionView.{view_of}
use Rattle.redis_session.proofs.Redirects.{filled_sets}
use Rattle.redis_session.proofs.Serving.{host_is}
use Rattle.redis_session.proofs.session.Session.fill_table.Goals as goal

pub returns : goal.returns
returns c =
    let before = view_of c.self.inside in
    let s = c.args.self.now in
    let host = host_in (slice_get before.directory.nodes c.in-Some.node) in
    let new = record before { directory = c.fill.new.self } in
    subst (λ host. Sets (LearnsReply c.args.count host c.args.reply.now) s new) (subst (λ (t : SessionState). host_in (slice_get t.directory.nodes c.in-Some.node) ≡ host_at c.args.link s) (sym c.self.view_is) (host_is c.args.link c.in-Some.node s c.in-Some.ensures))
    (filled_sets c.args.count host c.args.reply.now c.fill.result before s c.fill.new.self c.self.view_is c.fill.ensures.learns c.fill.ensures.stays c.fill.ensures.err c.fill.ensures.others)
