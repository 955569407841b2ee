use Rattle.std.proofs.Common.{List, ℕ, subst}
use Rattle.std.specs.Prelude.{◌≡◌, IfOk, IfSome, Some}
use Rattle.session_core.specs.State.{part_at}
use Rattle.redis_session.specs.Learned.{SendsOn, host_at}
use Rattle.redis_session.specs.SessionStates.{SessionState}
use Rattle.redis_session.proofs.Redirects.{told_learns}
use Rattle.redis_session.proofs.session.Session.learn_from.Goals as goal

pub returns : goal.returns
returns c =
    let seat = c.args.seat in
    let s = c.args.self.now in
    let part = c.in-Some.part.now in
    let told = c.redirect_of-told.result in
    let there = subst (λ (s : SessionState). part_at seat.call seat.part s.machine ≡ Some part) c.self.view_is c.in-Some.ensures.some in
    let sends = subst (λ (host : List ℕ). IfOk told (λ t. IfSome t (λ to. SendsOn host part c.args.refusal.now to.0 to.1))) c.host_of.ensures c.redirect_of-told.ensures in
    told_learns (host_at c.args.link s) part s.machine seat there s c.learn.new.self c.args.refusal.now told sends c.learn.ensures
