use Rattle.std.proofs.Common.{List, ℕ, ◌∙◌, ap, subst, sym}
use Rattle.std.specs.Prelude.{◌≡◌, IfOk, IfSome, Some}
use Rattle.session_core.specs.Part.{Refused}
use Rattle.session_core.specs.State.{part_at}
use Rattle.session_machine.specs.Part.{phase_of}
use Rattle.redis_session.specs.Learned.{SendsOn, host_at}
use Rattle.redis_session.specs.SessionStates.{SessionState}
use Rattle.redis_session.proofs.Redirects.{kept_learned, told_learns}
use Rattle.redis_session.proofs.session.Session.learn_kept.Goals as goal

pub returns : goal.returns
returns c =
    let seat = c.args.seat in
    let part = c.in-Some.part.now in
    let s = c.args.self.now in
    let told = c.redirect_of-told.result in
    let reply = c.deref.result.now in
    let there = subst (λ (s : SessionState). part_at seat.call seat.part s.machine ≡ Some part) c.self.view_is c.in-Some.ensures.some in
    let refused : part.phase ≡ Refused reply = sym c.phase.ensures ∙ ap phase_of c.in-Refused.is ∙ ap Refused (sym c.deref.ensures.value) in
    let sends = subst (λ (host : List ℕ). IfOk told (λ t. IfSome t (λ to. SendsOn host part reply to.0 to.1))) c.host_of.ensures c.redirect_of-told.ensures in
    kept_learned (host_at c.args.link s) part s.machine seat reply s c.learn.new.self there refused
    (told_learns (host_at c.args.link s) part s.machine seat there s c.learn.new.self reply told sends c.learn.ensures)
