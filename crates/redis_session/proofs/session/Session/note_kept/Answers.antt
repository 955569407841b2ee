use Rattle.std.proofs.Common.{inr, refl, subst}
use Rattle.session_machine.specs.declared.took.Took.TheVariants.{Kept}
use Rattle.redis_session.specs.Learned.{JoinsTook, LearnsTook, ReadiesTook, SendsTook}
use Rattle.redis_session.specs.Leads.{Leads, Notes}
use Rattle.redis_session.specs.SessionStates.{SessionState}
use Rattle.redis_session.proofs.Leads.{leads_only}
use Rattle.redis_session.proofs.session.Session.note_kept.Goals as goal

pub returns-then-not-keeps_error : goal.returns-then-not-keeps_error
returns-then-not-keeps_error c = leads_only (JoinsTook c.args.self.now c.args.link (Kept c.args.seat)) (LearnsTook c.args.self.now c.args.link (Kept c.args.seat)) (ReadiesTook c.args.link (Kept c.args.seat)) (SendsTook c.args.self.now c.args.link (Kept c.args.seat)) c.args.self.now c.note_done.new.self (inr refl)
    (subst (λ (s : SessionState). Leads s c.note_done.new.self) c.self.view_is c.note_done.ensures)

pub returns : goal.returns
returns c = subst (λ (s : SessionState). Notes c.args.link (Kept c.args.seat) s c.note_error.new.self) c.self.view_is c.note_error.ensures
