use Rattle.std.proofs.Common.{refl, subst, sym}
use Rattle.session_machine.specs.declared.took.Took.{Took}
use Rattle.redis_session.specs.Learned.{JoinsTook, LearnsTook, ReadiesTook, SendsTook}
use Rattle.redis_session.specs.Leads.{Notes}
use Rattle.redis_session.specs.SessionView.{view_of}
use Rattle.redis_session.proofs.Leads.{back_noted, leads_nowhere, leads_only, login_noted, map_noted, sends_none}
use Rattle.redis_session.proofs.session.Session.note_took.Goals as goal

pub returns-in-Nothing : goal.returns-in-Nothing
returns-in-Nothing c = let s = c.args.self.now in
    leads_only (JoinsTook s c.args.link c.args.took) (LearnsTook s c.args.link c.args.took) (ReadiesTook c.args.link c.args.took) (SendsTook s c.args.link c.args.took) s s
    (sends_none s c.args.link c.args.took c.in-Nothing.is) (leads_nowhere s s refl)

pub returns-in-Asking : goal.returns-in-Asking
returns-in-Asking c = let s = c.args.self.now in
    leads_only (JoinsTook s c.args.link c.args.took) (LearnsTook s c.args.link c.args.took) (ReadiesTook c.args.link c.args.took) (SendsTook s c.args.link c.args.took) s (view_of c.self.inside)
    (subst (λ (t : Took). SendsTook s c.args.link t s.directory.nodes s.asks s.asks) (sym c.in-Asking.is) refl) (leads_nowhere s (view_of c.self.inside) c.self.view_is)

pub returns-in-Kept : goal.returns-in-Kept
returns-in-Kept c = subst (λ (t : Took). Notes c.args.link t c.args.self.now c.note_kept.new.self) (sym c.in-Kept.is) c.note_kept.ensures

pub returns-in-Back : goal.returns-in-Back
returns-in-Back c =
    back_noted c.args.link c.args.took c.in-Back.seat c.in-Back.reply c.deref.result.now c.args.self.now c.note_back.new.self c.in-Back.is c.deref.ensures.value c.note_back.ensures

pub returns-in-Login : goal.returns-in-Login
returns-in-Login c =
    login_noted c.args.link c.args.took c.in-Login.reply c.deref-in-Login.result.now c.args.self.now c.note_login.new.self c.in-Login.is c.deref-in-Login.ensures.value c.note_login.ensures

pub returns : goal.returns
returns c =
    map_noted c.args.link c.args.took c.in-Map.count c.in-Map.reply c.deref-in-Map.result.now c.args.self.now c.note_map.new.self c.in-Map.is c.deref-in-Map.ensures.value c.note_map.ensures
