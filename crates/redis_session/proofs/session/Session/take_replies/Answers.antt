use Rattle.redis_session.specs.SessionView.{view_of}
use Rattle.redis_session.proofs.Leads.{breaks_off, takes_last, takes_next}
use Rattle.redis_session.proofs.session.Session.take_replies.Goals as goal

pub returns-in-Broken : goal.returns-in-Broken
returns-in-Broken c =
    breaks_off c.args.link c.args.self.now (view_of c.self-in-loop.inside) c.loop.self c.break_link.new.self c.take.new.self c.in_ok-took.took c.in-Broken.field-0
    c.loop.invariant c.self-in-loop.view_is c.in_ok-took.ensures.took c.in-Broken.is c.break_link.ensures

pub returns-in_err-note_took-in_default-2 : goal.returns-in_err-note_took-in_default-2
returns-in_err-note_took-in_default-2 c =
    takes_last c.args.link c.args.self.now c.note_took.new.self
    (takes_next c.args.link c.args.self.now (view_of c.self-in-loop.inside) c.loop.self c.note_took.new.self c.take.new.self c.in_ok-took.took
    c.loop.invariant c.self-in-loop.view_is c.in_ok-took.ensures.took c.in_default-2.not-Nothing c.in_default-2.not-Broken c.note_took.ensures)

pub loop-preserved : goal.loop-preserved
loop-preserved c =
    takes_next c.args.link c.args.self.now (view_of c.self-in-loop.inside) c.loop.self c.note_took.new.self c.take.new.self c.in_ok-took.took
    c.loop.invariant c.self-in-loop.view_is c.in_ok-took.ensures.took c.in_default-2.not-Nothing c.in_default-2.not-Broken c.note_took.ensures
