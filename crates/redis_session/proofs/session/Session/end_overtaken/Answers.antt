use Rattle.std.proofs.Common.{refl}
use Rattle.session_core.specs.State.{End}
use Rattle.session_core.specs.declared.part.Cause.TheVariants.{Overtaken}
use Rattle.redis_session.specs.SessionView.{view_of}
use Rattle.redis_session.proofs.Leads.{leads_by, leads_on}
use Rattle.redis_session.proofs.session.Session.end_overtaken.Goals as goal

pub loop-preserved : goal.loop-preserved
loop-preserved c = let seat = c.in-Some-end_overtaken.overtaken in
    let before = view_of c.loop.self-inside in
    let after = record before { machine = c.end_overtaken.new.self } in
    leads_on c.args.self.now before after c.loop.invariant
    (leads_by before after (End seat.call seat.part Overtaken) tt c.in-Some-end_overtaken.ensures.ended refl refl)
