use Rattle.redis_session.proofs.Leads.{leads_on}
use Rattle.redis_session.proofs.session.Session.begin.Goals as goal

pub returns-clause-begun : goal.returns-clause-begun
returns-clause-begun c =
    let it = c.in_ok-call.ensures.begun in
    record {
      mid = c.begin_call.new.self;
      parts = it.0;
      room = c.in_ok-call.ensures.room;
      adds = it.1;
      load = c.in_ok-call.ensures.load;
      errand = it.2;
      leads = leads_on c.begin_call.new.self c.end_late.new.self c.step.new.self c.end_late.ensures
          (leads_on c.end_late.new.self c.ask_call.new.self c.step.new.self c.ask_call.ensures c.step.ensures);
    }
