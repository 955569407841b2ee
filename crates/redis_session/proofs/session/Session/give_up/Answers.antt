use Rattle.std.proofs.Common.{◌∙◌, ap, subst}
use Rattle.redis_session.specs.Leads.{GivesUp}
use Rattle.redis_session.specs.Rules.{KeptRules}
use Rattle.redis_session.specs.SessionStates.{SessionState}
use Rattle.redis_session.specs.SessionView.{view_of}
use Rattle.redis_session.proofs.Leads.{leads_on}
use Rattle.redis_session.proofs.session.Session.give_up.Goals as goal

pub returns-clause-gave_up : goal.returns-clause-gave_up
returns-clause-gave_up c = λ given.
    let before = view_of c.self.inside in
    let after = record before { machine = c.give_up.new.self; rules = c.remove.new.self } in
    let did = c.give_up.ensures.gave_up c.if-not-give_up.false in
    let wanted = c.give_up.ensures.wanted c.if-not-give_up.false in
    subst (λ (s : SessionState). GivesUp c.args.call s c.step.new.self) (c.self.view_is ∙ c.unlist.ensures) (record {
      state = wanted.0;
      there = wanted.1;
      wanted = wanted.2;
      mid = after;
      happens = did;
      others = ap (λ (left : KeptRules). record after { rules = left }) c.remove.ensures;
      leads = leads_on after c.note_over.new.self c.step.new.self c.note_over.ensures c.step.ensures;
    })
