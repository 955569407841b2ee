use Rattle.redis_session.specs.SessionView.{view_of}
use Rattle.redis_session.proofs.GivenReplies.{fault_there, rule_there, several_there, split_there}
use Rattle.redis_session.specs.declared.rules.ReplyRule.TheVariants as rules
use Rattle.redis_session.proofs.session.Session.reply_of.Goals as goal

pub returns-in-Some-first_unanswered : goal.returns-in-Some-first_unanswered
returns-in-Some-first_unanswered c =
    fault_there (view_of c.self.inside) c.args.self.now c.args.call c.in-Some.state.now c.fault_reply.result c.self.view_is c.in-Some.ensures.some
    c.in-Some-first_unanswered.part.now c.in-Some-first_unanswered.ensures c.fault_reply.ensures

pub returns-in-Split : goal.returns-in-Split
returns-in-Split c =
    let rule = rule_there (view_of c.self.inside) c.args.self.now c.args.call c.in-Some.state.now c.split_reply.result c.self.view_is c.in-Some.ensures.some
    c.in-Some-get.rule.now (rules.Split c.in-Split.request) c.in-Some-get.ensures c.in-Split.is in
    split_there (view_of c.self.inside) c.args.self.now c.args.call c.in-Some.state.now c.split_reply.result c.self.view_is c.in-Some.ensures.some
    c.in-Split.request c.deref.result.now rule c.in_default-first_unanswered.ensures c.deref.ensures.value c.split_reply.ensures

pub returns-in-Several : goal.returns-in-Several
returns-in-Several c =
    let rule = rule_there (view_of c.self.inside) c.args.self.now c.args.call c.in-Some.state.now c.several_reply.result c.self.view_is c.in-Some.ensures.some
    c.in-Some-get.rule.now (rules.Several c.in-Several.policy c.in-Several.field-1) c.in-Some-get.ensures c.in-Several.is in
    several_there (view_of c.self.inside) c.args.self.now c.args.call c.in-Some.state.now c.several_reply.result c.self.view_is c.in-Some.ensures.some
    c.in-Several.policy c.in-Several.field-1 rule c.in_default-first_unanswered.ensures c.several_reply.ensures
