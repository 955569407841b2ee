use Rattle.redis_session.specs.SessionView.{view_of}
use Rattle.redis_session.proofs.GivenReplies.{late_all, may_give}
use Rattle.redis_session.proofs.session.Session.next_reply.Goals as goal

pub give-requires : goal.give-requires
give-requires c = may_give c.in-Some.caller c.in-Some.call (view_of (record c.self-in-loop.inside { machine = c.first_due.new.self })) c.in-Some.ensures.some

pub returns-in_default-clause-all : goal.returns-in_default-clause-all
returns-in_default-clause-all c = late_all (view_of (record c.self-in-loop.inside { machine = c.first_due.new.self })) c.next_late.new.self c.next_late.result c.in_default.ensures.none c.next_late.ensures.none
