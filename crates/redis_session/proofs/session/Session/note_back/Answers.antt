use Rattle.std.proofs.Common.{◌∙◌}
use Rattle.redis_session.specs.Learned.{JoinsRedirect, LearnsRedirect, NoPeers, SendsOrForgets, host_at}
use Rattle.redis_session.proofs.Leads.{leads_on, sent_then}
use Rattle.redis_session.proofs.Redirects.{then_forgets}
use Rattle.redis_session.proofs.session.Session.note_back.Goals as goal

pub returns : goal.returns
returns c = let seat = c.args.seat in
    sent_then (λ s. JoinsRedirect (host_at c.args.link s) seat.call seat.part c.args.reply.now s.machine) (λ s. LearnsRedirect (host_at c.args.link s) seat.call seat.part c.args.reply.now s.machine) NoPeers (λ s. SendsOrForgets (host_at c.args.link s) seat.call seat.part c.args.reply.now s.machine) c.args.self.now c.want_map_if.new.self c.forget_ask.new.self c.go_on.new.self
    (c.want_map_if.ensures ∙ c.self.view_is) (then_forgets c.args.link seat.call seat.part c.args.reply.now c.want_map_if.new.self c.learn_from-learned.new.self c.forget_ask.new.self c.learn_from-learned.ensures c.forget_ask.ensures)
    (leads_on c.forget_ask.new.self c.end_if_late.new.self c.go_on.new.self c.end_if_late.ensures c.go_on.ensures)
