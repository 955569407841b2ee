use Rattle.session_machine.specs.declared.took.Took.TheVariants.{Kept}
use Rattle.redis_session.specs.Learned.{JoinsKept, LearnsKept, ReadiesTook, SendsKept, host_at}
use Rattle.redis_session.proofs.Leads.{sent_then}
use Rattle.redis_session.proofs.session.Session.note_error.Goals as goal

pub returns-in-Ok : goal.returns-in-Ok
returns-in-Ok c =
    sent_then (λ s. JoinsKept (host_at c.args.link s) c.args.seat s.machine) (λ s. LearnsKept (host_at c.args.link s) c.args.seat s.machine) (ReadiesTook c.args.link (Kept c.args.seat)) (λ s. SendsKept (host_at c.args.link s) c.args.seat s.machine) c.args.self.now c.want_map_if.new.self c.learn_kept-learned.new.self c.note_done.new.self
    c.want_map_if.ensures c.learn_kept-learned.ensures c.note_done.ensures

pub returns-in-Err : goal.returns-in-Err
returns-in-Err c =
    sent_then (λ s. JoinsKept (host_at c.args.link s) c.args.seat s.machine) (λ s. LearnsKept (host_at c.args.link s) c.args.seat s.machine) (ReadiesTook c.args.link (Kept c.args.seat)) (λ s. SendsKept (host_at c.args.link s) c.args.seat s.machine) c.args.self.now c.want_map_if.new.self c.learn_kept-learned.new.self c.note_done.new.self
    c.want_map_if.ensures c.learn_kept-learned.ensures c.note_done.ensures
