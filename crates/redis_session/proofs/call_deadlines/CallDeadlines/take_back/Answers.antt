use Rattle.std.proofs.Common.{◌≡◌, ◌-◌, rules, subst, take}
use Rattle.redis_session.proofs.KeptDeadlines.{without_last}
use Rattle.redis_session.proofs.call_deadlines.CallDeadlines.take_back.Goals as goal

pub returns : goal.returns
returns c = without_last c.self.inside.first c.self.inside.items.items c.pop_back.new.self.items c.args.self.now c.self.view_is
    (subst (λ n. c.pop_back.new.self.items ≡ take (n - 1) c.self.inside.items.items) (search rules) c.pop_back.ensures.rest)
