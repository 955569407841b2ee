use Rattle.std.proofs.Common.{◌≡◌, ◌∙◌, ◌+◌, ◌++◌, [], ◌∷◌, length, ap, rules}
use Rattle.redis_session.specs.Deadlines.{deadlines_from}
use Rattle.redis_session.proofs.KeptDeadlines.{at_end}
use Rattle.redis_session.proofs.call_deadlines.CallDeadlines.add.Goals as goal

pub returns-clause-added : goal.returns-clause-added
returns-clause-added c =
    let first = c.self.inside.first in
    let items = c.self.inside.items.items in
    let pushed : c.push_back-2.new.self.items ≡ items ++ c.args.deadline ∷ [] = search rules in
    let next : first + length items ≡ c.args.call = search rules in
    ap (deadlines_from first) pushed ∙ at_end first items c.args.deadline
    ∙ ap (λ n. deadlines_from first items ++ (n, c.args.deadline) ∷ []) next ∙ ap (λ kept. kept ++ (c.args.call, c.args.deadline) ∷ []) c.self.view_is
