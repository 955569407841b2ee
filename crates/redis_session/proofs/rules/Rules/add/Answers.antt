use Rattle.std.proofs.Common.{◌≡◌, ◌∙◌, ap, subst}
use Rattle.redis_session.specs.Rules.{KeepOthers, KeptRules, without}
use Rattle.redis_session.proofs.KeptRules.{added_back, none_back, not_kept, others_keep, rule_added}
use Rattle.redis_session.proofs.rules.Rules.add.Goals as goal

pub returns-in-One-clause-back : goal.returns-in-One-clause-back
returns-in-One-clause-back c = subst (λ (kept : KeptRules). without c.args.call kept ≡ kept) c.self.view_is
    (none_back c.args.call c.self.inside.rows.entries (not_kept _ c.contains_key.result c.contains_key.ensures c.if-contains_key.false))

pub returns-clause-added : goal.returns-clause-added
returns-clause-added c = rule_added c.args.call c.args.rule c.self.inside.rows c.insert.new.self c.in_ok-insert.ensures.updates

pub returns-clause-others : goal.returns-clause-others
returns-clause-others c = subst (λ (kept : KeptRules). KeepOthers c.args.call kept c.insert.new.self.entries) c.self.view_is
    (others_keep c.args.call _ c.self.inside.rows c.insert.new.self c.in_ok-insert.ensures.updates)

pub returns-clause-back : goal.returns-clause-back
returns-clause-back c = ap (without c.args.call) c.in_ok-insert.ensures.entries
    ∙ added_back c.args.call _ c.self.inside.rows.entries (not_kept _ c.contains_key.result c.contains_key.ensures c.if-contains_key.false) ∙ c.self.view_is
