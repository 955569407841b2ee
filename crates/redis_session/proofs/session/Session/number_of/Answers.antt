use Rattle.std.proofs.Common.{◌≡◌, ◌∙◌, sym}
use Rattle.redis_session.specs.SessionView.{view_of}
use Rattle.redis_session.proofs.Leads.{knows_as}
use Rattle.redis_session.proofs.Serving.{knows_more}
use Rattle.redis_session.proofs.session.Session.number_of.Goals as goal

pub returns-then-is_some-clause-state : goal.returns-then-is_some-clause-state
returns-then-is_some-clause-state c =
    let copy = c.in_ok-clone.field-0 in
    let before = view_of c.self.inside in
    knows_as (λ known. known ≡ copy) (λ known. known ≡ c.args.address.now) c.args.self.now (record before { directory = c.add.new.self }) (λ known same. same ∙ c.in_ok-clone.ensures.cases)
    (knows_more before c.args.self.now c.add.new.self c.in_ok-added.added copy c.self.view_is (sym c.is_some.ensures ∙ c.if-is_some.true) c.in_ok-added.ensures.some)
