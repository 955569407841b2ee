use Rattle.std.proofs.lemmas.Result.{IfOk-weaker}
use Rattle.redis_session.specs.Plans.{IsSplitBySlot}
use Rattle.redis_session.proofs.OwnSlots.{split_by_slot}
use Rattle.redis_session.proofs.plan.CallPlan.new.Goals as goal

pub returns-clause-slots : goal.returns-clause-slots
returns-clause-slots c =
    IfOk-weaker c.plan_of.result _ (λ plan. IsSplitBySlot plan.parts) (λ plan is. split_by_slot plan is) c.plan_of.ensures.planned
