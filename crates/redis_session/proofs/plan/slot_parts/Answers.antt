use Rattle.std.proofs.Common.{arith, length}
use Rattle.std.proofs.lemmas.Grind.{common_steps}
use Rattle.redis_session.specs.Plans.{IsPartAt}
use Rattle.redis_session.proofs.PartLists.{each_more}
use Rattle.redis_session.proofs.plan.slot_parts.Goals as goal

pub loop-number-preserved : goal.loop-number-preserved
loop-number-preserved c =
    let split = c.args.split.now in
    let parts = c.loop-number.parts.items in
    let part = c.in_ok-slot_part.field-0 in
    let here : IsPartAt split (length parts) part = rw c.loop-number.invariant.all c.in_ok-slot_part.ensures in
    let more = each_more (IsPartAt split) parts part c.loop-number.invariant.each here in
    record {
      all = grind (arith, common_steps);
      each = rw c.in_ok-push.ensures.items more;
    }
