use Rattle.std.proofs.Common.{rules}
use Rattle.resp_core.proofs.Copying.{walk-smaller}
use Rattle.resp_core.proofs.value.copying.in_order.Goals as goal

pub loop-next-smaller : goal.loop-next-smaller
loop-next-smaller c =
    walk-smaller c.loop-next.waiting.items c.pop.new.self.items c.add_inside.new.waiting.items c.in-Some.next (search rules) c.in_ok-add_inside.ensures
