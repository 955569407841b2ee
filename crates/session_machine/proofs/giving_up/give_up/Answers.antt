use Rattle.std.proofs.Common.{◌-◌, arith}
use Rattle.session_machine.proofs.GivenUp.{up_none, up_more}
use Rattle.session_machine.proofs.giving_up.give_up.Goals as goal

pub loop-at-init : goal.loop-at-init
loop-at-init c = up_none c.args.place (c.args.place - c.args.place) c.args.order.now (omega arith)

pub loop-at-preserved : goal.loop-at-preserved
loop-at-preserved c = up_more c.args.place c.loop-at.at c.args.order.now c.loop-at.order c.give_up_one.new.order (omega arith) c.loop-at.invariant c.give_up_one.ensures
