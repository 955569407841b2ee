use Rattle.session_machine.proofs.Keeping.{kept_start}
use Rattle.session_machine.proofs.machine.Machine.new.Goals as goal

pub invariant_of-result : goal.invariant_of-result
invariant_of-result c = kept_start c.new.result c.new-2.result.items c.new-3.result.items c.new-4.result c.new.ensures c.new-2.ensures.items c.new-3.ensures.items c.new-4.ensures.order c.new-4.ensures.owed c.new-4.ensures.last
