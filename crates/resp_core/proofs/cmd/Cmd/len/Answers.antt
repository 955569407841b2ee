use Rattle.std.proofs.Common.{arith}
use Rattle.resp_core.proofs.ItemEnds.{length-items_at}
use Rattle.resp_core.proofs.cmd.Cmd.len.Goals as goal

pub returns-clause-count : goal.returns-clause-count
returns-clause-count c = rw (← c.self.view_is) (grind (arith, length-items_at))

pub returns-clause-few : goal.returns-clause-few
returns-clause-few c = rw (← c.self.view_is) (grind (arith, length-items_at))
