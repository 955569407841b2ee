use Rattle.std.proofs.Common.{rules}
use Rattle.resp_core.proofs.ItemEnds.{items_at-push, AreItemsAt-push}
use Rattle.resp_core.proofs.cmd.Cmd.write_arg.Goals as goal

pub invariant_of-self-2 : goal.invariant_of-self-2
invariant_of-self-2 c =
    AreItemsAt-push _ _ c.args.arg.now _ _ c.self.invariant (search rules) (search rules)

pub returns-clause-added : goal.returns-clause-added
returns-clause-added c =
    rw (← c.self.view_is) (items_at-push _ _ c.args.arg.now _ _ c.self.invariant (search rules) (search rules))
