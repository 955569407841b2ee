use Rattle.std.proofs.lemmas.Bool.Decides.{Decides-at, same_from_decides}
use Rattle.resp_core.proofs.CmdLists.{same_args-Decides}
use Rattle.resp_core.proofs.ItemEnds.{items_at-Decides}
use Rattle.resp_core.proofs.cmd.CmdPartialEq.eq.Goals as goal

pub returns-then-eq-clause-same : goal.returns-then-eq-clause-same
returns-then-eq-clause-same c =
    let same = rw (c.self.view_is, c.other.view_is) at (items_at-Decides _ _ _ _ c.self.invariant c.other.invariant) in
    Decides-at c.eq-then-eq.result _ (rw (← c.if-eq.ensures) c.eq-then-eq.ensures) same

pub returns-else-eq-clause-same : goal.returns-else-eq-clause-same
returns-else-eq-clause-same c =
    let same = rw (c.self.view_is, c.other.view_is) at (items_at-Decides _ _ _ _ c.self.invariant c.other.invariant) in
    Decides-at c.eq.result _ (rw (← c.if-eq.ensures) c.if-eq.false) same

pub returns-then-eq-clause-value : goal.returns-then-eq-clause-value
returns-then-eq-clause-value c =
    same_from_decides _ _ (returns-then-eq-clause-same c) (same_args-Decides c.args.self.now c.args.other.now)

pub returns-else-eq-clause-value : goal.returns-else-eq-clause-value
returns-else-eq-clause-value c =
    same_from_decides _ _ (returns-else-eq-clause-same c) (same_args-Decides c.args.self.now c.args.other.now)
