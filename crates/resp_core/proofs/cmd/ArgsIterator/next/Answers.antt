use Rattle.std.proofs.Common.{◌∙◌, refl, sym, rules}
use Rattle.std.proofs.lemmas.List.{nil_from_length}
use Rattle.resp_core.proofs.ItemEnds.{AreItemsAt-next}
use Rattle.resp_core.proofs.cmd.ArgsIterator.next.Goals as goal

pub overflow_sub-end : goal.overflow_sub-end
overflow_sub-end c = (AreItemsAt-next _ _ _ _ (rw c.in_ok-end.ensures.steps at c.self.invariant)).0

pub split_at-requires : goal.split_at-requires
split_at-requires c = (AreItemsAt-next _ _ _ _ (rw c.in_ok-end.ensures.steps at c.self.invariant)).1

pub invariant_of-self-2 : goal.invariant_of-self-2
invariant_of-self-2 c =
    rw c.split_at.ensures.back (AreItemsAt-next _ _ _ _ (rw c.in_ok-end.ensures.steps at c.self.invariant)).2

pub returns-in_err-end-clause-steps : goal.returns-in_err-end-clause-steps
returns-in_err-end-clause-steps c =
    let h = c.in_err-end.ensures.steps in
    let none = nil_from_length _ h.0 in
    rw (c.from_residual.ensures, ← c.self.view_is, h.1, none) (refl, refl)

pub returns-clause-steps : goal.returns-clause-steps
returns-clause-steps c =
    sym c.self.view_is ∙ rw (c.in_ok-end.ensures.steps, c.split_at.ensures.front, c.split_at.ensures.back) refl

pub returns-clause-goes : goal.returns-clause-goes
returns-clause-goes c = rw (returns-clause-steps c) (search rules)
