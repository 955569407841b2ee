use Rattle.std.proofs.Common.{◌≡◌, ◌<◌, ℕ, None, Some, length, subst}
use Rattle.std.specs.List.{slice_get}
use Rattle.session_core.specs.State.{State}
use Rattle.session_machine.proofs.Outcomes.{if_ok, by_value}
use Rattle.session_machine.proofs.Keeping.{open_happens, open_kept, same_links_kept}
use Rattle.session_machine.proofs.machine.Machine.open.Goals as goal

pub invariant_of-self : goal.invariant_of-self
invariant_of-self c =
    let s : State = record { links = c.self.inside.links; first = c.self.inside.first; calls = c.self.inside.calls.items } in
    by_value c.open.result c.open.ensures.ok c.open.ensures.err (λ number h. open_kept s number c.args.most c.open.new.self c.self.invariant h) (λ is. same_links_kept s c.open.new.self c.self.invariant is)

pub returns-clause-ok : goal.returns-clause-ok
returns-clause-ok c =
    let s : State = record { links = c.self.inside.links; first = c.self.inside.first; calls = c.self.inside.calls.items } in
    if_ok c.open.result c.open.ensures.ok (λ number h. open_happens s c.args.self.now number c.args.most c.open.new.self c.self.view_is h)

pub returns-clause-again : goal.returns-clause-again
returns-clause-again c =
    if_ok c.open.result c.open.ensures.again (λ number h. subst (λ (t : State). (n : ℕ) → slice_get t.links n ≡ Some None → number < length t.links) c.self.view_is h)
