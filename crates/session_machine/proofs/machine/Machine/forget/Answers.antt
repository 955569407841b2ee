use Rattle.session_core.specs.State.{State}
use Rattle.session_machine.proofs.Keeping.{forget_happens, forget_kept}
use Rattle.session_machine.proofs.machine.Machine.forget.Goals as goal

pub invariant_of-self : goal.invariant_of-self
invariant_of-self c =
    let s : State = record { links = c.self.inside.links; first = c.self.inside.first; calls = c.self.inside.calls.items } in
    forget_kept s c.args.number c.forget.new.self c.self.invariant (c.is_over.ensures.over c.if-not-is_over.false) c.forget.ensures

pub returns-clause-forgot : goal.returns-clause-forgot
returns-clause-forgot c =
    let s : State = record { links = c.self.inside.links; first = c.self.inside.first; calls = c.self.inside.calls.items } in
    λ _. forget_happens s c.args.self.now c.args.number c.forget.new.self c.self.view_is (c.is_over.ensures.over c.if-not-is_over.false) c.forget.ensures
