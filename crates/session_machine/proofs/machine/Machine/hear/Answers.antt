use Rattle.std.proofs.Common.{ap, ◌∙◌}
use Rattle.std.specs.List.{slice_get}
use Rattle.session_core.specs.State.{State}
use Rattle.session_machine.proofs.Outcomes.{on_ok, on_err, by_result}
use Rattle.session_machine.proofs.Keeping.{quiet_happens, quiet_kept}
use Rattle.session_machine.proofs.machine.Machine.hear.Goals as goal

pub hear-requires : goal.hear-requires
hear-requires c =
    let s : State = record { links = c.self.inside.links; first = c.self.inside.first; calls = c.self.inside.calls.items } in
    (c.requires.0, ap (λ (t : State). slice_get t.links c.args.number) c.self.view_is ∙ c.requires.1, c.requires.2)

pub invariant_of-self : goal.invariant_of-self
invariant_of-self c =
    let s : State = record { links = c.self.inside.links; first = c.self.inside.first; calls = c.self.inside.calls.items } in
    by_result c.hear.result c.hear.ensures.ok c.hear.ensures.err (λ h. quiet_kept s c.args.number _ c.hear.new.self c.self.invariant h tt tt) (λ h. quiet_kept s c.args.number _ c.hear.new.self c.self.invariant h tt tt)

pub returns-clause-ok : goal.returns-clause-ok
returns-clause-ok c =
    let s : State = record { links = c.self.inside.links; first = c.self.inside.first; calls = c.self.inside.calls.items } in
    on_ok c.hear.result c.hear.ensures.ok (λ h. quiet_happens s c.args.self.now c.args.number _ c.hear.new.self c.self.view_is h tt tt)

pub returns-clause-err : goal.returns-clause-err
returns-clause-err c =
    let s : State = record { links = c.self.inside.links; first = c.self.inside.first; calls = c.self.inside.calls.items } in
    on_err c.hear.result c.hear.ensures.err (λ h. quiet_happens s c.args.self.now c.args.number _ c.hear.new.self c.self.view_is h tt tt)
