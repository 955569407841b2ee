use Rattle.std.proofs.Common.{ap, ◌∙◌}
use Rattle.std.specs.List.{slice_get}
use Rattle.session_core.specs.State.{State}
use Rattle.session_machine.proofs.Keeping.{quiet_happens, quiet_kept}
use Rattle.session_machine.proofs.machine.Machine.end.Goals as goal

pub end-requires : goal.end-requires
end-requires c =
    let s : State = record { links = c.self.inside.links; first = c.self.inside.first; calls = c.self.inside.calls.items } in
    (c.requires.0, ap (λ (t : State). slice_get t.links c.args.number) c.self.view_is ∙ c.requires.1, c.requires.2)

pub invariant_of-self : goal.invariant_of-self
invariant_of-self c =
    let s : State = record { links = c.self.inside.links; first = c.self.inside.first; calls = c.self.inside.calls.items } in
    quiet_kept s c.args.number _ c.end.new.self c.self.invariant c.end.ensures tt tt

pub returns : goal.returns
returns c =
    let s : State = record { links = c.self.inside.links; first = c.self.inside.first; calls = c.self.inside.calls.items } in
    quiet_happens s c.args.self.now c.args.number _ c.end.new.self c.self.view_is c.end.ensures tt tt
