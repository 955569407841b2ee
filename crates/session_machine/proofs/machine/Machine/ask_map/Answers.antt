use Rattle.std.proofs.Common.{refl}
use Rattle.session_core.specs.State.{State}
use Rattle.session_machine.proofs.Outcomes.{on_ok, by_result}
use Rattle.session_machine.proofs.OwnPuts.{map_put}
use Rattle.session_machine.proofs.Keeping.{quiet_happens, quiet_kept, same_links_kept}
use Rattle.session_machine.proofs.machine.Machine.ask_map.Goals as goal

pub invariant_of-self : goal.invariant_of-self
invariant_of-self c =
    let s : State = record { links = c.self.inside.links; first = c.self.inside.first; calls = c.self.inside.calls.items } in
    by_result c.ask.result c.ask.ensures.ok c.ask.ensures.err (λ h. quiet_kept s c.args.number _ c.ask.new.self c.self.invariant h (map_put s c.args.number c.args.count c.args.request.now) (λ call part. refl)) (λ is. same_links_kept s c.ask.new.self c.self.invariant is)

pub returns-clause-ok : goal.returns-clause-ok
returns-clause-ok c =
    let s : State = record { links = c.self.inside.links; first = c.self.inside.first; calls = c.self.inside.calls.items } in
    on_ok c.ask.result c.ask.ensures.ok (λ h. quiet_happens s c.args.self.now c.args.number _ c.ask.new.self c.self.view_is h (map_put s c.args.number c.args.count c.args.request.now) (λ call part. refl))
