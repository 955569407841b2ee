use Rattle.std.proofs.Common.{arith}
use Rattle.session_core.specs.Part.{phase_lost}
use Rattle.session_machine.specs.Calls.{with_phase}
use Rattle.session_machine.proofs.CallLists.{no_call, with_item}
use Rattle.session_machine.proofs.calls.note_lost.Goals as goal

pub returns-in-Some : goal.returns-in-Some
returns-in-Some c =
    let at = c.in-Some.ensures.some in
    with_item c.args.call c.args.first c.in-Some.index (with_phase c.args.part (λ state p. phase_lost state.is_wanted c.args.begun p.phase)) c.args.calls.now.items c.index_mut.result.now c.note_lost.new.self at.0 at.1 (omega (arith, at.2, c.len.ensures)) c.index_mut.ensures.value c.note_lost.ensures

pub returns-in_default : goal.returns-in_default
returns-in_default c = no_call c.args.call c.args.first c.len.result (with_phase c.args.part (λ state p. phase_lost state.is_wanted c.args.begun p.phase)) c.args.calls.now.items (omega (arith, c.len.ensures)) c.in_default.ensures.none
