use Rattle.std.proofs.Common.{arith}
use Rattle.session_core.specs.Part.{phase_told, is_refusal}
use Rattle.session_machine.specs.Calls.{with_phase}
use Rattle.session_machine.proofs.CallLists.{no_call, with_item, kept_item, returned_item}
use Rattle.session_machine.proofs.Outcomes.{if_none, if_some}
use Rattle.session_machine.proofs.calls.note_told.Goals as goal

pub returns-clause-told : goal.returns-clause-told
returns-clause-told c =
    let at = c.in-Some.ensures.some in
    with_item c.args.call c.args.first c.in-Some.index (with_phase c.args.part (λ state p. phase_told state.is_wanted (is_refusal p c.args.reply.items) c.args.reply.items p.phase)) c.args.calls.now.items c.index_mut.result.now c.note_told.new.self at.0 at.1 (omega (arith, at.2, c.len.ensures)) c.index_mut.ensures.value c.note_told.ensures.told

pub returns-in_default-clause-told : goal.returns-in_default-clause-told
returns-in_default-clause-told c = no_call c.args.call c.args.first c.len.result (with_phase c.args.part (λ state p. phase_told state.is_wanted (is_refusal p c.args.reply.items) c.args.reply.items p.phase)) c.args.calls.now.items (omega (arith, c.len.ensures)) c.in_default.ensures.none

pub returns-clause-kept : goal.returns-clause-kept
returns-clause-kept c =
    let at = c.in-Some.ensures.some in
    if_none c.note_told.result c.note_told.ensures.kept (λ h. kept_item c.args.call c.args.first c.in-Some.index c.args.part c.args.calls.now.items c.note_told.new.self c.args.reply.items at.0 at.1 (omega (arith, at.2, c.len.ensures)) h)

pub returns-clause-returned : goal.returns-clause-returned
returns-clause-returned c =
    let at = c.in-Some.ensures.some in
    if_some c.note_told.result c.note_told.ensures.returned
    (λ _ h. returned_item c.args.call c.args.first c.in-Some.index c.args.part c.args.calls.now.items c.index_mut.result.now c.args.reply.items at.0 at.1 (omega (arith, at.2, c.len.ensures)) c.index_mut.ensures.value h)
