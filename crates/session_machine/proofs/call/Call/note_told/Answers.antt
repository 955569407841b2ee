use Rattle.std.proofs.Common.{arith}
use Rattle.session_core.specs.Part.{phase_told, is_refusal}
use Rattle.session_core.specs.State.{CallState}
use Rattle.session_machine.proofs.PartLists.{with_part, no_part, kept_part}
use Rattle.session_machine.proofs.Outcomes.{if_none}
use Rattle.session_machine.proofs.call.Call.note_told.Goals as goal

pub returns-clause-told : goal.returns-clause-told
returns-clause-told c =
    let s : CallState = record { caller = c.self.inside.caller; parts = c.self.inside.parts.items; is_wanted = c.self.inside.is_wanted } in
    with_part s c.args.self.now c.args.part (λ state p. phase_told state.is_wanted (is_refusal p c.args.reply.items) c.args.reply.items p.phase) c.index_mut.result.now c.note_told.new.self c.self.view_is (omega arith) c.index_mut.ensures.value c.note_told.ensures.told

pub returns-then-len-part-clause-told : goal.returns-then-len-part-clause-told
returns-then-len-part-clause-told c =
    let s : CallState = record { caller = c.self.inside.caller; parts = c.self.inside.parts.items; is_wanted = c.self.inside.is_wanted } in
    no_part s c.args.self.now c.args.part (λ state p. phase_told state.is_wanted (is_refusal p c.args.reply.items) c.args.reply.items p.phase) c.self.view_is (omega arith)

pub returns-clause-kept : goal.returns-clause-kept
returns-clause-kept c = if_none c.note_told.result c.note_told.ensures.kept (λ h. kept_part c.self.inside.parts.items c.args.part c.note_told.new.self c.args.reply.items (omega arith) h)
