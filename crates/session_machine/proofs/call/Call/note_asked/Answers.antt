use Rattle.std.proofs.Common.{arith}
use Rattle.session_core.specs.Part.{phase_asked}
use Rattle.session_core.specs.State.{CallState}
use Rattle.session_machine.proofs.PartLists.{with_part, no_part}
use Rattle.session_machine.proofs.call.Call.note_asked.Goals as goal

pub returns-then-part-len : goal.returns-then-part-len
returns-then-part-len c =
    let s : CallState = record { caller = c.self.inside.caller; parts = c.self.inside.parts.items; is_wanted = c.self.inside.is_wanted } in
    with_part s c.args.self.now c.args.part (λ state p. phase_asked c.args.link p.phase) c.index_mut.result.now c.note_asked.new.self c.self.view_is (omega arith) c.index_mut.ensures.value c.note_asked.ensures

pub returns-else-part-len : goal.returns-else-part-len
returns-else-part-len c =
    let s : CallState = record { caller = c.self.inside.caller; parts = c.self.inside.parts.items; is_wanted = c.self.inside.is_wanted } in
    no_part s c.args.self.now c.args.part (λ state p. phase_asked c.args.link p.phase) c.self.view_is (omega arith)
