use Rattle.std.proofs.Common.{sym, ◌∙◌}
use Rattle.session_machine.proofs.PartMoves.{call_goes, call_stays}
use Rattle.session_machine.proofs.part_places.note_given_up.Goals as goal

pub returns-then-is_ordered : goal.returns-then-is_ordered
returns-then-is_ordered c =
    call_goes c.args.caller c.args.place c.args.count c.args.order c.args.callers.now c.note_all_unsent.new.self (sym c.is_ordered.ensures ∙ c.if-is_ordered.true)
    c.note_all_unsent.ensures.order c.note_all_unsent.ensures.only

pub returns-else-is_ordered : goal.returns-else-is_ordered
returns-else-is_ordered c = call_stays c.args.caller c.args.place c.args.count c.args.order c.args.callers.now (sym c.is_ordered.ensures ∙ c.if-is_ordered.false)
