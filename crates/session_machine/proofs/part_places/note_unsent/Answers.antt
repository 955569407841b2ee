use Rattle.std.proofs.Common.{sym, ◌∙◌}
use Rattle.session_machine.specs.Callers.{order_of}
use Rattle.session_machine.proofs.PartMoves.{part_goes, part_stays, goes_unsent}
use Rattle.session_machine.proofs.part_places.note_unsent.Goals as goal

pub returns-then-is_ordered : goal.returns-then-is_ordered
returns-then-is_ordered c =
    let o = sym c.is_ordered.ensures ∙ c.if-is_ordered.true in
    part_goes c.args.caller c.args.place c.args.order _ c.args.callers.now c.note_unsent.new.self o
    (goes_unsent c.args.place (order_of c.args.caller c.args.callers.now) (order_of c.args.caller c.note_unsent.new.self) (c.requires o) c.note_unsent.ensures.order)
    c.note_unsent.ensures.only

pub returns-else-is_ordered : goal.returns-else-is_ordered
returns-else-is_ordered c = part_stays c.args.caller c.args.place c.args.order _ c.args.callers.now (sym c.is_ordered.ensures ∙ c.if-is_ordered.false)
