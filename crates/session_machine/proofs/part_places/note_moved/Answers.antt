use Rattle.std.proofs.Common.{sym, ◌∙◌, subst}
use Rattle.session_core.specs.declared.ordered_part.Status.{Status}
use Rattle.session_core.specs.declared.ordered_part.Status.TheVariants.{Waits, Settled, Unsent}
use Rattle.session_machine.specs.Callers.{order_of}
use Rattle.session_machine.specs.Kept.{PartGoes}
use Rattle.session_machine.proofs.PartMoves.{part_goes, goes_back, goes_settled, goes_never}
use Rattle.session_machine.proofs.part_places.note_moved.Goals as goal

pub unreachable-requires : goal.unreachable-requires
unreachable-requires c = c.requires.moved c.in-Asked.field-0 c.in-Asked.is

pub returns-in-Waits : goal.returns-in-Waits
returns-in-Waits c =
    let o = sym c.is_ordered.ensures ∙ c.if-not-is_ordered.false in
    let old = order_of c.args.caller c.args.callers.now in
    subst (λ (st : Status). PartGoes c.args.caller c.args.place c.args.order st c.args.callers.now c.note_refused.new.self) (sym c.in-Waits.is)
    (part_goes c.args.caller c.args.place c.args.order Waits c.args.callers.now c.note_refused.new.self o
    (goes_back c.args.place old (order_of c.args.caller c.note_refused.new.self) (c.requires.on_way o) c.note_refused.ensures.order)
    c.note_refused.ensures.only)

pub returns-in-Settled : goal.returns-in-Settled
returns-in-Settled c =
    let o = sym c.is_ordered.ensures ∙ c.if-not-is_ordered.false in
    let old = order_of c.args.caller c.args.callers.now in
    subst (λ (st : Status). PartGoes c.args.caller c.args.place c.args.order st c.args.callers.now c.note_settled.new.self) (sym c.in-Settled.is)
    (part_goes c.args.caller c.args.place c.args.order Settled c.args.callers.now c.note_settled.new.self o
    (goes_settled c.args.place old (order_of c.args.caller c.note_settled.new.self) (c.requires.on_way o) c.note_settled.ensures.order)
    c.note_settled.ensures.only)

pub returns-in-Unsent : goal.returns-in-Unsent
returns-in-Unsent c =
    let o = sym c.is_ordered.ensures ∙ c.if-not-is_ordered.false in
    let old = order_of c.args.caller c.args.callers.now in
    subst (λ (st : Status). PartGoes c.args.caller c.args.place c.args.order st c.args.callers.now c.note_never.new.callers) (sym c.in-Unsent.is)
    (part_goes c.args.caller c.args.place c.args.order Unsent c.args.callers.now c.note_never.new.callers o
    (goes_never c.args.place old (order_of c.args.caller c.note_never.new.callers) (c.requires.on_way o) c.note_never.ensures.order)
    c.note_never.ensures.only)
