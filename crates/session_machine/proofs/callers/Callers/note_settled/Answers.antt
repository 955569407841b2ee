use Rattle.std.proofs.Common.{refl, sym, ap, subst, ◌∙◌}
use Rattle.session_core.specs.declared.ordered_part.Status.TheVariants.{Settled}
use Rattle.session_core.specs.Order.{Order, IsOnItsWay, with_status, trimmed}
use Rattle.session_machine.specs.Caller.{no_calls}
use Rattle.session_machine.specs.Callers.{order_of}
use Rattle.session_machine.specs.declared.caller.Caller.{Caller}
use Rattle.session_machine.proofs.CallerMaps.{order_by, there, missing, none_there, lent, lent_order}
use Rattle.session_machine.proofs.callers.Callers.note_settled.Goals as goal

pub note_settled-requires : goal.note_settled-requires
note_settled-requires c =
    let was = c.in-Some.entry.now in
    subst (IsOnItsWay c.args.place) (order_by c.args.caller c.args.self.now was (there c.args.caller c.args.self.now was c.in-Some.ensures.value)) c.requires

pub returns-in-Some-clause-order : goal.returns-in-Some-clause-order
returns-in-Some-clause-order c =
    let was = c.in-Some.entry.now in
    let now : Caller = record was { order = c.note_settled.new.self } in
    let w = lent c.args.caller c.args.self.now (c.get_mut.follows.lender now) was now c.in-Some.ensures.value (c.get_mut.follows.holds now) in
    w.order ∙ c.note_settled.ensures ∙ ap (λ (o : Order). trimmed (with_status c.args.place Settled o)) (sym w.was_order)

pub returns-in-Some-clause-only : goal.returns-in-Some-clause-only
returns-in-Some-clause-only c =
    let was = c.in-Some.entry.now in
    let now : Caller = record was { order = c.note_settled.new.self } in
    lent_order c.args.caller c.args.self.now (c.get_mut.follows.lender now) was now c.in-Some.ensures.value (c.get_mut.follows.holds now) refl refl

pub returns-in_default-clause-order : goal.returns-in_default-clause-order
returns-in_default-clause-order c =
    absurd (none_there c.args.place (order_of c.args.caller c.args.self.now) c.requires.0 (order_by c.args.caller c.args.self.now no_calls (missing c.args.caller c.args.self.now c.in_default.ensures.value)) c.requires.2)

pub returns-in_default-clause-only : goal.returns-in_default-clause-only
returns-in_default-clause-only c =
    absurd (none_there c.args.place (order_of c.args.caller c.args.self.now) c.requires.0 (order_by c.args.caller c.args.self.now no_calls (missing c.args.caller c.args.self.now c.in_default.ensures.value)) c.requires.2)
