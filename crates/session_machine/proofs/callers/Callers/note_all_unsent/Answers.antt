use Rattle.std.proofs.Common.{refl, ◌+◌, ◌≤◌, subst, sym}
use Rattle.session_core.specs.Order.{Order}
use Rattle.session_machine.specs.Ties.{end_of, given_up, OrderGoes}
use Rattle.session_machine.specs.Caller.{no_calls}
use Rattle.session_machine.specs.Callers.{order_of}
use Rattle.session_machine.specs.declared.caller.Caller.{Caller}
use Rattle.session_machine.proofs.CallerMaps.{order_by, there, missing, lent, lent_order, only_same, same_order, same_callers}
use Rattle.session_machine.proofs.GivenUp.{up_nothing}
use Rattle.session_machine.proofs.callers.Callers.note_all_unsent.Goals as goal

pub give_up-requires : goal.give_up-requires
give_up-requires c =
    let was = c.in-Some.entry.now in
    subst (λ (o : Order). c.args.place + c.args.count ≤ end_of o) (order_by c.args.caller c.args.self.now was (there c.args.caller c.args.self.now was c.in-Some.ensures.value)) c.requires

pub returns-in-Some-clause-order : goal.returns-in-Some-clause-order
returns-in-Some-clause-order c =
    let was = c.in-Some.entry.now in
    let now : Caller = record was { order = c.give_up.new.order } in
    let w = lent c.args.caller c.args.self.now (c.get_mut.follows.lender now) was now c.in-Some.ensures.value (c.get_mut.follows.holds now) in
    subst (λ (o : Order). OrderGoes (given_up c.args.place c.args.count) o (order_of c.args.caller (record c.args.self.now { callers = c.get_mut.follows.lender now }))) (sym w.was_order)
    (subst (OrderGoes (given_up c.args.place c.args.count) was.order) (sym w.order) c.give_up.ensures)

pub returns-in-Some-clause-only : goal.returns-in-Some-clause-only
returns-in-Some-clause-only c =
    let was = c.in-Some.entry.now in
    let now : Caller = record was { order = c.give_up.new.order } in
    lent_order c.args.caller c.args.self.now (c.get_mut.follows.lender now) was now c.in-Some.ensures.value (c.get_mut.follows.holds now) refl refl

pub returns-in_default-clause-order : goal.returns-in_default-clause-order
returns-in_default-clause-order c =
    let old = c.args.self.now in
    let new = record old { callers = c.get_mut.follows.lender-at-none } in
    let none = order_by c.args.caller old no_calls (missing c.args.caller old c.in_default.ensures.value) in
    subst (OrderGoes (given_up c.args.place c.args.count) (order_of c.args.caller old)) (sym (same_order c.args.caller old new (same_callers c.args.caller old new c.get_mut.follows.holds-at-none)))
    (up_nothing c.args.place c.args.count (order_of c.args.caller old) c.requires none)

pub returns-in_default-clause-only : goal.returns-in_default-clause-only
returns-in_default-clause-only c = only_same c.args.caller c.args.self.now (record c.args.self.now { callers = c.get_mut.follows.lender-at-none }) c.get_mut.follows.holds-at-none
