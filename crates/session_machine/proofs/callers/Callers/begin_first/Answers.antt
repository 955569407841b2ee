use Rattle.std.proofs.Common.{◌≡◌, true, false, Some, refl, sym, ap, subst, ◌∙◌}
use Rattle.session_core.specs.Order.{MayJoin, joined}
use Rattle.session_machine.specs.Ties.{end_of, is_owed}
use Rattle.session_machine.specs.declared.caller.Caller.{Caller}
use Rattle.session_machine.proofs.CallerMaps.{order_by, missing, written, others_same, err_same}
use Rattle.session_machine.proofs.callers.Callers.begin_first.Goals as goal

pub begin-requires-clause-joins : goal.begin-requires-clause-joins
begin-requires-clause-joins c =
    let was = c.deref_mut.result.now in
    let none = missing c.args.caller c.args.self.now (sym c.requires.unknown) ∙ sym (c.deref_mut.ensures.value ∙ c.in_ok-entry.ensures) in
    subst (MayJoin c.args.number c.args.orders.now) (order_by c.args.caller c.args.self.now was none) c.requires.joins

pub begin-requires-clause-later : goal.begin-requires-clause-later
begin-requires-clause-later c = λ call is. let z : false ≡ true = sym (ap (λ (x : Caller). is_owed call x.owed) (c.deref_mut.ensures.value ∙ c.in_ok-entry.ensures)) ∙ is in absurd (cc)

pub returns-in_err-entry-clause-others : goal.returns-in_err-entry-clause-others
returns-in_err-entry-clause-others c = others_same c.args.caller c.args.self.now (record c.args.self.now { spares = c.take.new.self }) (λ n. refl)

pub returns-in_err-entry-clause-err : goal.returns-in_err-entry-clause-err
returns-in_err-entry-clause-err c = err_same c.args.self.now (record c.args.self.now { spares = c.take.new.self }) c.from_residual.result (λ n. refl)

pub returns-in_err-places-clause-others : goal.returns-in_err-places-clause-others
returns-in_err-places-clause-others c = others_same c.args.caller c.args.self.now (record c.args.self.now { spares = c.take.new.self }) (λ n. refl)

pub returns-in_err-places-clause-err : goal.returns-in_err-places-clause-err
returns-in_err-places-clause-err c = err_same c.args.self.now (record c.args.self.now { spares = c.take.new.self }) c.from_residual-in_err-places.result (λ n. refl)

pub returns-in_err-insert-clause-others : goal.returns-in_err-insert-clause-others
returns-in_err-insert-clause-others c = others_same c.args.caller c.args.self.now (record { callers = c.insert.new.self; spares = c.take.new.self }) c.in_err-insert.ensures.err

pub returns-in_err-insert-clause-err : goal.returns-in_err-insert-clause-err
returns-in_err-insert-clause-err c = err_same c.args.self.now (record { callers = c.insert.new.self; spares = c.take.new.self }) c.from_residual-in_err-insert.result c.in_err-insert.ensures.err

pub returns-clause-place : goal.returns-clause-place
returns-clause-place c =
    let was = c.deref_mut.result.now in
    let none = missing c.args.caller c.args.self.now (sym c.requires.unknown) ∙ sym (c.deref_mut.ensures.value ∙ c.in_ok-entry.ensures) in
    let w = written c.args.caller was c.begin.new.self c.args.self.now (record { callers = c.insert.new.self; spares = c.take.new.self }) none c.in_ok-insert.ensures.ok in
    c.in_ok-places.ensures.place ∙ ap end_of (sym w.was_order)

pub returns-clause-joined : goal.returns-clause-joined
returns-clause-joined c =
    let was = c.deref_mut.result.now in
    let none = missing c.args.caller c.args.self.now (sym c.requires.unknown) ∙ sym (c.deref_mut.ensures.value ∙ c.in_ok-entry.ensures) in
    let w = written c.args.caller was c.begin.new.self c.args.self.now (record { callers = c.insert.new.self; spares = c.take.new.self }) none c.in_ok-insert.ensures.ok in
    w.order ∙ c.in_ok-places.ensures.joined ∙ ap (joined c.args.number c.args.orders.now) (sym w.was_order)

pub returns-clause-owed : goal.returns-clause-owed
returns-clause-owed c =
    let was = c.deref_mut.result.now in
    let none = missing c.args.caller c.args.self.now (sym c.requires.unknown) ∙ sym (c.deref_mut.ensures.value ∙ c.in_ok-entry.ensures) in
    let w = written c.args.caller was c.begin.new.self c.args.self.now (record { callers = c.insert.new.self; spares = c.take.new.self }) none c.in_ok-insert.ensures.ok in
    rw (w.was_owed, w.owed) c.in_ok-places.ensures.owed

pub returns-clause-others : goal.returns-clause-others
returns-clause-others c =
    let was = c.deref_mut.result.now in
    let none = missing c.args.caller c.args.self.now (sym c.requires.unknown) ∙ sym (c.deref_mut.ensures.value ∙ c.in_ok-entry.ensures) in
    let w = written c.args.caller was c.begin.new.self c.args.self.now (record { callers = c.insert.new.self; spares = c.take.new.self }) none c.in_ok-insert.ensures.ok in
    w.others

pub returns-clause-last : goal.returns-clause-last
returns-clause-last c =
    let was = c.deref_mut.result.now in
    let none = missing c.args.caller c.args.self.now (sym c.requires.unknown) ∙ sym (c.deref_mut.ensures.value ∙ c.in_ok-entry.ensures) in
    let w = written c.args.caller was c.begin.new.self c.args.self.now (record { callers = c.insert.new.self; spares = c.take.new.self }) none c.in_ok-insert.ensures.ok in
    w.last ∙ ap Some c.in_ok-places.ensures.last
