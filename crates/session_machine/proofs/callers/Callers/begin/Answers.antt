use Rattle.std.proofs.Common.{◌≡◌, ◌<◌, ℕ, true, Some, ap, sym, ◌∙◌, subst, List}
use Rattle.session_machine.specs.declared.caller.Caller.{Caller}
use Rattle.session_machine.specs.declared.callers.Callers.{Callers}
use Rattle.session_core.specs.Order.{MayJoin}
use Rattle.session_machine.specs.Ties.{is_owed}
use Rattle.session_machine.proofs.CallerMaps.{order_by, owed_by, there, lent, last_by, err_kept, same_callers, same_order, same_owed, others_after, kept_after}
use Rattle.session_machine.proofs.Outcomes.{on_ok}
use Rattle.session_machine.proofs.callers.Callers.begin.Goals as goal

pub begin-requires-clause-joins : goal.begin-requires-clause-joins
begin-requires-clause-joins c =
    let was = c.in-Some.entry.now in
    subst (MayJoin c.args.number c.args.orders.now) (order_by c.args.caller c.args.self.now was (there c.args.caller c.args.self.now was c.in-Some.ensures.value)) c.requires.joins

pub begin-requires-clause-later : goal.begin-requires-clause-later
begin-requires-clause-later c =
    let was = c.in-Some.entry.now in
    subst (λ (owed : List ℕ). (call : ℕ) → is_owed call owed ≡ true → call < c.args.number) (owed_by c.args.caller c.args.self.now was (there c.args.caller c.args.self.now was c.in-Some.ensures.value)) c.requires.later

pub returns-in-Some-clause-place : goal.returns-in-Some-clause-place
returns-in-Some-clause-place c =
    let was = c.in-Some.entry.now in
    let now : Caller = c.begin.new.self in
    let w = lent c.args.caller c.args.self.now (c.get_mut.follows.lender now) was now c.in-Some.ensures.value (c.get_mut.follows.holds now) in
    rw w.was_order c.begin.ensures.place

pub returns-in-Some-clause-joined : goal.returns-in-Some-clause-joined
returns-in-Some-clause-joined c =
    let was = c.in-Some.entry.now in
    let now : Caller = c.begin.new.self in
    let w = lent c.args.caller c.args.self.now (c.get_mut.follows.lender now) was now c.in-Some.ensures.value (c.get_mut.follows.holds now) in
    rw (w.was_order, w.order) c.begin.ensures.joined

pub returns-in-Some-clause-owed : goal.returns-in-Some-clause-owed
returns-in-Some-clause-owed c =
    let was = c.in-Some.entry.now in
    let now : Caller = c.begin.new.self in
    let w = lent c.args.caller c.args.self.now (c.get_mut.follows.lender now) was now c.in-Some.ensures.value (c.get_mut.follows.holds now) in
    rw (w.was_owed, w.owed) c.begin.ensures.owed

pub returns-in-Some-clause-others : goal.returns-in-Some-clause-others
returns-in-Some-clause-others c =
    let was = c.in-Some.entry.now in
    let now : Caller = c.begin.new.self in
    let w = lent c.args.caller c.args.self.now (c.get_mut.follows.lender now) was now c.in-Some.ensures.value (c.get_mut.follows.holds now) in
    w.others

pub returns-in-Some-clause-err : goal.returns-in-Some-clause-err
returns-in-Some-clause-err c =
    let was = c.in-Some.entry.now in
    let now : Caller = c.begin.new.self in
    let w = lent c.args.caller c.args.self.now (c.get_mut.follows.lender now) was now c.in-Some.ensures.value (c.get_mut.follows.holds now) in
    err_kept c.args.caller was now c.args.self.now (record c.args.self.now { callers = c.get_mut.follows.lender now }) c.begin.result (last_by c.args.caller c.args.self.now (Some was) c.in-Some.ensures.value) w c.begin.ensures.err

pub returns-in-Some-clause-last : goal.returns-in-Some-clause-last
returns-in-Some-clause-last c =
    let was = c.in-Some.entry.now in
    let now : Caller = c.begin.new.self in
    let w = lent c.args.caller c.args.self.now (c.get_mut.follows.lender now) was now c.in-Some.ensures.value (c.get_mut.follows.holds now) in
    on_ok c.begin.result c.begin.ensures.last (λ last. w.last ∙ ap Some last)

pub begin_first-requires-clause-unknown : goal.begin_first-requires-clause-unknown
begin_first-requires-clause-unknown c = c.get_mut.follows.holds-at-none c.args.caller ∙ sym c.in-None.ensures.value

pub begin_first-requires-clause-joins : goal.begin_first-requires-clause-joins
begin_first-requires-clause-joins c =
    let mid : Callers = record c.args.self.now { callers = c.get_mut.follows.lender-at-none } in
    subst (MayJoin c.args.number c.args.orders.now) (sym (same_order c.args.caller c.args.self.now mid (same_callers c.args.caller c.args.self.now mid c.get_mut.follows.holds-at-none))) c.requires.joins

pub returns-in-None-clause-place : goal.returns-in-None-clause-place
returns-in-None-clause-place c =
    let mid : Callers = record c.args.self.now { callers = c.get_mut.follows.lender-at-none } in
    rw (sym (same_order c.args.caller c.args.self.now mid (same_callers c.args.caller c.args.self.now mid c.get_mut.follows.holds-at-none))) c.begin_first.ensures.place

pub returns-in-None-clause-joined : goal.returns-in-None-clause-joined
returns-in-None-clause-joined c =
    let mid : Callers = record c.args.self.now { callers = c.get_mut.follows.lender-at-none } in
    rw (sym (same_order c.args.caller c.args.self.now mid (same_callers c.args.caller c.args.self.now mid c.get_mut.follows.holds-at-none))) c.begin_first.ensures.joined

pub returns-in-None-clause-owed : goal.returns-in-None-clause-owed
returns-in-None-clause-owed c =
    let mid : Callers = record c.args.self.now { callers = c.get_mut.follows.lender-at-none } in
    rw (sym (same_owed c.args.caller c.args.self.now mid (same_callers c.args.caller c.args.self.now mid c.get_mut.follows.holds-at-none))) c.begin_first.ensures.owed

pub returns-in-None-clause-others : goal.returns-in-None-clause-others
returns-in-None-clause-others c =
    let mid : Callers = record c.args.self.now { callers = c.get_mut.follows.lender-at-none } in
    others_after c.args.caller c.args.self.now mid c.begin_first.new.self c.get_mut.follows.holds-at-none c.begin_first.ensures.others

pub returns-in-None-clause-err : goal.returns-in-None-clause-err
returns-in-None-clause-err c =
    let mid : Callers = record c.args.self.now { callers = c.get_mut.follows.lender-at-none } in
    kept_after c.args.self.now mid c.begin_first.new.self c.begin_first.result c.get_mut.follows.holds-at-none c.begin_first.ensures.err
