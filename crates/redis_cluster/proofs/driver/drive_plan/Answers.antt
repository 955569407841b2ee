use Rattle.std.proofs.Common.{◌≡◌, [], true, inl, inr, refl, sym, subst, length}
use Rattle.std.specs.Prelude.{IsSome}
use Rattle.std.proofs.lemmas.List.{append-nil}
use Rattle.std.proofs.lemmas.List.Elements.{All-nil}
use Rattle.std.proofs.lemmas.Result.{IfErr-weaker}
use Rattle.redis_routing.specs.Registry.{Registrations}
use Rattle.redis_cluster.specs.Orders.{NamesOnce}
use Rattle.redis_cluster.specs.Retry.{RetryState}
use Rattle.redis_cluster.proofs.Amid.{parts_act_by_slot}
use Rattle.redis_cluster.proofs.Ended.{all_three, ended_late, memory_is_no_reply, traced_so}
use Rattle.redis_cluster.specs.Ready.{IsPlanOf, IsPlanNode}
use Rattle.redis_cluster.specs.declared.fault.DriveFault.TheVariants.{BadOrder}
use Rattle.redis_cluster.proofs.Headline.{begins, headline_fault, carried_fault}
use Rattle.redis_cluster.proofs.TriedOnce.{delivered_once, plan_tried, plan_driven, plan_cut, bad_order, bad_order_is_no_reply}
use Rattle.redis_cluster.proofs.driver.drive_plan.Goals as goal

pub drive_tries-requires : goal.drive_tries-requires
drive_tries-requires g c =
    let names : NamesOnce (length c.args.plan.split.routes) c.args.order.now = subst (λ n. NamesOnce n c.args.order.now) c.len.ensures.len (c.in-Ok-true.ensures.0 c.in-Ok-true.field-0-test) in
    record { command = c.requires.command; untold = c.requires.untold; order = names; named = All-nil (λ (retry : RetryState). IsSome retry.target) }

pub returns-in-Ok-true-clause-delivered : goal.returns-in-Ok-true-clause-delivered
returns-in-Ok-true-clause-delivered g c =
    let names : NamesOnce (length c.args.plan.split.routes) c.args.order.now = subst (λ n. NamesOnce n c.args.order.now) c.len.ensures.len (c.in-Ok-true.ensures.0 c.in-Ok-true.field-0-test) in
    traced_so _ c.drive_tries.result
    (λ value tried asked command is in_this of_these. delivered_once (IsPlanNode c.args.plan) asked (g.N.Nodes.state c.args.nodes.now).trace (g.N.Nodes.state c.drive_tries.new.nodes).trace
    (plan_tried (IsPlanNode c.args.plan) g.N.Nodes.step asked c.args.order.now (g.N.Nodes.registered c.args.nodes.now) (g.N.Nodes.state c.args.nodes.now) (g.N.Nodes.state c.drive_tries.new.nodes) c.args.plan command is in_this of_these names tried))
    c.drive_tries.ensures.trace

pub returns-in-Ok-true-clause-driven : goal.returns-in-Ok-true-clause-driven
returns-in-Ok-true-clause-driven g c =
    let names : NamesOnce (length c.args.plan.split.routes) c.args.order.now = subst (λ n. NamesOnce n c.args.order.now) c.len.ensures.len (c.in-Ok-true.ensures.0 c.in-Ok-true.field-0-test) in
    all_three _ _ c.drive_tries.result
    (λ value tried keyspace reply asked command is in_this of_these now. plan_driven (IsPlanNode c.args.plan) g.N.Nodes.step asked c.args.order.now (g.N.Nodes.registered c.args.nodes.now) (g.N.Nodes.state c.args.nodes.now) (g.N.Nodes.state c.drive_tries.new.nodes) c.args.plan command is in_this of_these names _ tried (keyspace command (subst (λ (reg : Registrations). IsPlanOf reg command c.args.plan) of_these is.plan_is) now) (reply command (subst (λ (reg : Registrations). IsPlanOf reg command c.args.plan) of_these is.plan_is) now))
    c.drive_tries.ensures.trace c.drive_tries.ensures.keyspace c.drive_tries.ensures.reply

pub returns-in-Ok-true-clause-cut : goal.returns-in-Ok-true-clause-cut
returns-in-Ok-true-clause-cut g c =
    let names : NamesOnce (length c.args.plan.split.routes) c.args.order.now = subst (λ n. NamesOnce n c.args.order.now) c.len.ensures.len (c.in-Ok-true.ensures.0 c.in-Ok-true.field-0-test) in
    let nodes = g.N.Nodes in
    IfErr-weaker c.drive_tries.result _ _
    (λ e ended asked command is in_this of_these. inr (plan_cut (IsPlanNode c.args.plan) nodes.step asked c.args.order.now (nodes.registered c.args.nodes.now) (nodes.state c.args.nodes.now) (nodes.state c.drive_tries.new.nodes)
    c.args.plan command is in_this of_these names (nodes.kept c.drive_tries.new.nodes) (nodes.may_refuse c.args.nodes.now) e.fault e.answered ended).0)
    c.drive_tries.ensures.stopped

pub returns-in-Ok-true-clause-fault : goal.returns-in-Ok-true-clause-fault
returns-in-Ok-true-clause-fault g c =
    let names : NamesOnce (length c.args.plan.split.routes) c.args.order.now = subst (λ n. NamesOnce n c.args.order.now) c.len.ensures.len (c.in-Ok-true.ensures.0 c.in-Ok-true.field-0-test) in
    let nodes = g.N.Nodes in
    IfErr-weaker c.drive_tries.result _ _
    (λ e ended asked command is in_this of_these now.
    let cut = plan_cut (IsPlanNode c.args.plan) nodes.step asked c.args.order.now (nodes.registered c.args.nodes.now) (nodes.state c.args.nodes.now) (nodes.state c.drive_tries.new.nodes)
    c.args.plan command is in_this of_these names (nodes.kept c.drive_tries.new.nodes) (nodes.may_refuse c.args.nodes.now) e.fault e.answered ended in
    inr (cut.0, (cut.1 now).0, (cut.1 now).1))
    c.drive_tries.ensures.stopped

pub returns-in-Ok-true-clause-untouched : goal.returns-in-Ok-true-clause-untouched
returns-in-Ok-true-clause-untouched g c =
    IfErr-weaker c.drive_tries.result _ _
    (λ e ended before. absurd (ended_late _ _ _ _ _ _ _ _ _ _ _ _ e.fault e.answered ended before))
    c.drive_tries.ensures.stopped

pub returns-in-Ok-false-clause-fault : goal.returns-in-Ok-false-clause-fault
returns-in-Ok-false-clause-fault g c = λ asked command is in_this of_these now.
    inl (bad_order asked c.args.order.now c.args.plan command is in_this (λ named. absurd (let is : c.in-Ok-false.field-0 ≡ true = c.in-Ok-false.ensures.1 (subst (λ n. NamesOnce n c.args.order.now) (sym c.len.ensures.len) named) in cc (is, c.in-Ok-false.field-0-test))), refl, refl)

pub returns-in-Ok-false-clause-cut : goal.returns-in-Ok-false-clause-cut
returns-in-Ok-false-clause-cut g c = λ asked command is in_this of_these.
    inl (bad_order asked c.args.order.now c.args.plan command is in_this (λ named. absurd (let is : c.in-Ok-false.field-0 ≡ true = c.in-Ok-false.ensures.1 (subst (λ n. NamesOnce n c.args.order.now) (sym c.len.ensures.len) named) in cc (is, c.in-Ok-false.field-0-test))), refl, refl)

pub returns-in-Ok-false-clause-joined : goal.returns-in-Ok-false-clause-joined
returns-in-Ok-false-clause-joined g c = λ error is. absurd (bad_order_is_no_reply error is)

pub returns-in-Ok-false-clause-given : goal.returns-in-Ok-false-clause-given
returns-in-Ok-false-clause-given g c =
    record { replies = []; each = refl; gave = λ before was. subst (g.N.Nodes.gave c.args.nodes.now) (sym (append-nil before)) was }

pub returns-in-Err-clause-fault : goal.returns-in-Err-clause-fault
returns-in-Err-clause-fault g c = λ asked command is in_this of_these now. inl (tt, refl, refl)

pub returns-in-Err-clause-cut : goal.returns-in-Err-clause-cut
returns-in-Err-clause-cut g c = λ asked command is in_this of_these. inl (tt, refl, refl)

pub returns-in-Err-clause-joined : goal.returns-in-Err-clause-joined
returns-in-Err-clause-joined g c = λ error is. absurd (memory_is_no_reply error is)

pub returns-in-Err-clause-given : goal.returns-in-Err-clause-given
returns-in-Err-clause-given g c =
    record { replies = []; each = refl; gave = λ before was. subst (g.N.Nodes.gave c.args.nodes.now) (sym (append-nil before)) was }

pub returns-in-Ok-true-clause-headline : goal.returns-in-Ok-true-clause-headline
returns-in-Ok-true-clause-headline g c =
    let old = g.N.Nodes.state c.args.nodes.now in
    let new = g.N.Nodes.state c.drive_tries.new.nodes in
    IfErr-weaker c.drive_tries.result _ _
    (λ e fault asked command is in_this of_these headline now. headline_fault (IsPlanNode c.args.plan) g.N.Nodes.step asked old new (g.N.Nodes.may_refuse c.args.nodes.now) headline e.fault e.answered (fault asked command is in_this of_these now))
    (returns-in-Ok-true-clause-fault g c)

pub returns-in-Ok-true-clause-carried : goal.returns-in-Ok-true-clause-carried
returns-in-Ok-true-clause-carried g c =
    let old = g.N.Nodes.state c.args.nodes.now in
    let new = g.N.Nodes.state c.drive_tries.new.nodes in
    IfErr-weaker c.drive_tries.result _ _
    (λ e fault asked command is in_this of_these routes can all now. carried_fault (IsPlanNode c.args.plan) g.N.Nodes.step asked old new (g.N.Nodes.may_refuse c.args.nodes.now) routes command can all e.fault e.answered (fault asked command is in_this of_these now))
    (returns-in-Ok-true-clause-fault g c)

pub returns-in-Ok-false-clause-headline : goal.returns-in-Ok-false-clause-headline
returns-in-Ok-false-clause-headline g c = λ asked command is in_this of_these headline now.
    begins asked headline.routes headline.command headline.drivable BadOrder
    (bad_order asked c.args.order.now c.args.plan command is in_this (λ named. absurd (let is : c.in-Ok-false.field-0 ≡ true = c.in-Ok-false.ensures.1 (subst (λ n. NamesOnce n c.args.order.now) (sym c.len.ensures.len) named) in cc (is, c.in-Ok-false.field-0-test))))

pub returns-in-Ok-false-clause-carried : goal.returns-in-Ok-false-clause-carried
returns-in-Ok-false-clause-carried g c = λ asked command is in_this of_these routes can all now.
    begins asked routes command can BadOrder
    (bad_order asked c.args.order.now c.args.plan command is in_this (λ named. absurd (let is : c.in-Ok-false.field-0 ≡ true = c.in-Ok-false.ensures.1 (subst (λ n. NamesOnce n c.args.order.now) (sym c.len.ensures.len) named) in cc (is, c.in-Ok-false.field-0-test))))

pub returns-in-Err-clause-headline : goal.returns-in-Err-clause-headline
returns-in-Err-clause-headline g c = λ asked command is in_this of_these headline now. refl

pub returns-in-Err-clause-carried : goal.returns-in-Err-clause-carried
returns-in-Err-clause-carried g c = λ asked command is in_this of_these routes can all now. refl

pub returns-in-Ok-true-clause-parts : goal.returns-in-Ok-true-clause-parts
returns-in-Ok-true-clause-parts g c = parts_act_by_slot g.N.Nodes.Cell (g.N.Nodes.registered c.args.nodes.now) c.args.plan.split.arguments

pub returns-in-Ok-false-clause-parts : goal.returns-in-Ok-false-clause-parts
returns-in-Ok-false-clause-parts g c = parts_act_by_slot g.N.Nodes.Cell (g.N.Nodes.registered c.args.nodes.now) c.args.plan.split.arguments

pub returns-in-Err-clause-parts : goal.returns-in-Err-clause-parts
returns-in-Err-clause-parts g c = parts_act_by_slot g.N.Nodes.Cell (g.N.Nodes.registered c.args.nodes.now) c.args.plan.split.arguments
