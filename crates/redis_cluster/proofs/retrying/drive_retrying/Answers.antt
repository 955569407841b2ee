use Rattle.std.proofs.Common.{List, [], map, inl, inr, refl, sym, subst, arith}
use Rattle.std.specs.List.{AllZip, zip}
use Rattle.redis_cluster.specs.Retry.{RetryState, IsRetryOf, Try}
use Rattle.std.proofs.lemmas.List.{append-nil}
use Rattle.std.proofs.lemmas.Result.{IfErr-weaker, IfOk-weaker}
use Rattle.resp_core.specs.View.{view}
use Rattle.cluster_slots.specs.SlotRoute.{SlotRoute}
use Rattle.cluster_map.specs.RouteNode.{IsRouteNode}
use Rattle.redis_routing.specs.Names.{names_of}
use Rattle.redis_cluster.specs.Driven.{Request, request}
use Rattle.redis_cluster.specs.Retried.{IsTryOf}
use Rattle.redis_cluster.specs.Faults.{IsCauseBeforeSending}
use Rattle.redis_cluster.specs.Ready.{targets, tries_with}
use Rattle.redis_cluster.specs.declared.fault.DriveFault.{DriveFault}
use Rattle.redis_routing.specs.Command.{Arguments}
use Rattle.redis_cluster.specs.Amid.{IsServedAmid}
use Rattle.redis_cluster.specs.Joined.{ReturnsJoined}
use Rattle.redis_cluster.proofs.Amid.{parts_act_by_slot}
use Rattle.redis_cluster.proofs.Gaps.{same_command}
use Rattle.redis_cluster.proofs.EachTry.{each_try, each_named}
use Rattle.redis_cluster.proofs.Allowed.{allowed_none}
use Rattle.redis_cluster.proofs.Headline.{begins}
use Rattle.redis_cluster.proofs.Laws.{one_answer}
use Rattle.redis_cluster.proofs.Unhindered.{headline_retried, carried_retried, delivered_alone}
use Rattle.redis_cluster.proofs.Ended.{all_three, all_tried, cut_short, ended_late, memory_is_no_reply, traced_so}
use Rattle.redis_cluster.proofs.retrying.drive_retrying.Goals as goal

pub drive_tries-requires : goal.drive_tries-requires
drive_tries-requires g c = grind (arith, each_named)

pub returns-in-Ok-retries_of-clause-tried : goal.returns-in-Ok-retries_of-clause-tried
returns-in-Ok-retries_of-clause-tried g c =
    let nodes = g.N.Nodes in
    let plan = c.in-Ok.plan in
    let own = c.deref_mut.result.now in
    let command = c.in-Ok.ensures.ready.0 in
    let is = c.in-Ok.ensures.ready.1 in
    let asked = request (g.R.Routable.args c.args.command.now) (names_of c.args.read_only.now (g.N.Nodes.registered c.args.nodes.now)) c.args.slot_map.now c.args.order.now in
    let old = nodes.state c.args.nodes.now in
    let new = nodes.state c.drive_tries.new.nodes in
    let are = each_try _ asked c.args.retries (map (λ t. t.0) plan.split.routes) plan.nodes plan.parts own is.targets_are (subst (λ (o : List RetryState). AllZip (IsRetryOf c.args.slot_map.now c.args.retries) (zip (map (λ t. t.0) c.in-Ok.plan.split.routes) c.in-Ok.plan.nodes) o) (sym c.deref_mut.ensures.value) c.in-Ok-retries_of.ensures.each) in
    traced_so _ c.drive_tries.result
    (λ value tried. all_tried _ nodes.step asked old new plan command is c.in-Ok.ensures.order _ (tries_with (targets plan) own) are tried)
    c.drive_tries.ensures.trace

pub returns-in-Ok-retries_of-clause-driven : goal.returns-in-Ok-retries_of-clause-driven
returns-in-Ok-retries_of-clause-driven g c =
    let nodes = g.N.Nodes in
    let plan = c.in-Ok.plan in
    let own = c.deref_mut.result.now in
    let command = c.in-Ok.ensures.ready.0 in
    let is = c.in-Ok.ensures.ready.1 in
    let asked = request (g.R.Routable.args c.args.command.now) (names_of c.args.read_only.now (g.N.Nodes.registered c.args.nodes.now)) c.args.slot_map.now c.args.order.now in
    let old = nodes.state c.args.nodes.now in
    let new = nodes.state c.drive_tries.new.nodes in
    let are = each_try _ asked c.args.retries (map (λ t. t.0) plan.split.routes) plan.nodes plan.parts own is.targets_are (subst (λ (o : List RetryState). AllZip (IsRetryOf c.args.slot_map.now c.args.retries) (zip (map (λ t. t.0) c.in-Ok.plan.split.routes) c.in-Ok.plan.nodes) o) (sym c.deref_mut.ensures.value) c.in-Ok-retries_of.ensures.each) in
    all_three _ _ c.drive_tries.result
    (λ value tried keyspace reply now. record {
      delivered = all_tried _ nodes.step asked old new plan command is c.in-Ok.ensures.order _ (tries_with (targets plan) own) are tried;
      keyspace = keyspace command is.plan_is now;
      reply = reply command is.plan_is now;
    })
    c.drive_tries.ensures.trace c.drive_tries.ensures.keyspace c.drive_tries.ensures.reply

pub returns-in-Ok-retries_of-clause-cut : goal.returns-in-Ok-retries_of-clause-cut
returns-in-Ok-retries_of-clause-cut g c =
    let nodes = g.N.Nodes in
    let plan = c.in-Ok.plan in
    let own = c.deref_mut.result.now in
    let command = c.in-Ok.ensures.ready.0 in
    let is = c.in-Ok.ensures.ready.1 in
    let asked = request (g.R.Routable.args c.args.command.now) (names_of c.args.read_only.now (g.N.Nodes.registered c.args.nodes.now)) c.args.slot_map.now c.args.order.now in
    let old = nodes.state c.args.nodes.now in
    let new = nodes.state c.drive_tries.new.nodes in
    let are = each_try _ asked c.args.retries (map (λ t. t.0) plan.split.routes) plan.nodes plan.parts own is.targets_are (subst (λ (o : List RetryState). AllZip (IsRetryOf c.args.slot_map.now c.args.retries) (zip (map (λ t. t.0) c.in-Ok.plan.split.routes) c.in-Ok.plan.nodes) o) (sym c.deref_mut.ensures.value) c.in-Ok-retries_of.ensures.each) in
    IfErr-weaker c.drive_tries.result _ _
    (λ e ended. inr (cut_short _ nodes.step asked old new plan command is c.in-Ok.ensures.order _ (tries_with (targets plan) own) are (nodes.kept c.drive_tries.new.nodes) (nodes.may_refuse c.args.nodes.now) e.answered e.fault ended).0)
    c.drive_tries.ensures.stopped

pub returns-in-Ok-retries_of-clause-fault : goal.returns-in-Ok-retries_of-clause-fault
returns-in-Ok-retries_of-clause-fault g c =
    let nodes = g.N.Nodes in
    let plan = c.in-Ok.plan in
    let own = c.deref_mut.result.now in
    let command = c.in-Ok.ensures.ready.0 in
    let is = c.in-Ok.ensures.ready.1 in
    let asked = request (g.R.Routable.args c.args.command.now) (names_of c.args.read_only.now (g.N.Nodes.registered c.args.nodes.now)) c.args.slot_map.now c.args.order.now in
    let old = nodes.state c.args.nodes.now in
    let new = nodes.state c.drive_tries.new.nodes in
    let are = each_try _ asked c.args.retries (map (λ t. t.0) plan.split.routes) plan.nodes plan.parts own is.targets_are (subst (λ (o : List RetryState). AllZip (IsRetryOf c.args.slot_map.now c.args.retries) (zip (map (λ t. t.0) c.in-Ok.plan.split.routes) c.in-Ok.plan.nodes) o) (sym c.deref_mut.ensures.value) c.in-Ok-retries_of.ensures.each) in
    IfErr-weaker c.drive_tries.result _ _
    (λ e ended now.
    let cut = cut_short _ nodes.step asked old new plan command is c.in-Ok.ensures.order _ (tries_with (targets plan) own) are (nodes.kept c.drive_tries.new.nodes) (nodes.may_refuse c.args.nodes.now) e.answered e.fault ended in
    inr (cut.0, (cut.1 now).0, (cut.1 now).1))
    c.drive_tries.ensures.stopped

pub returns-in-Ok-retries_of-clause-joined : goal.returns-in-Ok-retries_of-clause-joined
returns-in-Ok-retries_of-clause-joined g c =
    let nodes = g.N.Nodes in
    subst (λ (args : Arguments). ReturnsJoined (nodes.registered c.args.nodes.now) args c.args.order.now (nodes.gave c.args.nodes.now) (nodes.gave c.drive_tries.new.nodes) c.drive_tries.result) c.in-Ok.ensures.arguments
    c.drive_tries.ensures.joined

pub returns-in-Ok-retries_of-clause-untouched : goal.returns-in-Ok-retries_of-clause-untouched
returns-in-Ok-retries_of-clause-untouched g c =
    IfErr-weaker c.drive_tries.result _ _
    (λ e ended before. absurd (ended_late _ _ _ _ _ _ _ _ _ _ _ _ e.fault e.answered ended before))
    c.drive_tries.ensures.stopped

pub returns-in-Ok-retries_of-clause-gaps : goal.returns-in-Ok-retries_of-clause-gaps
returns-in-Ok-retries_of-clause-gaps g c = same_command (g.R.Routable.args c.args.command.now)

pub returns-in-Err-clause-gaps : goal.returns-in-Err-clause-gaps
returns-in-Err-clause-gaps g c = same_command (g.R.Routable.args c.args.command.now)

pub returns-in-Err-clause-fault : goal.returns-in-Err-clause-fault
returns-in-Err-clause-fault g c = λ now. inl (c.in-Err.ensures.early, refl, refl)

pub returns-in-Err-clause-cut : goal.returns-in-Err-clause-cut
returns-in-Err-clause-cut g c = inl (c.in-Err.ensures.early, refl, refl)

pub returns-in-Err-clause-joined : goal.returns-in-Err-clause-joined
returns-in-Err-clause-joined g c = λ error is.
    let asked = request (g.R.Routable.args c.args.command.now) (names_of c.args.read_only.now (g.N.Nodes.registered c.args.nodes.now)) c.args.slot_map.now c.args.order.now in
    let old = g.N.Nodes.state c.args.nodes.now in
    absurd (subst (λ (f : DriveFault). IsCauseBeforeSending asked f) is c.in-Err.ensures.early)

pub returns-in-Err-clause-given : goal.returns-in-Err-clause-given
returns-in-Err-clause-given g c =
    record { replies = []; each = refl; gave = λ before was. subst (g.N.Nodes.gave c.args.nodes.now) (sym (append-nil before)) was }

pub returns-in-Err-retries_of-clause-gaps : goal.returns-in-Err-retries_of-clause-gaps
returns-in-Err-retries_of-clause-gaps g c = same_command (g.R.Routable.args c.args.command.now)

pub returns-in-Err-retries_of-clause-fault : goal.returns-in-Err-retries_of-clause-fault
returns-in-Err-retries_of-clause-fault g c = λ now. inl (tt, refl, refl)

pub returns-in-Err-retries_of-clause-cut : goal.returns-in-Err-retries_of-clause-cut
returns-in-Err-retries_of-clause-cut g c = inl (tt, refl, refl)

pub returns-in-Err-retries_of-clause-joined : goal.returns-in-Err-retries_of-clause-joined
returns-in-Err-retries_of-clause-joined g c = λ error is.
    let asked = request (g.R.Routable.args c.args.command.now) (names_of c.args.read_only.now (g.N.Nodes.registered c.args.nodes.now)) c.args.slot_map.now c.args.order.now in
    let old = g.N.Nodes.state c.args.nodes.now in
    absurd (memory_is_no_reply error is)

pub returns-in-Err-retries_of-clause-given : goal.returns-in-Err-retries_of-clause-given
returns-in-Err-retries_of-clause-given g c =
    record { replies = []; each = refl; gave = λ before was. subst (g.N.Nodes.gave c.args.nodes.now) (sym (append-nil before)) was }

pub returns-in-Ok-retries_of-clause-one_answer : goal.returns-in-Ok-retries_of-clause-one_answer
returns-in-Ok-retries_of-clause-one_answer g c = one_answer

pub returns-in-Err-clause-one_answer : goal.returns-in-Err-clause-one_answer
returns-in-Err-clause-one_answer g c = one_answer

pub returns-in-Err-retries_of-clause-one_answer : goal.returns-in-Err-retries_of-clause-one_answer
returns-in-Err-retries_of-clause-one_answer g c = one_answer

pub returns-in-Ok-retries_of-clause-once : goal.returns-in-Ok-retries_of-clause-once
returns-in-Ok-retries_of-clause-once g c =
    let asked = request (g.R.Routable.args c.args.command.now) (names_of c.args.read_only.now (g.N.Nodes.registered c.args.nodes.now)) c.args.slot_map.now c.args.order.now in
    let nodes = g.N.Nodes in
    λ headline. IfOk-weaker c.drive_tries.result _ _
    (λ value tried. delivered_alone _ asked c.args.retries (nodes.state c.args.nodes.now).trace (nodes.state c.drive_tries.new.nodes).trace (nodes.may_refuse c.args.nodes.now) headline c.drive_tries.ensures.allowed tried)
    (returns-in-Ok-retries_of-clause-tried g c)

pub returns-in-Ok-retries_of-clause-headline : goal.returns-in-Ok-retries_of-clause-headline
returns-in-Ok-retries_of-clause-headline g c =
    let asked = request (g.R.Routable.args c.args.command.now) (names_of c.args.read_only.now (g.N.Nodes.registered c.args.nodes.now)) c.args.slot_map.now c.args.order.now in
    let old = g.N.Nodes.state c.args.nodes.now in
    let new = g.N.Nodes.state c.drive_tries.new.nodes in
    let IsTry : Request → SlotRoute → Try → Type 0 = IsTryOf (IsRouteNode c.args.strategy (λ s. (goal.ReadRoutingStrategy-dyn g s.now).picks s.now.1) c.args.slot_map.now c.args.pick) c.args.retries in
    λ headline. IfErr-weaker c.drive_tries.result _ _
    (λ e fault now. headline_retried IsTry g.N.Nodes.step asked old new (g.N.Nodes.may_refuse c.args.nodes.now) headline c.drive_tries.ensures.allowed e.fault e.answered (fault now))
    (returns-in-Ok-retries_of-clause-fault g c)

pub returns-in-Ok-retries_of-clause-carried : goal.returns-in-Ok-retries_of-clause-carried
returns-in-Ok-retries_of-clause-carried g c =
    let asked = request (g.R.Routable.args c.args.command.now) (names_of c.args.read_only.now (g.N.Nodes.registered c.args.nodes.now)) c.args.slot_map.now c.args.order.now in
    let old = g.N.Nodes.state c.args.nodes.now in
    let new = g.N.Nodes.state c.drive_tries.new.nodes in
    let IsTry : Request → SlotRoute → Try → Type 0 = IsTryOf (IsRouteNode c.args.strategy (λ s. (goal.ReadRoutingStrategy-dyn g s.now).picks s.now.1) c.args.slot_map.now c.args.pick) c.args.retries in
    λ routes command can all. IfErr-weaker c.drive_tries.result _ _
    (λ e fault now. carried_retried IsTry g.N.Nodes.step asked old new (g.N.Nodes.may_refuse c.args.nodes.now) routes command can all e.fault e.answered (fault now))
    (returns-in-Ok-retries_of-clause-fault g c)

pub returns-in-Err-clause-allowed : goal.returns-in-Err-clause-allowed
returns-in-Err-clause-allowed g c = allowed_none (g.N.Nodes.may_refuse c.args.nodes.now) (g.N.Nodes.state c.args.nodes.now).trace (g.N.Nodes.state c.args.nodes.now).trace refl

pub returns-in-Err-clause-headline : goal.returns-in-Err-clause-headline
returns-in-Err-clause-headline g c =
    let asked = request (g.R.Routable.args c.args.command.now) (names_of c.args.read_only.now (g.N.Nodes.registered c.args.nodes.now)) c.args.slot_map.now c.args.order.now in
    λ headline now. begins asked headline.routes headline.command headline.drivable c.in-Err.fault c.in-Err.ensures.early

pub returns-in-Err-clause-carried : goal.returns-in-Err-clause-carried
returns-in-Err-clause-carried g c =
    let asked = request (g.R.Routable.args c.args.command.now) (names_of c.args.read_only.now (g.N.Nodes.registered c.args.nodes.now)) c.args.slot_map.now c.args.order.now in
    λ routes command can all now. begins asked routes command can c.in-Err.fault c.in-Err.ensures.early

pub returns-in-Err-retries_of-clause-allowed : goal.returns-in-Err-retries_of-clause-allowed
returns-in-Err-retries_of-clause-allowed g c = allowed_none (g.N.Nodes.may_refuse c.args.nodes.now) (g.N.Nodes.state c.args.nodes.now).trace (g.N.Nodes.state c.args.nodes.now).trace refl

pub returns-in-Err-retries_of-clause-headline : goal.returns-in-Err-retries_of-clause-headline
returns-in-Err-retries_of-clause-headline g c = λ headline now. refl

pub returns-in-Err-retries_of-clause-carried : goal.returns-in-Err-retries_of-clause-carried
returns-in-Err-retries_of-clause-carried g c = λ routes command can all now. refl

pub returns-in-Ok-retries_of-clause-amid : goal.returns-in-Ok-retries_of-clause-amid
returns-in-Ok-retries_of-clause-amid g c =
    let nodes = g.N.Nodes in
    IfOk-weaker c.drive_tries.result _ _
    (λ value. subst (λ (args : Arguments). IsServedAmid nodes.Cell (nodes.registered c.args.nodes.now) args c.args.order.now (nodes.gave c.args.nodes.now) (nodes.gave c.drive_tries.new.nodes) (view value)) c.in-Ok.ensures.arguments)
    c.drive_tries.ensures.amid

pub returns-in-Ok-retries_of-clause-parts : goal.returns-in-Ok-retries_of-clause-parts
returns-in-Ok-retries_of-clause-parts g c = parts_act_by_slot g.N.Nodes.Cell (g.N.Nodes.registered c.args.nodes.now) (g.R.Routable.args c.args.command.now)

pub returns-in-Err-clause-parts : goal.returns-in-Err-clause-parts
returns-in-Err-clause-parts g c = parts_act_by_slot g.N.Nodes.Cell (g.N.Nodes.registered c.args.nodes.now) (g.R.Routable.args c.args.command.now)

pub returns-in-Err-retries_of-clause-parts : goal.returns-in-Err-retries_of-clause-parts
returns-in-Err-retries_of-clause-parts g c = parts_act_by_slot g.N.Nodes.Cell (g.N.Nodes.registered c.args.nodes.now) (g.R.Routable.args c.args.command.now)
